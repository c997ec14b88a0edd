use Rattle.std.proofs.Common.{rules, refl, arith}
use Rattle.vmig.proofs.ComparingReplies.{all_same}
use Rattle.vmig.proofs.comparing.answer_alike.Goals as goal

pub returns : goal.returns
returns c = λ played rest are even. (λ _. all_same c.args.replies.now played _ rest c.args.arrived.now _ (omega (arith, c.loop-i-test.false, c.loop-i.auto.i-end)) (search rules) c.loop-i.invariant are even, λ _. refl)
