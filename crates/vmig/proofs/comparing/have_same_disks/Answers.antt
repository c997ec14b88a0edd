use Rattle.std.proofs.Common.{refl, arith}
use Rattle.machine.specs.Seen.{state_of}
use Rattle.vmig.proofs.Likeness.{disks_same}
use Rattle.vmig.proofs.comparing.have_same_disks.Goals as goal

pub returns-clause-same : goal.returns-clause-same
returns-clause-same g c = λ a_steady b_steady.
    let i = c.loop-dev.invariant in
    let all = disks_same (state_of c.args.a.now) (state_of c.args.b.now) _ i.a_sound i.b_sound i.a_many i.b_many (λ k below. i.same a_steady b_steady k (omega (arith, below, c.loop-dev-test.false))) in
    (λ _. all, λ _. refl)
