use Rattle.std.proofs.Common.{◌≡◌, ◌+◌, ◌∙◌, arith, refl}
use Rattle.c_handle.specs.CallsOut.{count_out, of_each}
use Rattle.c_handle.proofs.Outs.{handed_below, handed_same, more_fit, none_same, one_more}
use Rattle.c_handle.proofs.calls_out.CallsOut.next.Goals as goal

pub returns-in_err-handed-clause-nothing : goal.returns-in_err-handed-clause-nothing
returns-in_err-handed-clause-nothing g c =
    rw (← c.self.view_is) (λ is dev j few below. none_same 16 c.args.most c.self.inside.calls (g.T.Asks.asked c.args.machine.now) dev j c.self.invariant.0 (c.in_err-handed.ensures.nothing refl dev j few below))

pub overflow_add-self : goal.overflow_add-self
overflow_add-self g c =
    let fits = more_fit c.self.inside.calls 16 c.self.invariant.1 c.self.invariant.0 (omega arith) in
    omega (arith, fits, c.self.invariant.2)

pub invariant_of-self-2 : goal.invariant_of-self-2
invariant_of-self-2 g c =
    let one = one_more c.args.most c.self.inside.calls c.next.new.self (of_each 16 (g.T.Asks.asked c.args.machine.now)) c.in_ok-handed.handed c.self.invariant.1 c.in_ok-handed.ensures.some in
    let more : c.self.inside.count + 1 ≡ count_out c.next.new.self = omega (arith, one.count, c.self.invariant.2) in
    (one.size ∙ c.self.invariant.0, one.few, more)

pub returns-clause-some : goal.returns-clause-some
returns-clause-some g c =
    rw (← c.self.view_is) (handed_same 16 c.args.most c.self.inside.calls c.next.new.self (g.T.Asks.asked c.args.machine.now) c.in_ok-handed.handed c.self.invariant.0 c.in_ok-handed.ensures.some)

pub returns-clause-there : goal.returns-clause-there
returns-clause-there g c = let below = handed_below c.args.most c.self.inside.calls c.next.new.self (of_each 16 (g.T.Asks.asked c.args.machine.now)) c.in_ok-handed.handed c.in_ok-handed.ensures.some in omega (arith, below, c.self.invariant.0)
