use Rattle.std.proofs.Common.{◌≡◌, ◌-◌, ◌∙◌, arith}
use Rattle.c_handle.specs.CallsOut.{count_out}
use Rattle.c_handle.proofs.Outs.{one_fewer}
use Rattle.c_handle.proofs.calls_out.CallsOut.remove.Goals as goal

pub overflow_sub-self : goal.overflow_sub-self
overflow_sub-self c =
    let at = rw (← c.self.view_is) at c.requires.1 in
    let one = one_fewer c.self.inside.calls c.remove.new.self c.args.place.dev c.args.place.i _ c.self.invariant.1 at c.remove.ensures.answered in
    omega (arith, one.count, c.self.invariant.2)

pub invariant_of-self : goal.invariant_of-self
invariant_of-self c =
    let at = rw (← c.self.view_is) at c.requires.1 in
    let one = one_fewer c.self.inside.calls c.remove.new.self c.args.place.dev c.args.place.i _ c.self.invariant.1 at c.remove.ensures.answered in
    let left : c.self.inside.count - 1 ≡ count_out c.remove.new.self = omega (arith, one.count, c.self.invariant.2) in
    (one.size ∙ c.self.invariant.0, one.few, left)
