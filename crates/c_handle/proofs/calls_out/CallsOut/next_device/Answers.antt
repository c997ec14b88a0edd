use Rattle.std.proofs.Common.{◌-◌, ◌^◌, arith, refl}
use Rattle.c_handle.proofs.Outs.{next_same, none_same, part_same}
use Rattle.c_handle.proofs.calls_out.CallsOut.next_device.Goals as goal

pub overflow_cast-result : goal.overflow_cast-result
overflow_cast-result g c = omega (arith, c.in_ok-dev.ensures.there, c.self.invariant.0)

pub returns-clause-some : goal.returns-clause-some
returns-clause-some g c =
    let asked = g.T.Asks.asked c.args.machine.now in
    let calls = c.self.inside.calls in
    let next = c.in_ok-dev.ensures.some in
    let part = c.in_ok-dev.ensures.part in
    rw (← c.self.view_is) (record {
      numbered = c.in_ok-dev.ensures.numbered;
      next = (next.0, next.1, next_same 16 (2 ^ 32 - 1) calls asked c.in_ok-dev.dev next.0 next.1 c.self.invariant.0 next.2);
      part = (part.0, part_same 16 (2 ^ 32 - 1) calls asked c.in_ok-dev.dev part.0 c.self.invariant.0 part.1);
    })

pub returns-in_err-dev-clause-none : goal.returns-in_err-dev-clause-none
returns-in_err-dev-clause-none g c =
    rw (← c.self.view_is) (λ is dev j few below. none_same 16 (2 ^ 32 - 1) c.self.inside.calls (g.T.Asks.asked c.args.machine.now) dev j c.self.invariant.0 (c.in_err-dev.ensures.none refl dev j few below))
