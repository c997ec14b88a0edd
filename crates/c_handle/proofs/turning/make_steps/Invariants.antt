use Rattle.c_handle.proofs.CallTurns.{IsOn}
use Rattle.c_handle.proofs.turning.make_steps.Given as goal

abbrev pub invariant-loop-made : goal.invariant-loop-made
invariant-loop-made l = IsOn l.fn.kept l.fn.turn l.fn.buf l.made l.kept l.turn l.buf
