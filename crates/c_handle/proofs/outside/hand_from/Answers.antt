use Rattle.std.proofs.Common.{arith}
use Rattle.machine.specs.Seen.{state_of}
use Rattle.c_handle.proofs.Asked.{asked_for}
use Rattle.c_handle.proofs.outside.hand_from.Goals as goal

pub tell_call-requires-clause-asked : goal.tell_call-requires-clause-asked
tell_call-requires-clause-asked g c =
    asked_for c.most_for.result (state_of c.args.machine.now) c.args.calls.now c.next.new.self c.in-Some.handed (omega (arith, c.most_for.ensures, c.requires)) c.in-Some.ensures.some
