use Rattle.std.proofs.Common.{Bool, drop}
use Rattle.machine.specs.Opening.{TellsShared}
use Rattle.machine.specs.Stored.{indexes_of}
use Rattle.machine.proofs.sharing.pieces_meet.Given as goal

abbrev pub invariant-loop-one : goal.invariant-loop-one
invariant-loop-one l = (b : Bool) → TellsShared (indexes_of (drop l.one-index l.pieces)) l.fn.piece b → TellsShared (indexes_of l.fn.pieces) l.fn.piece b
