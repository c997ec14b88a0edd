use Rattle.std.proofs.Common.{Bool, drop, map}
use Rattle.guestmem.specs.Address.{index_of}
use Rattle.chains.specs.Places.{places}
use Rattle.machine.specs.Opening.{TellsShared}
use Rattle.machine.proofs.sharing.segments_meet.Given as goal

abbrev pub invariant-loop-seg : goal.invariant-loop-seg
invariant-loop-seg l = (b : Bool) → TellsShared (map (index_of l.base) (places (drop l.seg-index l.segs))) l.fn.piece b → TellsShared (map (index_of l.fn.base) (places l.fn.segs)) l.fn.piece b
