use Rattle.std.proofs.Common.{drop, map, take, Option}
use Rattle.guestmem.specs.Address.{index_of}
use Rattle.chains.specs.Places.{places}
use Rattle.chains.specs.declared.lacking.Piece.{Piece}
use Rattle.machine.specs.Writing.{IsNext}
use Rattle.machine.proofs.stores.parts.part_from.Given as goal

abbrev pub invariant-loop-seg : goal.invariant-loop-seg
invariant-loop-seg l = (r : Option Piece) → IsNext (map (index_of l.base) (take l.left (drop l.skip (places (drop l.seg-index l.segs))))) 0 r → IsNext (map (index_of l.fn.base) (take l.fn.left (drop l.fn.skip (places l.fn.segs)))) 0 r
