use Rattle.c_handle.specs.Outside.{devices_of}
use Rattle.c_handle.proofs.ListedCalls.{AreSoFar}
use Rattle.c_handle.proofs.listing.list_oldest.Given as goal

abbrev pub invariant-loop-at : goal.invariant-loop-at
invariant-loop-at l = AreSoFar (devices_of l.kept.state) l.kept.calls l.fn.calls l.calls l.number l.at
