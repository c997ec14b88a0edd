-- The handle and its parts own what a box at the same types owns.
use mir.Syntax.{impl, tnil, dnil}
use mathlib.Core.List.{[]}
use denote.Signature.{Slot, plain}
use Rattle.std.proofs.BoxSteps.Form.{Bx}
use Rattle.std.specs.contracts.alloc.Global as Heap
use Rattle.std.specs.contracts.impls.GlobalAllocator.TheImpl.{ghosts, dict}
use Rattle.std.proofs.alloc.Global.TheLaws as heap
use Rattle.c_handle.proofs.kept.Kept.TheLaws as kept
use Rattle.raw_box.specs.contracts.open_box.OpenBox as OpenBox
use Rattle.c_handle.specs.Owned.{kept_row}
use Rattle.c_handle.specs.contracts.handle.Handle as Handle

abbrev pub E : Bx
E = record { row = kept_row; laws = kept.the_row_laws; al = record { row = Heap.the_row; laws = heap.the_row_laws; g = ghosts; d = dict; drops = impl [] tnil dnil } }

abbrev pub FromOpen : Slot 0
FromOpen = plain (λ _. OpenBox.the_row kept_row Heap.the_row ghosts)

abbrev pub FromHandle : Slot 0
FromHandle = plain (λ _. Handle.the_row)
