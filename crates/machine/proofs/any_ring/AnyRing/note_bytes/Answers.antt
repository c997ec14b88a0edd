use Rattle.machine.proofs.Emptiness.{packed_bytes, packed_place, split_bytes}
use Rattle.machine.proofs.any_ring.AnyRing.note_bytes.Goals as goal

pub packed_note-requires : goal.packed_note-requires
packed_note-requires c = rw c.positions-in-Packed.ensures (packed_place c.in-Packed.ring.state (rw c.in-Packed.is at c.requires.may) c.note-note-in-Packed.ensures.layout)

pub returns-in-Split : goal.returns-in-Split
returns-in-Split c = rw c.in-Split.is (split_bytes c.in-Split.ring.state c.split_note.result c.note-note.ensures.layout (rw c.positions.ensures at c.split_note.ensures))

pub returns-in-Packed : goal.returns-in-Packed
returns-in-Packed c = rw c.in-Packed.is (packed_bytes c.in-Packed.ring.state c.packed_note.result c.note-note-in-Packed.ensures.layout (rw c.positions-in-Packed.ensures at c.packed_note.ensures))
