use Rattle.std.proofs.Common.{arith, sym, ◌∙◌}
use Rattle.machine.specs.AnyRing.{ring_in}
use Rattle.machine.proofs.Writing.{packed_note, split_note}
use Rattle.machine.proofs.any_ring.AnyRing.note.Goals as goal
use Rattle.machine.proofs.any_ring.AnyRing.note.Goals.{in-Split, in-Packed}

pub returns-in-Some-clause-near : goal.returns-in-Some-clause-near
returns-in-Some-clause-near c = elim c.match-self.branch [
  | in-Split w ↦ (split_note c.requires.areas.0 (ring_in c.args.self.now) w.note-note.result c.in-Some.piece c.requires.areas.1 c.requires.areas.2 (rw w.in-Split.is w.note-note.ensures.layout) (rw w.in-Split.is w.note-note.ensures.note) (sym w.note-is ∙ c.in-Some.is), (omega arith, tt))
  | in-Packed w ↦ (packed_note c.requires.areas.0 (ring_in c.args.self.now) w.note-note-in-Packed.result c.in-Some.piece c.requires.areas.1 c.requires.areas.2 (rw w.in-Packed.is w.note-note-in-Packed.ensures.layout) (rw w.in-Packed.is w.note-note-in-Packed.ensures.note) (sym w.note-is ∙ c.in-Some.is), (omega arith, tt))
]
