use Rattle.std.proofs.Common.{◌≡◌}
use Rattle.receiver.specs.Disks.{disk_marks_of, sizes_of}
use Rattle.receiver.specs.Opened.{greatest_at, terms_at}
use Rattle.rehearsal.proofs.Pieces.{IsFed}
use Rattle.rehearsal.proofs.rehearsing.receive_in_pieces.Given as goal

abbrev pub invariant-loop-cut : goal.invariant-loop-cut
invariant-loop-cut g l = record {
  ram : l.receiver.ram ≡ terms_at (greatest_at l.fn.base);
  sizes : l.receiver.sizes ≡ sizes_of g.E.Disk.state l.fn.disks.items;
  marks : l.receiver.marks ≡ disk_marks_of g.E.Disk.state l.fn.disks.items;
  fed : IsFed l.receiver l.bytes l.rest;
}
