use Rattle.std.proofs.Common.{◌≡◌, ◌≤◌, ◌+◌, ◌++◌, length, map, vec_len}
use Rattle.std.specs.Vec.{vec_capacity}
use Rattle.machine.specs.First.{AreMarksOf, counted, marked}
use Rattle.machine.proofs.machine.room.all_marked.Given as goal

abbrev pub invariant-loop-disk : goal.invariant-loop-disk
invariant-loop-disk g l = record {
  room : vec_len l.all + length l.bad.rest.items ≤ vec_capacity l.all;
  sizes : AreMarksOf (map g.D.Disk.state l.disk-iterator.rest.items) l.bad.rest.items;
  so_far : l.all.items ++ counted (map g.D.Disk.calls l.disk-iterator.rest.items) (marked (map g.D.Disk.state l.disk-iterator.rest.items) l.bad.rest.items) ≡ counted (map g.D.Disk.calls l.fn.disks.items) (marked (map g.D.Disk.state l.fn.disks.items) l.fn.bad.items);
}
