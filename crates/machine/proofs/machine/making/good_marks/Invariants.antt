use Rattle.std.proofs.Common.{◌≡◌, ◌≤◌, length, map, take, vec_len}
use Rattle.std.specs.List.{All}
use Rattle.std.specs.Vec.{vec_capacity}
use Rattle.blk.specs.Disk.{AreSectors}
use Rattle.machine.specs.First.{good_marks}
use Rattle.machine.proofs.machine.making.good_marks.Given as goal

abbrev pub invariant-loop-disk : goal.invariant-loop-disk
invariant-loop-disk g l = record {
  room : length l.disks ≤ vec_capacity l.bad;
  count : vec_len l.bad ≡ l.disk-index;
  good : l.bad.items ≡ good_marks (map g.D.Disk.state (take l.disk-index l.disks));
  whole : All (λ d. AreSectors (g.D.Disk.state d).sectors) (take l.disk-index l.disks);
}
