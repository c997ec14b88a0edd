use Rattle.std.proofs.Common.{◌≡◌, ◌≤◌, [], drop, length, take, vec_len}
use Rattle.std.specs.Prelude.{All}
use Rattle.std.specs.Vec.{vec_capacity}
use Rattle.mapped_disk.specs.declared.image.Image.{Image}
use Rattle.c_machine.proofs.mapping.mapped_disks.Given as goal

abbrev pub invariant-loop-at : goal.invariant-loop-at
invariant-loop-at l = record {
  size : length l.images ≡ length l.fn.images;
  room : length l.fn.images ≤ vec_capacity l.disks;
  count : vec_len l.disks ≡ l.at;
  disks : l.disks.items ≡ take l.at l.fn.images;
  taken : All (λ (i : Image). i.content ≡ []) (take l.at l.images);
  left : drop l.at l.images ≡ drop l.at l.fn.images;
}
