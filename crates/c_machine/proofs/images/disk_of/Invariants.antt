use Rattle.std.proofs.Common.{◌≡◌, ◌*◌, length, take}
use Rattle.std.specs.List.{concat}
use Rattle.c_machine.proofs.images.disk_of.Given as goal

abbrev pub invariant-loop-n : goal.invariant-loop-n
invariant-loop-n l = record {
  count : length l.disk ≡ l.sectors;
  bytes : concat (take l.n l.disk) ≡ take (512 * l.n) l.image;
}
