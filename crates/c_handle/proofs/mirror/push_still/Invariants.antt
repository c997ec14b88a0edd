use Rattle.std.proofs.Common.{◌≡◌, drop, length}
use Rattle.c_handle.specs.Kept.{FitsLog, Still}
use Rattle.c_handle.proofs.Mirroring.{IsOnWay}
use Rattle.c_handle.proofs.mirror.push_still.Given as goal

abbrev pub invariant-loop-n : goal.invariant-loop-n
invariant-loop-n g l = record {
  way : IsOnWay (Still l.fn.machine) l.fn.log l.pages l.ram l.fn.seen (Still l.machine) l.log (drop l.n-index l.pages) l.seen;
  bytes : length l.machine.memory.bytes ≡ length l.fn.machine.memory.bytes;
  versions : length l.machine.memory.versions ≡ length l.fn.machine.memory.versions;
  fits : FitsLog l.log (length l.machine.memory.bytes);
}
