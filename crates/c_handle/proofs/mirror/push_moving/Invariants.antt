use Rattle.std.proofs.Common.{◌≡◌, drop, false, length}
use Rattle.c_handle.specs.Mirror.{is_closed}
use Rattle.c_handle.specs.Kept.{FitsLog, Moving}
use Rattle.c_handle.proofs.Mirroring.{IsOnWay}
use Rattle.c_handle.proofs.mirror.push_moving.Given as goal

abbrev pub invariant-loop-n : goal.invariant-loop-n
invariant-loop-n g l = record {
  way : IsOnWay (Moving l.fn.live) l.fn.log l.pages l.ram l.fn.seen (Moving l.live) l.log (drop l.n-index l.pages) l.seen;
  bytes : length l.live.machine.memory.bytes ≡ length l.fn.live.machine.memory.bytes;
  versions : length l.live.machine.memory.versions ≡ length l.fn.live.machine.memory.versions;
  going : is_closed l.live.phase ≡ false;
  fits : FitsLog l.log (length l.live.machine.memory.bytes);
}
