use Rattle.std.proofs.Common.{◌≡◌, ◌≤◌, length, take}
use Rattle.guestmem.specs.Memory.{Memory}
use Rattle.machine.specs.Rings.{FitAll}
use Rattle.machine.proofs.forgetting.forget_all.Given as goal

abbrev pub invariant-loop-n : goal.invariant-loop-n
invariant-loop-n l = record {
  each : length l.rings.items ≡ length l.fn.rings.items;
  within : l.n ≤ length l.rings.items;
  fit : (ram : Memory) → FitAll (take l.n l.rings.items) ram;
}
