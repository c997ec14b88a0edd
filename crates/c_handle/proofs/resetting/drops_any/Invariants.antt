use Rattle.std.proofs.Common.{◌≡◌, false}
use Rattle.c_handle.specs.Resetting.{drops_below}
use Rattle.c_handle.proofs.resetting.drops_any.Given as goal

abbrev pub invariant-loop-dev : goal.invariant-loop-dev
invariant-loop-dev l = drops_below l.dev l.kept ≡ false
