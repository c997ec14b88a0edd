use Rattle.std.proofs.Common.{◌≡◌, ◌+◌, ◌-◌, ◌≤◌, ◌<◌, ◌++◌, ℕ, List, length, take}
use Rattle.std.specs.Prelude.{Ok}
use Rattle.receiver.specs.Calls.{Feeds}
use Rattle.receiver.specs.Receiving.{HasBeenFed}
use Rattle.receiver.specs.Sums.{IsClear}
use Rattle.receiver.proofs.receiver.Receiver+D+Told.feed_some.Given as goal

abbrev pub invariant-loop-used : goal.invariant-loop-used
invariant-loop-used g l = record {
  within : l.used ≤ length l.piece;
  shorter : length l.self.held ≤ length l.fn.self.held + l.used;
  so_far : Feeds l.fn.self (take l.used l.piece) (Ok tt) l.self;
  same : l.used ≡ 0 → l.self ≡ l.fn.self;
  clear : 0 < l.used → (b : List ℕ) → HasBeenFed l.fn.self b → IsClear l.self.digest l.self.ram l.self.sizes (b ++ take l.used l.piece);
}

abbrev pub decreases-loop-used : goal.decreases-loop-used
decreases-loop-used g l = length l.piece - l.used
