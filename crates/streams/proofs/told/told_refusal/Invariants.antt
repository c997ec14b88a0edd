use Rattle.std.proofs.Common.{ℕ, List, ◌≤◌, ◌-◌, length}
use Rattle.sha2.specs.Hashers.{Holds256}
use Rattle.receiver.specs.Receiving.{HasBeenFed}
use Rattle.streams.proofs.told.told_refusal.Given as goal

abbrev pub invariant-loop-fed : goal.invariant-loop-fed
invariant-loop-fed l = record {
  within : l.fed ≤ length l.stream;
  summed : (b : List ℕ) × HasBeenFed l.receiver b × Holds256 l.sum b;
}

abbrev pub decreases-loop-fed : goal.decreases-loop-fed
decreases-loop-fed l = length l.stream - l.fed
