use Rattle.std.proofs.Common.{◌≡◌, ℕ, List, ◌++◌, ◌*◌, ◌%◌, ◌≤◌, length, take}
use Rattle.c_digest.specs.Holding.{Absorbs}
use Rattle.c_digest.proofs.digest.Digest.take_blocks.Given as goal

abbrev pub invariant-whole : goal.invariant-whole
invariant-whole l =
    (l.self.length ≡ l.fn.self.length) × (l.self.reserved ≡ l.fn.self.reserved) × (64 * l.n ≤ length l.bytes)
    × ((message : List ℕ) → length message % 64 ≡ 0 → Absorbs l.fn.self message → Absorbs l.self (message ++ take (64 * l.n) l.bytes))
