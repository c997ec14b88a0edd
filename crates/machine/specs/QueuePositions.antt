use Rattle.std.specs.Prelude.{◌≡◌, ℕ, ◌<◌, ◌^◌, true, Bool, List, [], ◌∷◌, if◌then◌else◌}
use Rattle.std.specs.Bool.{MatchBool}
use Rattle.chains.specs.declared.position.Position.{Position}
use Rattle.chains.specs.declared.position.Positions.{Positions}
use Rattle.mmio.specs.Bits.{has}
use Rattle.mmio.specs.declared.common.Common.{Common}
use Rattle.mmio.specs.declared.queue.Queue.{Queue}

-- The positions in a queue from which nothing was taken yet: index 0, wrap counter 1 (VIRTIO 1.2, 2.7 and 2.8.1).
abbrev pub first_position : Position
first_position = record { place = 0; wrap = true }

abbrev pub first_positions : Positions
first_positions = record { taking = first_position; used = first_position }

-- The positions in queues after a register write: a queue that is not ready goes back to the first positions, and one that is
-- ready keeps its own.
abbrev pub restarted_positions : List Queue → List Positions → List Positions
restarted_positions [] ps = []
restarted_positions (q ∷ qs) [] = []
restarted_positions (q ∷ qs) (p ∷ ps) = (if q.is_ready then p else first_positions) ∷ restarted_positions qs ps

-- Whether the driver's features name the packed layout.
abbrev pub is_packed_by : Common → Bool
is_packed_by c = has c.features (2 ^ 34)

-- Positions in a ready queue: in a packed ring both indices are below its size, and in a split ring both wrap counters are
-- still 1.
abbrev pub ArePlaced : Bool → ℕ → Positions → Type 0
ArePlaced packed size p = MatchBool packed ((p.taking.place < size) × (p.used.place < size)) ((p.taking.wrap ≡ true) × (p.used.wrap ≡ true))

-- Positions that a queue can have.
pub record HasPositions (packed : Bool) (q : Queue) (p : Positions) : Type 0 where
  pub taking_fits : p.taking.place < 2 ^ 16
  pub used_fits : p.used.place < 2 ^ 16
  pub where_ready : MatchBool q.is_ready (ArePlaced packed q.size p) (p ≡ first_positions)

-- Each queue has positions that it can have, and there are no others.
abbrev pub HavePositions : Bool → List Queue → List Positions → Type 0
HavePositions packed [] [] = Unit {0}
HavePositions packed (q ∷ qs) (p ∷ ps) = HasPositions packed q p × HavePositions packed qs ps
HavePositions packed qs ps = ⊥
