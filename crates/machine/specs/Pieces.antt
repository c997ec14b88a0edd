-- The pieces of RAM that are held of a step, and when they are stale: once the device was touched since they were begun.
use Rattle.std.specs.Prelude.{◌≡◌, ℕ, ◌-◌, ◌^◌, ◌<◌, ◌==◌, ◌&&◌, Bool, true, false, nat_lt, not, List, length, Some, slice_index}
use Rattle.region.specs.declared.region.Region.{Region}
use Rattle.chains.specs.Lacking.{IsLacking}
use Rattle.chains.specs.declared.lacking.Piece.{Piece}
use Rattle.machine.specs.Beside.{KnowsReads, window_memory}
use Rattle.machine.specs.Parked.{ParkedSeen, back_with}
use Rattle.machine.specs.Seen.{state_of}
use Rattle.machine.specs.Serials.{touched_by, touched_by_all, touched_device}
use Rattle.machine.specs.declared.event.Event.{Event}
use Rattle.machine.specs.declared.pieces.NotMade.{NotMade}
use Rattle.machine.specs.declared.pieces.NotMade.TheVariants.{Lacks, NoMemory, Stale}
use Rattle.machine.specs.declared.work.Work.{Work}

-- Which step they are of, how often its device had been touched when they were begun, and the pieces in order.
pub record PiecesSeen : Type 0 where
  pub work : Work
  pub serial : ℕ
  pub held : List Piece

-- The device was touched since they were begun, or they were begun when its count was the greatest, which shows no touch any more.
abbrev pub is_stale : List ℕ → PiecesSeen → Bool
is_stale serials pieces = not (slice_index serials pieces.work.dev == pieces.serial && nat_lt pieces.serial (2 ^ 64 - 1))

-- Pieces that were not stale before an event that touches their device are stale after it, and stay so.
abbrev pub TouchedIsStale : Type 0
TouchedIsStale = (serials : List ℕ) (pieces : PiecesSeen) (e : Event) (later : List Event) → pieces.work.dev < length serials
    → is_stale serials pieces ≡ false → touched_device e ≡ Some pieces.work.dev → is_stale (touched_by_all (touched_by serials e) later) pieces ≡ true

-- A step may be made with them, over this window: they are fresh, and are all that it reads but for the driver's word.
pub record MayMake (p : ParkedSeen) (window : Region) (serials : List ℕ) (pieces : PiecesSeen) : Type 0 where
  pub fresh : is_stale serials pieces ≡ false
  pub knows : KnowsReads pieces.held (state_of (back_with p (window_memory p window))) pieces.work.dev pieces.work.pick

-- Why no step was made: they are stale; or else it lacks a piece; or memory was refused.
abbrev pub IsWhyNot : ℕ → List ℕ → PiecesSeen → NotMade → Type 0
IsWhyNot size serials pieces Stale = is_stale serials pieces ≡ true
IsWhyNot size serials pieces (Lacks piece) = (is_stale serials pieces ≡ false) × IsLacking size pieces.held piece
IsWhyNot size serials pieces NoMemory = is_stale serials pieces ≡ false
