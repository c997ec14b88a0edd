-- What a walk of RAM answers where only some pieces of it are held: a piece that is lacking, or that none is.
use Rattle.std.specs.Prelude.{ℕ, ◌+◌, ◌<◌, ◌≤◌, List, [], ◌∷◌, length, Option, Some, None}
use Rattle.chains.specs.Footprint.{Knows, list_pieces, slot_pieces}
use Rattle.chains.specs.declared.descriptor.Descriptor.{Descriptor}
use Rattle.chains.specs.declared.lacking.Piece.{Piece}
use Rattle.chains.specs.declared.lacking.Walked.{Walked}
use Rattle.chains.specs.declared.lacking.Walked.TheVariants.{Lacks, Ends, Breaks}

-- A piece lies in another one.
abbrev pub LiesIn : Piece → Piece → Type 0
LiesIn piece outer = outer.at ≤ piece.at × piece.at + piece.count ≤ outer.at + outer.count

abbrev pub LiesInNone : Piece → List Piece → Type 0
LiesInNone piece [] = Unit {0}
LiesInNone piece (outer ∷ held) = (LiesIn piece outer → ⊥) × LiesInNone piece held

-- A piece that is still to be copied: it has some bytes, lies inside a RAM of this length, and in none of the pieces that are held. So nobody
-- is asked for a piece twice.
pub record IsLacking (size : ℕ) (held : List Piece) (piece : Piece) : Type 0 where
  pub some : 0 < piece.count
  pub inside : piece.at + piece.count ≤ size
  pub fresh : LiesInNone piece held

-- A piece is lacking, or this is known.
abbrev pub LacksOr : ℕ → List Piece → Type 0 → Option Piece → Type 0
LacksOr size held Known None = Known
LacksOr size held Known (Some piece) = IsLacking size held piece

-- The answer of a walk that reads these pieces.
abbrev pub TellsLacking : List Piece → List ℕ → List Piece → Option Piece → Type 0
TellsLacking held ram ps answer = LacksOr (length ram) held (Knows held ram ps) answer

-- What is known once a walk of a list has stopped: all that it read, but for the piece that it lacks. Where it came to the end of the list,
-- that is all but what is read after the last descriptor.
abbrev pub WalkKnows : List Piece → List ℕ → ℕ → ℕ → ℕ → ℕ → Walked → Type 0
WalkKnows held ram table entries room index (Lacks piece) = IsLacking (length ram) held piece
WalkKnows held ram table entries room index (Ends last) = (behind : Descriptor → List Piece) → Knows held ram (behind last) → Knows held ram (list_pieces behind ram table entries room index)
WalkKnows held ram table entries room index Breaks = (behind : Descriptor → List Piece) → Knows held ram (list_pieces behind ram table entries room index)

-- The same of a walk of consecutive slots.
abbrev pub SlotsKnow : List Piece → List ℕ → ℕ → ℕ → ℕ → ℕ → Walked → Type 0
SlotsKnow held ram table size room slot (Lacks piece) = IsLacking (length ram) held piece
SlotsKnow held ram table size room slot (Ends last) = (behind : Descriptor → List Piece) → Knows held ram (behind last) → Knows held ram (slot_pieces behind ram table size room slot)
SlotsKnow held ram table size room slot Breaks = (behind : Descriptor → List Piece) → Knows held ram (slot_pieces behind ram table size room slot)
