-- Answers of walks of which only some pieces of RAM are held.
use Rattle.std.specs.Prelude.{◌≡◌, ℕ, zero, suc, ◌≤◌, List, [], ◌∷◌, drop, length, Option, Some, None}
use Rattle.std.proofs.Common.{arith}
use Rattle.chains.specs.Lacking.{LacksOr, LiesInNone}
use Rattle.chains.specs.declared.lacking.Piece.{Piece}

-- What is known by the rest of a walk.
pub lacks_then : {P Q : Type 0} (size : ℕ) (held : List Piece) (answer : Option Piece) → (P → Q) → LacksOr size held P answer → LacksOr size held Q answer
lacks_then size held None f known = f known
lacks_then size held (Some piece) f lacking = lacking

pub all_known : {P : Type 0} (size : ℕ) (held : List Piece) (answer : Option Piece) → answer ≡ None → LacksOr size held P answer → P
all_known size held None is known = known
all_known size held (Some piece) is lacking = cc

pub none_behind : (piece : Piece) (held : List Piece) (i : ℕ) → length held ≤ i → LiesInNone piece (drop i held)
none_behind piece [] zero few = tt
none_behind piece [] (suc i) few = tt
none_behind piece (p ∷ held) zero few = absurd (omega (arith, few))
none_behind piece (p ∷ held) (suc i) few = none_behind piece held i (omega (arith, few))
