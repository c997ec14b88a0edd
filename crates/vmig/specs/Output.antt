-- What was written to standard output, and how a run of the program failed. An output of some kind comes with an ending: the
-- fault that is reported after it, if any.
use Rattle.std.specs.Prelude.{◌≡◌, ◌⊎◌, ℕ, List, [], ◌∷◌, Option, Some, None}
use Rattle.std.specs.Io.KnownBytes.{Appends, Keeps}
use Rattle.traces.specs.Replies.{AppendsBeginning}
use Rattle.vmig.specs.Faults.{TellsOfFile, TellsOfOutput}
use Rattle.vmig.specs.declared.fault.Fault.{Fault}

-- The list has exactly one element.
pub record IsOne {A : Type 0} (list : List A) : Type 0 where
  pub only : A
  pub is : list ≡ only ∷ []

-- An output of this kind was written.
pub record HasWritten (IsOutput : List ℕ → Type 0) (old new : Option (List ℕ)) : Type 0 where
  pub output : List ℕ
  pub asked : IsOutput output
  pub written : Appends old new output

-- A beginning of an output of this kind was written.
pub record HasBegun (IsOutput : Option Fault → List ℕ → Type 0) (old new : Option (List ℕ)) : Type 0 where
  pub ending : Option Fault
  pub output : List ℕ
  pub asked : IsOutput ending output
  pub begun : AppendsBeginning old new output

-- An output after which no fault is reported.
abbrev pub Silently : (List ℕ → Type 0) → Option Fault → List ℕ → Type 0
Silently IsOutput None output = IsOutput output
Silently IsOutput (Some fault) output = ⊥

-- It failed: before anything was written, or because standard output failed, or after its whole output.
abbrev pub RunFails : (Fault → Type 0) → (Option Fault → List ℕ → Type 0) → Option (List ℕ) → Option (List ℕ) → Fault → Type 0
RunFails Tells IsOutput old new fault = (Tells fault × Keeps old new) ⊎ (TellsOfOutput fault × HasBegun IsOutput old new) ⊎ HasWritten (IsOutput (Some fault)) old new

-- As above, for the file of this name. No contract says what a file holds, so it is said of some text.
abbrev pub HasDoneFile : (List ℕ → Option Fault → List ℕ → Type 0) → Option (List ℕ) → Option (List ℕ) → Type 0
HasDoneFile IsOutput old new = (text : List ℕ) × HasWritten (IsOutput text None) old new

abbrev pub FailsOnFile : List ℕ → (List ℕ → Fault → Type 0) → (List ℕ → Option Fault → List ℕ → Type 0) → Option (List ℕ) → Option (List ℕ) → Fault → Type 0
FailsOnFile named Tells IsOutput old new fault = (TellsOfFile named fault × Keeps old new) ⊎ ((text : List ℕ) × RunFails (Tells text) (IsOutput text) old new fault)
