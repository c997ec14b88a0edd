-- A step over a window with the pieces that are held of it, of a machine that is being migrated and whose RAM is lent.
use Rattle.std.specs.Prelude.{Result, Ok, Err}
use Rattle.machine.specs.declared.pieces.NotMade.{NotMade}
use Rattle.machine.specs.declared.stepped.Stepped.{Stepped}
use Rattle.sender.specs.declared.mig_error.MigError.{MigError}

-- The phase may refuse the step, and else the pieces may. Of one that was made this holds.
abbrev pub IfMade : Result (Result Stepped NotMade) MigError → (Stepped → Type 0) → Type 0
IfMade (Ok (Ok stepped)) P = P stepped
IfMade (Ok (Err why)) P = Unit {0}
IfMade (Err e) P = Unit {0}

-- Of one that was not made.
abbrev pub IfNotMade : Result (Result Stepped NotMade) MigError → Type 0 → Type 0
IfNotMade (Ok (Ok stepped)) P = Unit {0}
IfNotMade (Ok (Err why)) P = P
IfNotMade (Err e) P = P
