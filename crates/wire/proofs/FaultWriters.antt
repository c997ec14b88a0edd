-- A put that does not fit.
use Rattle.std.proofs.Common.{◌≡◌, ◌<◌, ℕ, List, length, Some, None, Result, subst, arith}
use Rattle.std.specs.Prelude.{IsErr}
use Rattle.wire.specs.FaultWriter.{FaultWriterState, HasPart, IsPut}

pub part_taken : {T E : Type 0} (old new : FaultWriterState) (bytes : List ℕ) (result : Result T E) (room : ℕ) → old.room ≡ Some room → room < length bytes → new.flush_fails ≡ old.flush_fails → IsErr result → new.room ≡ None → HasPart old.inner bytes room new.inner
    → IsPut old bytes result new
part_taken old new bytes result room is less plan failed none part = record {
  plan = plan;
  fits = λ other same le. let e : room ≡ other = cc in absurd (omega (arith, less, le, e));
  full = λ other same lt. let e : room ≡ other = cc in (failed, none, subst (λ (n : ℕ). HasPart old.inner bytes n new.inner) e part);
  closed = λ gone. absurd cc;
}
