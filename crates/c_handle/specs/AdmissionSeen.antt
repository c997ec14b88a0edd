-- What contracts see of what is asked of a machine that arrives.
use Rattle.std.specs.Prelude.{ℕ, List}
use Rattle.machine.specs.declared.shape.Shape.{Shape}
use Rattle.c_handle.specs.declared.admission.Allowed.{Allowed}

-- The header is as it has to be, of a machine of these pages and devices; or it is not whole: this is allowed, these devices are
-- expected, and these are the bytes so far; or the stream was refused, first with this status.
pub data AdmissionSeen : Type 0 where
  Granted : ℕ → List Shape → AdmissionSeen
  Pending : Allowed → List Shape → List ℕ → AdmissionSeen
  Denied : ℕ → AdmissionSeen
