-- What the first bytes of a stream announce, before a machine arrives by them.
use Rattle.std.specs.Prelude.{◌≡◌, ◌⊎◌, ℕ, List}
use Rattle.machine.specs.Limits.{greatest}
use Rattle.machine.specs.declared.limits.Limits.{Limits}
use Rattle.wire.specs.Header.{Begins, Opening}
use Rattle.receiver.specs.Faults.{ShowsHeaderFault, TellsHead, WaitsHead}
use Rattle.receiver.specs.declared.recv_error.RecvError.{RecvError}
use Rattle.receiver.specs.declared.recv_error.RecvError.TheVariants.{NoMemory}
use Rattle.c_handle.specs.Awaited.{stream_status}
use Rattle.c_machine.specs.Description.{message_of, nothing_told, with_shapes}
use Rattle.c_machine.specs.Status.{done, more, no_memory}
use Rattle.c_machine.specs.declared.description.Description.{Description}

-- The bytes begin with no whole header, and with no fault of one, of a machine as large as can be.
pub record IsAwaited (bytes : List ℕ) (status : ℕ) : Type 0 where
  pub status_is : status ≡ more
  pub waits : WaitsHead greatest bytes

-- The status of what refuses a header that nothing arrives by. Where memory was refused nothing is over by it: that has the status of
-- all calls.
abbrev pub heading_status : RecvError → ℕ
heading_status NoMemory = no_memory
heading_status error = stream_status error

-- The header has this fault within the limits, unless memory was refused. The fault has a status.
pub record IsRefusedAt (limits : Limits) (status_for : RecvError → ℕ) (bytes : List ℕ) (status : ℕ) : Type 0 where
  pub error : RecvError
  pub status_is : status ≡ status_for error
  pub why : TellsHead error (ShowsHeaderFault limits bytes error)

-- The pages and the devices of the machine that arrives are returned, and the size of a buffer that is enough for its steps.
pub record IsAnnounced (bytes : List ℕ) (status : ℕ) (told : Description) : Type 0 where
  pub opening : Opening
  pub rest : List ℕ
  pub begins : Begins bytes opening rest
  pub status_is : status ≡ done
  pub told_is : told ≡ record (with_shapes nothing_told opening.pages opening.shapes) { message = message_of opening.shapes }

pub record IsNotAnnounced (bytes : List ℕ) (status : ℕ) (told old : Description) : Type 0 where
  pub why : IsAwaited bytes status ⊎ IsRefusedAt greatest heading_status bytes status
  pub same : told ≡ old

abbrev pub Announces : List ℕ → ℕ → Description → Description → Type 0
Announces bytes status told old = IsAnnounced bytes status told ⊎ IsNotAnnounced bytes status told old
