-- Machines as bytes.
use Rattle.std.specs.Prelude.{◌≡◌, ◌⊎◌, ℕ, nat_lt, Bool, true, false, List, ◌++◌, length, drop, Option}
use Rattle.machine.specs.Seen.{Seen, state_of}
use Rattle.sender.specs.Calls.{IsSameButCalls}
use Rattle.sender.specs.declared.mig_error.MigError.TheVariants.{AlreadyBegun}
use Rattle.wire.specs.Stream.{whole}
use Rattle.c_machine.specs.Plain.{ArePlain}
use Rattle.c_machine.specs.Status.{done, more, no_memory}
use Rattle.c_handle.specs.SendStatus.{mig_status}
use Rattle.c_handle.specs.Kept.{KeptSeen, State}
use Rattle.c_handle.specs.OnHandle.{ByState, OnHandle, RefusesBoth}

-- A machine that was read for its stream is unchanged, but for the counts of its disks' calls.
pub record IsKept (old new : Seen) : Type 0 where
  pub memory : new.memory ≡ old.memory
  pub state : state_of new ≡ state_of old
  pub same : ArePlain old → IsSameButCalls old new

-- A stream that goes into a buffer, where it fits, or else leaves it as it was.
abbrev pub PutIf : Bool → List ℕ → ℕ → List ℕ → List ℕ → Type 0
PutIf true stream status buf new_buf = (status ≡ more) × (new_buf ≡ buf)
PutIf false stream status buf new_buf = (status ≡ done) × (new_buf ≡ stream ++ drop (length stream) buf)

-- The whole stream of the machine was made; its length is returned also where it did not fit.
pub record IsSaved (m : Seen) (status len : ℕ) (buf new_buf : List ℕ) : Type 0 where
  pub stream : List ℕ
  pub is_whole : ArePlain m → stream ≡ whole (state_of m)
  pub len_is : len ≡ length stream
  pub put : PutIf (nat_lt (length buf) (length stream)) stream status buf new_buf

-- As above, unless memory was refused.
pub record HasSaved (m : Seen) (status len old_len : ℕ) (buf new_buf : List ℕ) (next : Seen) : Type 0 where
  pub kept : IsKept m next
  pub told : IsSaved m status len buf new_buf ⊎ RefusesBoth status len old_len new_buf buf no_memory

-- The stream does not fit: its length is returned, whatever the disks do, and nothing changed.
pub record HasMeasured (m : Seen) (status len : ℕ) (buf new_buf : List ℕ) (next : Seen) : Type 0 where
  pub status_is : status ≡ more
  pub len_is : len ≡ length (whole (state_of m))
  pub buf_same : new_buf ≡ buf
  pub same : next ≡ m

abbrev pub SavesIf : Bool → Seen → ℕ → ℕ → ℕ → List ℕ → List ℕ → Seen → Type 0
SavesIf true m status len old_len buf new_buf next = HasMeasured m status len buf new_buf next
SavesIf false m status len old_len buf new_buf next = HasSaved m status len old_len buf new_buf next

abbrev pub Saves : Seen → ℕ → ℕ → ℕ → List ℕ → List ℕ → Seen → Type 0
Saves m status len old_len buf new_buf next = SavesIf (nat_lt (length buf) (length (whole (state_of m)))) m status len old_len buf new_buf next

-- A machine that is being migrated is not saved.
abbrev pub SavesKept : State → ℕ → ℕ → ℕ → List ℕ → List ℕ → State → Type 0
SavesKept k status len old_len buf new_buf next =
    let refused = RefusesBoth status len old_len new_buf buf in
    ByState refused (λ m after. Saves m status len old_len buf new_buf after) (λ l after. refused (mig_status AlreadyBegun) × (after ≡ l)) k next

-- The machine of a handle was saved.
abbrev pub Saved : Option KeptSeen → ℕ → ℕ → ℕ → List ℕ → List ℕ → Option KeptSeen → Type 0
Saved k status len old_len buf new_buf after = OnHandle (RefusesBoth status len old_len new_buf buf) (λ old next. SavesKept old.state status len old_len buf new_buf next) k after
