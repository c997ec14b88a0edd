-- Sectors that are read out.
use Rattle.std.specs.Prelude.{◌≡◌, ℕ, not, nat_lt, if◌then◌else◌, List, Option, Some, None, slice_get}
use Rattle.blk.specs.Sectors.{Sector}
use Rattle.machine.specs.EffectLaws.{sector_on, sectors_on}
use Rattle.machine.specs.Refusal.{code_of}
use Rattle.machine.specs.Seen.{Seen, state_of}
use Rattle.machine.specs.Shapes.{disk_size_of, made_as}
use Rattle.machine.specs.State.{DeviceState}
use Rattle.machine.specs.declared.reply.Refusal.TheVariants.{NoDevice, WrongKind}
use Rattle.sender.specs.declared.mig_error.MigError.TheVariants.{AlreadyBegun}
use Rattle.c_handle.specs.Moving.{IsKept}
use Rattle.c_handle.specs.OnHandle.{OnHandle, Refuses, Unless}
use Rattle.c_machine.specs.Plain.{ArePlain}
use Rattle.c_machine.specs.Status.{bad_sector, done, lent, no_machine, no_sector}
use Rattle.c_handle.specs.SendStatus.{mig_status}
use Rattle.c_handle.specs.Kept.{KeptSeen, State, Still, Moving, Arriving, Lent}

-- Why a read of a sector is refused, if it is.
abbrev pub disk_refusal : Option ℕ → ℕ → Option ℕ
disk_refusal None n = Some (code_of WrongKind)
disk_refusal (Some sectors) n = if not (nat_lt n sectors) then Some no_sector else None

abbrev pub sector_refusal_of : Option DeviceState → ℕ → Option ℕ
sector_refusal_of None n = Some (code_of NoDevice)
sector_refusal_of (Some d) n = disk_refusal (disk_size_of (made_as d.kind)) n

abbrev pub sector_refusal : State → ℕ → ℕ → Option ℕ
sector_refusal (Moving l) dev n = Some (mig_status AlreadyBegun)
sector_refusal (Arriving r) dev n = Some no_machine
sector_refusal (Lent x) dev n = Some lent
sector_refusal (Still m) dev n = sector_refusal_of (slice_get (state_of m).devices dev) n

-- A sector was copied to the buffer. A bad one was not, and the buffer is unchanged.
abbrev pub SectorTold : Option Sector → ℕ → List ℕ → List ℕ → Type 0
SectorTold None status buf new_buf = ⊥
SectorTold (Some None) status buf new_buf = (status ≡ bad_sector) × (new_buf ≡ buf)
SectorTold (Some (Some bytes)) status buf new_buf = (status ≡ done) × (new_buf ≡ bytes)

pub record ReadsOut (m : Seen) (dev n status : ℕ) (buf new_buf : List ℕ) (next : Seen) : Type 0 where
  pub kept : IsKept m next
  pub told : ArePlain m → SectorTold (sector_on (sectors_on (state_of m) dev) n) status buf new_buf

abbrev pub ReadsOpen : State → ℕ → ℕ → ℕ → List ℕ → List ℕ → State → Type 0
ReadsOpen (Still m) dev n status buf new_buf (Still next) = ReadsOut m dev n status buf new_buf next
ReadsOpen _ dev n status buf new_buf _ = ⊥

abbrev pub ReadsKept : State → ℕ → ℕ → ℕ → List ℕ → List ℕ → State → Type 0
ReadsKept k dev n status buf new_buf next =
    Unless (sector_refusal k dev n) (λ reason. Refuses status new_buf buf reason × (next ≡ k)) (ReadsOpen k dev n status buf new_buf next)

-- A sector of a disk of the machine of a handle was read.
abbrev pub SectorRead : Option KeptSeen → ℕ → ℕ → ℕ → List ℕ → List ℕ → Option KeptSeen → Type 0
SectorRead k dev n status buf new_buf after = OnHandle (Refuses status new_buf buf) (λ old next. ReadsKept old.state dev n status buf new_buf next) k after
