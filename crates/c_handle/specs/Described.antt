-- What a handle has, as C gets it.
use Rattle.std.specs.Prelude.{◌≡◌, ℕ, ◌+◌, ◌*◌, ◌-◌, ◌^◌, nat_lt, Bool, true, false, List, [], ◌∷◌, length, map, min, if◌then◌else◌, Option, Some, None}
use Rattle.machine.specs.Layout.{pages_of}
use Rattle.machine.specs.Parked.{ParkedSeen}
use Rattle.machine.specs.Seen.{Seen, state_of}
use Rattle.machine.specs.Shapes.{made_as}
use Rattle.machine.specs.State.{base_of}
use Rattle.machine.specs.declared.machine.TheConstants.{DEVICES_MAX}
use Rattle.machine.specs.declared.shape.Shape.{Shape}
use Rattle.sender.specs.declared.mig_error.MigError.TheVariants.{StreamFailed}
use Rattle.sender.specs.declared.phase.Phase.{Phase}
use Rattle.sender.specs.declared.phase.Phase.TheVariants as phases
use Rattle.c_handle.specs.AdmissionSeen.{AdmissionSeen, Granted, Pending, Denied}
use Rattle.c_handle.specs.ArrivalSeen.{ArrivalSeen}
use Rattle.c_handle.specs.Awaited.{CountsRounds, TellsWhole, awaited_base}
use Rattle.c_handle.specs.CallsOut.{count_out}
use Rattle.c_handle.specs.Kept.{KeptSeen, LoanSeen, StillLent, MovingLent, State, Still, Moving, Arriving, Lent}
use Rattle.c_machine.specs.Description.{message_of, nothing_told, with_shapes}
use Rattle.c_handle.specs.SendStatus.{mig_status}
use Rattle.c_handle.specs.Unmapping.{images_in}
use Rattle.c_handle.specs.declared.told_feeding.Telling.{Telling}
use Rattle.c_machine.specs.declared.description.Description.{Description}
use Rattle.c_machine.specs.declared.setup.TheConstants.{LARGE, LOG, TOLD}

-- The states of a handle that has something. One that has nothing is 0.
abbrev pub is_arriving : ℕ
is_arriving = 1

abbrev pub is_failed : ℕ
is_failed = 2

abbrev pub is_idle : ℕ
is_idle = 3

abbrev pub is_sending : ℕ
is_sending = 4

abbrev pub is_send_failed : ℕ
is_send_failed = 5

abbrev pub is_stopped : ℕ
is_stopped = 6

-- A machine of `pages` pages, whose RAM begins at `base`, with devices that were made as these.
abbrev pub told_machine : ℕ → ℕ → List Shape → Description
told_machine base pages shapes = record (with_shapes nothing_told pages shapes) { state = is_idle; base = base; message = message_of shapes }

abbrev pub told_still : Seen → Description
told_still m = told_machine (base_of (state_of m).devices) (pages_of (state_of m)) (map (λ d. made_as d.kind) (state_of m).devices)

-- As above, where it is being sent, by how far that has come.
abbrev pub sent_as : Description → Phase → Description
sent_as d phases.Fresh = record d { state = is_sending }
sent_as d (phases.Open round) = record d { state = is_sending; rounds = round }
sent_as d phases.Stopped = record d { state = is_stopped }
sent_as d phases.Failed = record d { state = is_send_failed; fault = mig_status StreamFailed }

-- As above, where its RAM is lent.
abbrev pub told_parked : ParkedSeen → Description
told_parked p = record (told_machine (base_of (map (λ d. d.state) p.devices)) (length p.memory) (map (λ d. made_as d.state.kind) p.devices)) { lent = 1 }

abbrev pub told_lent : LoanSeen → Description
told_lent (StillLent p) = told_parked p
told_lent (MovingLent l) = sent_as (told_parked l.machine) l.phase

abbrev pub loan_phase : LoanSeen → Option Phase
loan_phase (StillLent p) = None
loan_phase (MovingLent l) = Some l.phase

-- What arrives: what its header says, once it is whole; or why the stream was refused, and after how many bytes.
abbrev pub number_of : Bool → ℕ
number_of true = 1
number_of false = 0

abbrev pub told_head : ℕ → List Shape → Description
told_head pages shapes = if nat_lt DEVICES_MAX (length shapes) then nothing_told else with_shapes nothing_told pages shapes

abbrev pub told_coming : Description → ℕ → ℕ → Bool → Description
told_coming d base rounds whole = record d { state = is_arriving; base = base; rounds = rounds; whole = number_of whole }

abbrev pub told_failed : ℕ → ℕ → Description
told_failed status fed = record nothing_told { state = is_failed; fault = status; fault_at = fed }

abbrev pub told_arriving : AdmissionSeen → ℕ → ℕ → ℕ → Bool → Description
told_arriving (Denied first) fed base rounds whole = told_failed first fed
told_arriving (Granted pages shapes) fed base rounds whole = told_coming (told_head pages shapes) base rounds whole
told_arriving (Pending allowed expected held) fed base rounds whole = told_coming nothing_told base rounds whole

pub record IsToldArriving (k : KeptSeen) (r : ArrivalSeen) (d : Description) : Type 0 where
  pub rounds : ℕ
  pub whole : Bool
  pub counts : CountsRounds r rounds
  pub tells : TellsWhole r whole
  pub is : d ≡ told_arriving k.admission k.fed (awaited_base r) rounds whole

-- Bit d for device d, whose disk was lost.
abbrev pub lost_bits : List Bool → ℕ
lost_bits [] = 0
lost_bits (b ∷ bs) = number_of b + 2 * lost_bits bs

-- What was asked for when it was made, or let arrive.
abbrev pub log_flag : Option (List Bool) → ℕ
log_flag None = 0
log_flag (Some pages) = LOG

abbrev pub flags_of : Bool → Option (List Bool) → ℕ
flags_of large log = if large then LARGE + log_flag log else log_flag log

-- Whether it arrives, and its host tells the digest.
abbrev pub told_flag : Option Telling → ℕ
told_flag None = 0
told_flag (Some telling) = TOLD

-- By its state, without what each has: its images, which disks were lost, how many calls are out, and what was asked for.
abbrev pub IsToldState : KeptSeen → State → Description → Type 0
IsToldState k (Still m) d = d ≡ told_still m
IsToldState k (Moving l) d = d ≡ sent_as (told_still l.machine) l.phase
IsToldState k (Arriving r) d = IsToldArriving k r d
IsToldState k (Lent x) d = d ≡ told_lent x

pub record IsDescribed (k : KeptSeen) (d : Description) : Type 0 where
  pub told : Description
  pub by_state : IsToldState k k.state told
  pub is : d ≡ record told { images = min (images_in k) (2 ^ 32 - 1); lost = lost_bits k.lost; flags = flags_of k.large k.written + told_flag k.telling; calls_out = count_out k.calls }

-- The description of a handle.
abbrev pub Describes : Option KeptSeen → Description → Type 0
Describes None d = d ≡ nothing_told
Describes (Some k) d = IsDescribed k d
