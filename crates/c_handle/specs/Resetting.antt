-- The guest's reboot, as a list of events: 0 is written into the Status of each device in order, and what the host put into it is dropped.
use Prim.Native.Nat.{zero, suc}
use Rattle.std.specs.Prelude.{◌≡◌, ℕ, ◌+◌, ◌≤◌, ◌||◌, Bool, true, false, List, [], ◌∷◌, ◌++◌, if◌then◌else◌, length, map, Option, Some, None}
use Rattle.guestmem.specs.declared.limits.TheConstants.{PAGES_GREATEST}
use Rattle.machine.specs.Parked.{parked_states}
use Rattle.machine.specs.Seen.{state_of}
use Rattle.machine.specs.Shapes.{made_as}
use Rattle.machine.specs.State.{DeviceState}
use Rattle.machine.specs.declared.event.Event.{Event}
use Rattle.machine.specs.declared.event.Event.TheVariants.{RegWrite, Drop}
use Rattle.machine.specs.declared.shape.Shape.{Shape}
use Rattle.machine.specs.declared.shape.Shape.TheVariants.{Net, LongNet, Block, Outside, Console, Entropy}
use Rattle.sender.specs.declared.mig_error.MigError.TheVariants.{AlreadyStopped}
use Rattle.sender.specs.declared.phase.Phase.{Phase}
use Rattle.c_handle.specs.Dropping.{drops_out}
use Rattle.c_handle.specs.Kept.{KeptSeen, LoanSeen, StillLent, MovingLent, State, Still, Moving, Arriving, Lent, parked_in}
use Rattle.c_handle.specs.Mirror.{is_closed}
use Rattle.c_handle.specs.OnHandle.{OnHandle, Unless}
use Rattle.c_machine.specs.Status.{calls_out, done, no_machine}
use Rattle.c_handle.specs.SendStatus.{mig_status}
use Rattle.c_handle.specs.Told.{Tells}

-- An event was applied and done. Its number, if it has one, is not returned.
pub record IsDone (k : State) (e : Event) (next : State) : Type 0 where
  pub number : ℕ
  pub tells : Tells k e done number 0 next

-- Events were, one after another.
abbrev pub AreDone : State → List Event → State → Type 0
AreDone k [] next = next ≡ k
AreDone k (e ∷ es) next = (mid : State) × IsDone k e mid × AreDone mid es next

-- The host puts something into such a device.
abbrev pub has_input : Shape → Bool
has_input (Block sectors read_only id) = false
has_input (Outside sectors read_only id) = false
has_input (Net mac) = true
has_input (LongNet mac longest) = true
has_input Console = true
has_input Entropy = true

-- The events of one device. The register Status lies at 112 of its window (VIRTIO 1.2, 4.2.2).
abbrev pub reset_of : ℕ → Shape → List Event
reset_of dev shape = RegWrite dev 112 4 0 ∷ (if has_input shape then Drop dev ∷ [] else [])

-- Those of the devices of these shapes, of which the first has this number.
abbrev pub resets_from : ℕ → List Shape → List Event
resets_from dev [] = []
resets_from dev (shape ∷ shapes) = reset_of dev shape ++ resets_from (dev + 1) shapes

-- What the devices were made as.
abbrev pub made_in : List DeviceState → List Shape
made_in devices = map (λ d. made_as d.kind) devices

abbrev pub shapes_in : State → List Shape
shapes_in (Still m) = made_in (state_of m).devices
shapes_in (Moving l) = made_in (state_of l.machine).devices
shapes_in (Arriving r) = []
shapes_in (Lent x) = made_in (parked_states (parked_in x))

-- RAM that is lent has pages, as many as RAM may have.
abbrev pub HasPages : State → Type 0
HasPages (Lent x) = (1 ≤ length (parked_in x).memory) × (length (parked_in x).memory ≤ PAGES_GREATEST)
HasPages _ = Unit {0}

-- Why no device is reset: there is no machine, or it was stopped, and takes no event.
abbrev pub stop_refusal : Phase → Option ℕ
stop_refusal phase = if is_closed phase then Some (mig_status AlreadyStopped) else None

abbrev pub loan_refusal : LoanSeen → Option ℕ
loan_refusal (StillLent p) = None
loan_refusal (MovingLent l) = stop_refusal l.phase

-- Why no device is reset and no call of a disk is answered: there is no machine, or it was stopped.
abbrev pub state_refusal : State → Option ℕ
state_refusal (Still m) = None
state_refusal (Moving l) = stop_refusal l.phase
state_refusal (Arriving r) = Some no_machine
state_refusal (Lent x) = loan_refusal x

-- The reset of one of the devices below this number would drop a request whose call is out.
abbrev pub drops_below : ℕ → KeptSeen → Bool
drops_below zero k = false
drops_below (suc dev) k = drops_below dev k || drops_out k dev 112 4 0

abbrev pub drops_any : KeptSeen → Bool
drops_any k = drops_below (length (shapes_in k.state)) k

-- What the state says comes first.
abbrev pub refusal_with : Option ℕ → Bool → Option ℕ
refusal_with (Some reason) drops = Some reason
refusal_with None true = Some calls_out
refusal_with None false = None

abbrev pub ResetsKept : KeptSeen → ℕ → State → Type 0
ResetsKept k status next =
    Unless (refusal_with (state_refusal k.state) (drops_any k)) (λ reason. (status ≡ reason) × (next ≡ k.state)) ((status ≡ done) × AreDone k.state (resets_from 0 (shapes_in k.state)) next)

-- The guest of the machine of a handle reboots, also while its RAM is lent.
abbrev pub Resets : Option KeptSeen → ℕ → Option KeptSeen → Type 0
Resets k status after = OnHandle (λ reason. status ≡ reason) (λ old next. ResetsKept old status next) k after
