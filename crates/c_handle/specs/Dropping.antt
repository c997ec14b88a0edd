-- Register writes that would drop a request whose call is out: they are not made.
use Rattle.std.specs.Prelude.{◌≡◌, ℕ, ◌&&◌, not, Bool, true, false, Option, slice_get}
use Rattle.disk_calls.specs.Calls.{is_out_of}
use Rattle.machine.specs.Dropping as machines
use Rattle.machine.specs.Parked.{parked_states}
use Rattle.machine.specs.Seen.{state_of}
use Rattle.machine.specs.declared.event.Event.TheVariants.{RegWrite}
use Rattle.c_machine.specs.Status.{calls_out}
use Rattle.c_handle.specs.Kept.{KeptSeen, LoanSeen, StillLent, MovingLent, State, Still, Moving, Arriving, Lent}
use Rattle.c_handle.specs.Mirror.{is_closed}
use Rattle.c_handle.specs.OnHandle.{OnHandle, Refuses}
use Rattle.c_handle.specs.Told.{TellsOr}
use Rattle.c_handle.specs.declared.serving.TheConstants.{NO_BYTE}

-- A write drops requests that may have asked something of a disk outside. A machine that was stopped takes no write.
abbrev pub loan_drops : LoanSeen → ℕ → ℕ → ℕ → ℕ → Bool
loan_drops (StillLent p) dev off width value = machines.drops_in (slice_get (parked_states p) dev) off width value
loan_drops (MovingLent l) dev off width value = not (is_closed l.phase) && machines.drops_in (slice_get (parked_states l.machine) dev) off width value

abbrev pub drops_in : State → ℕ → ℕ → ℕ → ℕ → Bool
drops_in (Still m) dev off width value = machines.drops_of (state_of m) dev off width value
drops_in (Moving l) dev off width value = not (is_closed l.phase) && machines.drops_of (state_of l.machine) dev off width value
drops_in (Arriving r) dev off width value = false
drops_in (Lent x) dev off width value = loan_drops x dev off width value

-- And a call of its device is out.
abbrev pub drops_out : KeptSeen → ℕ → ℕ → ℕ → ℕ → Bool
drops_out k dev off width value = is_out_of k.calls dev && drops_in k.state dev off width value

-- It is refused then, and nothing changed; any other write is the machine's event.
abbrev pub WritesIf : Bool → State → ℕ → ℕ → ℕ → ℕ → ℕ → ℕ → ℕ → State → Type 0
WritesIf true k dev off width value status byte before next = Refuses status byte before calls_out × (next ≡ k)
WritesIf false k dev off width value status byte before next = TellsOr NO_BYTE k (RegWrite dev off width value) status byte before next

abbrev pub WritesReg : KeptSeen → ℕ → ℕ → ℕ → ℕ → ℕ → ℕ → ℕ → State → Type 0
WritesReg k dev off width value status byte before next = WritesIf (drops_out k dev off width value) k.state dev off width value status byte before next

-- The driver wrote a register of the machine of a handle.
abbrev pub WroteReg : Option KeptSeen → ℕ → ℕ → ℕ → ℕ → ℕ → ℕ → ℕ → Option KeptSeen → Type 0
WroteReg k dev off width value status byte before after = OnHandle (Refuses status byte before) (λ old next. WritesReg old dev off width value status byte before next) k after
