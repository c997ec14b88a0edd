-- Which step of the machine of a handle has something to do, and whether the disk has to be durable before it; and whether a disk outside is to be asked for
-- something where no step has.
use Rattle.std.specs.Prelude.{◌≡◌, ◌⊎◌, map, ℕ, Bool, true, false, List, Option, Some, None, slice_get, slice_index_or, if◌then◌else◌}
use Rattle.blk.specs.declared.durable.SyncOwed.{SyncOwed}
use Rattle.blk.specs.declared.request.Request.{Request}
use Rattle.blk.specs.declared.durable.SyncOwed.TheVariants.{Nothing, Flush, EndOfWrite}
use Rattle.machine.specs.NextWork.{next_work_with_lost}
use Rattle.machine.specs.Outside.{asking_requests}
use Rattle.machine.specs.Parked.{parked_states}
use Rattle.machine.specs.Seen.{state_of}
use Rattle.machine.specs.State.{DeviceState}
use Rattle.machine.specs.declared.work.Work.{Work}
use Rattle.sender.specs.declared.mig_error.MigError.TheVariants.{AlreadyStopped}
use Rattle.c_handle.specs.CallsOut.{HasNoCall, IsCallNext}
use Rattle.c_handle.specs.Durable.{owed_for}
use Rattle.c_handle.specs.Kept.{KeptSeen, State}
use Rattle.c_handle.specs.Mirror.{is_closed}
use Rattle.c_handle.specs.OnHandle.{OfEachState, RefusesBoth}
use Rattle.c_handle.specs.Outside.{devices_of}
use Rattle.c_machine.specs.Status.{call, idle, no_machine, sync, work}
use Rattle.c_handle.specs.SendStatus.{mig_status}

-- A step makes a flush, or ends a write after which the driver takes what was written for durable: what was written has to be durable
-- before. Of a disk that is lost nothing is asked for any more.
abbrev pub owed_status : SyncOwed → ℕ
owed_status Nothing = work
owed_status Flush = sync
owed_status EndOfWrite = sync

abbrev pub work_status : List Bool → List DeviceState → Work → ℕ
work_status lost devices w = if slice_index_or lost w.dev false then work else owed_status (owed_for (slice_get devices w.dev) w.pick)

-- The status and the two numbers of a step that was found. If none was, the numbers are unchanged.
abbrev pub NamesWork : List Bool → List DeviceState → Option Work → ℕ → ℕ → ℕ → ℕ → ℕ → Type 0
NamesWork lost devices (Some w) status dev old_dev pick old_pick = (status ≡ work_status lost devices w) × (dev ≡ w.dev) × (pick ≡ w.pick)
NamesWork lost devices None status dev old_dev pick old_pick = RefusesBoth status dev old_dev pick old_pick idle

-- The first step, in turn, after the one that the numbers named, also of a machine whose RAM is lent. One that would end a write of a lost disk is passed over.
abbrev pub FindsWorkOf : List Bool → List DeviceState → ℕ → ℕ → ℕ → ℕ → ℕ → Type 0
FindsWorkOf lost devices status dev old_dev pick old_pick =
    NamesWork lost devices (next_work_with_lost devices lost (record { dev = old_dev; pick = old_pick })) status dev old_dev pick old_pick

-- A machine that was stopped makes no steps.
abbrev pub FindsUnless : Bool → List Bool → List DeviceState → ℕ → ℕ → ℕ → ℕ → ℕ → Type 0
FindsUnless true lost devices status dev old_dev pick old_pick = RefusesBoth status dev old_dev pick old_pick (mig_status AlreadyStopped)
FindsUnless false lost devices status dev old_dev pick old_pick = FindsWorkOf lost devices status dev old_dev pick old_pick

abbrev pub FindsIn : List Bool → State → ℕ → ℕ → ℕ → ℕ → ℕ → Type 0
FindsIn lost state status dev old_dev pick old_pick =
    OfEachState (RefusesBoth status dev old_dev pick old_pick) (λ m. FindsWorkOf lost (state_of m).devices status dev old_dev pick old_pick) (λ l. FindsUnless (is_closed l.phase) lost (state_of l.machine).devices status dev old_dev pick old_pick)
    (λ p. FindsWorkOf lost (parked_states p) status dev old_dev pick old_pick) (λ l. FindsUnless (is_closed l.phase) lost (parked_states l.machine) status dev old_dev pick old_pick) state

abbrev pub FindsWork : KeptSeen → ℕ → ℕ → ℕ → ℕ → ℕ → Type 0
FindsWork k status dev old_dev pick old_pick = FindsIn k.lost k.state status dev old_dev pick old_pick

-- The requests of each device that may ask for something, of a machine in each state.
abbrev pub asked_in : State → List (List Request)
asked_in k = map asking_requests (devices_of k)

-- A step was found, or refused; or no step has something to do. Then, if a call of a disk outside may be handed out, the number of its device is told:
-- it is idle exactly where no step has something to do and no such call waits.
pub record HasFoundStep (k : KeptSeen) (status dev old_dev pick old_pick : ℕ) : Type 0 where
  pub finds : FindsWork k status dev old_dev pick old_pick
  pub no_call : status ≡ idle → HasNoCall k.calls (asked_in k.state)

pub record HasFoundCall (k : KeptSeen) (status dev old_dev pick old_pick : ℕ) : Type 0 where
  pub no_step : FindsWork k idle old_dev old_dev old_pick old_pick
  pub next : IsCallNext k.calls (asked_in k.state) dev
  pub status_is : status ≡ call
  pub pick_same : pick ≡ old_pick

abbrev pub FindsNext : KeptSeen → ℕ → ℕ → ℕ → ℕ → ℕ → Type 0
FindsNext k status dev old_dev pick old_pick = HasFoundStep k status dev old_dev pick old_pick ⊎ HasFoundCall k status dev old_dev pick old_pick

abbrev pub FoundWork : Option KeptSeen → ℕ → ℕ → ℕ → ℕ → ℕ → Type 0
FoundWork None status dev old_dev pick old_pick = RefusesBoth status dev old_dev pick old_pick no_machine
FoundWork (Some k) status dev old_dev pick old_pick = FindsNext k status dev old_dev pick old_pick
