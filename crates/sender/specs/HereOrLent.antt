-- The calls that need no byte of RAM, of a machine that is being migrated: said once, whether its RAM is here or lent. Where it is here, each is
-- what that call does; where it is lent, it is so whatever RAM holds meanwhile.
use Rattle.std.specs.Prelude.{◌≡◌, ◌≢◌, ℕ, ◌/◌, Bool, false, List, Result, IfErr, IfOk, OnOk, length, map, slice_get}
use Rattle.machine.specs.Known.{Between, Here, IsSomeRam, Known, Lent, Whatever}
use Rattle.machine.specs.Layout.{Layout}
use Rattle.machine.specs.Over.{calls_in, sectors_in}
use Rattle.machine.specs.Seen.{DeviceSeen, states_of}
use Rattle.machine.specs.Unsynced.{flushes_if}
use Rattle.machine.specs.declared.event.Event.{Event}
use Rattle.sender.specs.Calls.{Serves, StopsWithin}
use Rattle.sender.specs.LiveState.{LiveSeenOver, live_with}
use Rattle.sender.specs.Reads.{HasLiveCalled}
use Rattle.sender.specs.StopBytes.{longest_stop}
use Rattle.sender.specs.Stopping.{IsLive, SetsFit}
use Rattle.sender.specs.Unsynced.{FlushesLiveDisk, TriesFlush}
use Rattle.sender.specs.declared.event.LiveEvent.TheVariants.{EndRound, Guest}
use Rattle.sender.specs.declared.event.LiveReply.{LiveReply}
use Rattle.sender.specs.declared.mig_error.MigError.{MigError}
use Rattle.sender.specs.declared.mig_error.MigError.TheVariants.{AlreadyStopped}
use Rattle.sender.specs.declared.phase.Phase.{Phase}
use Rattle.sender.specs.declared.phase.Phase.TheVariants as phases

-- How many pages RAM has, and the layout of a machine with this RAM and these devices.
abbrev pub pages_in : Known → ℕ
pages_in (Here m) = length m.bytes / 4096
pages_in (Lent versions) = length versions

abbrev pub layout_over : Known → List DeviceSeen → Layout
layout_over k devices = record { pages = pages_in k; disks = map length (map (λ d. d.sectors) devices) }

-- What holds of every machine that is being migrated: of one whose RAM is here as `IsLive` says; of one whose RAM is lent that there is such a RAM,
-- and that its sets fit.
abbrev pub IsLiveOver : Known → List DeviceSeen → Phase → List Bool → List Bool → List ℕ → ℕ → Type 0
IsLiveOver (Here m) devices phase due dirty firsts at = IsLive (record { memory = m; devices = devices }) phase due dirty firsts at
IsLiveOver (Lent versions) devices phase due dirty firsts at = IsSomeRam (Lent versions) × SetsFit (layout_over (Lent versions) devices) phase due dirty firsts at

-- An event of the guest was served.
abbrev pub ServesOver : {M : Type 0} → (M → Known) → LiveSeenOver M → Event → LiveReply → LiveSeenOver M → Type 0
ServesOver known old e reply new = Between (known old.machine.memory) (known new.machine.memory) (λ m n. Serves (live_with old m) (Guest e) reply (live_with new n))

-- It called the disks as its step does.
abbrev pub GuestCallsOver : {M : Type 0} → (M → Known) → (ℕ → ℕ) → LiveSeenOver M → Event → LiveReply → LiveSeenOver M → Type 0
GuestCallsOver known called old e reply new = Between (known old.machine.memory) (known new.machine.memory) (λ m n. HasLiveCalled called (live_with old m) (Guest e) reply (live_with new n))

-- What of it names no RAM: only the machine changed, and neither what its disks hold nor how often they were called; the call is refused once the
-- machine is stopped, and then nothing has changed.
pub record LeavesRest {M A : Type 0} (old : LiveSeenOver M) (result : Result A MigError) (new : LiveSeenOver M) : Type 0 where
  pub rest : new ≡ record old { machine = new.machine }
  pub sectors : sectors_in new.machine ≡ sectors_in old.machine
  pub calls : calls_in new.machine ≡ calls_in old.machine
  pub runs : OnOk result (old.phase ≢ phases.Stopped)
  pub refused : IfErr result (λ x. (x ≡ AlreadyStopped) × (old.phase ≡ phases.Stopped) × (new ≡ old))

-- A disk was flushed beside all steps, or in place of a step that failed.
abbrev pub FlushesLiveOver : {M T E : Type 0} → (M → Known) → LiveSeenOver M → ℕ → Result T E → LiveSeenOver M → Type 0
FlushesLiveOver known old dev result new = Between (known old.machine.memory) (known new.machine.memory) (λ m n. FlushesLiveDisk (live_with old m) dev result (live_with new n))

abbrev pub TriesFlushOver : {M : Type 0} → (M → Known) → LiveSeenOver M → ℕ → ℕ → Result Bool MigError → LiveSeenOver M → Type 0
TriesFlushOver known old dev pick result new = Between (known old.machine.memory) (known new.machine.memory) (λ m n. TriesFlush (live_with old m) dev pick result (live_with new n))

-- What of it names no RAM: the result says whether the step of this pick flushes a disk, and where it does not nothing has changed.
abbrev pub SaysWhether : {M : Type 0} → LiveSeenOver M → ℕ → ℕ → Result Bool MigError → LiveSeenOver M → Type 0
SaysWhether old dev pick result new = IfOk result (λ was. (was ≡ flushes_if (slice_get (states_of old.machine) dev) pick) × (was ≡ false → new ≡ old))

-- A round was ended.
abbrev pub EndsOver : {M : Type 0} → (M → Known) → LiveSeenOver M → LiveReply → LiveSeenOver M → Type 0
EndsOver known old reply new = Between (known old.machine.memory) (known new.machine.memory) (λ m n. Serves (live_with old m) EndRound reply (live_with new n))

-- What of it names no RAM: the machine stays as it is, each set has as many entries as before, and the guest may still run after it.
pub record LeavesMachine {M : Type 0} (old new : LiveSeenOver M) : Type 0 where
  pub machine : new.machine ≡ old.machine
  pub due_size : length new.due ≡ length old.due
  pub dirty_size : length new.dirty ≡ length old.dirty
  pub goes : old.phase ≢ phases.Stopped → new.phase ≢ phases.Stopped

-- A stop would write so many bytes at the most.
abbrev pub IsStopBytesOver : {M : Type 0} → (M → Known) → LiveSeenOver M → ℕ → Type 0
IsStopBytesOver known l bytes = Whatever (known l.machine.memory) (λ m. StopsWithin (live_with l m) bytes) × (bytes ≡ longest_stop (pages_in (known l.machine.memory)) l.due l.dirty (states_of l.machine))
