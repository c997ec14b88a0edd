-- What applying an event does to a machine, as contracts see it.
use Rattle.std.specs.Prelude.{◌≡◌, ◌≢◌, ℕ, List, [], ◌∷◌, slice_set, IsTrue, Bool, true, false, Option, Some, None, Result, Ok, Err, IfOk, OnOk, OnErr, if◌then◌else◌}
use Rattle.guestmem.specs.Item.{Item, after_all}
use Rattle.guestmem.specs.Later.{IsLater}
use Rattle.guestmem.specs.Rises.{Rises}
use Rattle.blk.specs.Sectors.{IsGiven, Sector, is_bad}
use Rattle.blk.specs.declared.sectors.Fetched.{Fetched}
use Rattle.blk.specs.declared.sectors.Fetched.TheVariants.{Bad, Failed, Read}
use Rattle.machine.specs.BadSectors.{bad_on}
use Rattle.machine.specs.Effect.{Effect, SectorSet, applied, items_of}
use Rattle.machine.specs.EffectLaws.{HasItem, IsSameShape, sector_on, sectors_on}
use Rattle.machine.specs.Outcome.{is_failure, outcome_of}
use Rattle.machine.specs.Seen.{Seen, Marks, state_of, all_flushed, all_marks, is_flushed_at, marks_at, failed_at}
use Rattle.machine.specs.Sound.{IsSound}
use Rattle.machine.specs.State.{MachineState}
use Rattle.machine.specs.Unsynced.{makes_flush}
use Rattle.machine.specs.Step.{HasEffect, disk_of}
use Rattle.machine.specs.declared.event.Event.{Event}
use Rattle.machine.specs.declared.event.Event.TheVariants.{Step}
use Rattle.machine.specs.declared.reply.Reply.{Reply}
use Rattle.machine.specs.declared.reply.Reply.TheVariants.{Moved}

-- The log may take in every item of the machine.
abbrev pub MayItems : {L : Type 0} → (L → Item → Type 0) → L → MachineState → Type 0
MayItems may log m = (i : Item) → HasItem m i → may log i

-- The disk that an event may call is honest. Of all events only a step of a device calls a disk: that of the device.
abbrev pub IsHonestFor : List Marks → Event → Type 0
IsHonestFor marks (Step dev pick) = IsTrue (marks_at marks dev).honest
IsHonestFor marks e = Unit {0}

-- Where the reply says that the disk failed, the failure count of the device's disk goes up by one (modulo 2^64). Nothing else
-- changes.
abbrev pub marks_after : List Marks → Event → Reply → List Marks
marks_after marks (Step dev pick) reply = if is_failure reply then failed_at marks dev else marks
marks_after marks e reply = marks

-- A steady disk never fails: the reply says that the device's disk failed only if that disk is not steady.
abbrev pub FailsOnlyUnsteady : List Marks → Event → Reply → Type 0
FailsOnlyUnsteady marks (Step dev pick) reply = is_failure reply ≡ true → (marks_at marks dev).steady ≡ false
FailsOnlyUnsteady marks e reply = Unit {0}

-- The sectors of the device's disk, as the disk returned them while a step was applied. For another event, which calls no disk,
-- the list is empty.
abbrev pub IsGivenFor : List Marks → MachineState → Event → List Sector → Type 0
IsGivenFor marks m (Step dev pick) given = IsGiven (marks_at marks dev).honest (disk_of m dev) given
IsGivenFor marks m e given = given ≡ []

-- The machine with the sectors of that disk as the disk returned them.
abbrev pub as_given : MachineState → Event → List Sector → MachineState
as_given m (Step dev pick) given = record m { disks = slice_set m.disks dev given }
as_given m e given = m

-- Every sector that is set becomes a bad one.
abbrev pub AreMadeBad : List SectorSet → Type 0
AreMadeBad [] = Unit {0}
AreMadeBad (s ∷ ss) = (is_bad s.content ≡ true) × AreMadeBad ss

-- What a step does to disks, with any disks: those of other devices hold what they held; and after a step that made its driver's flush,
-- and answered that this is done, the disk of its device is flushed (VIRTIO 1.2, 5.2.6).
pub record KeepsDisks (old : Seen) (dev pick : ℕ) (reply : Reply) (new : Seen) : Type 0 where
  pub others : (k : ℕ) → k ≢ dev → disk_of (state_of new) k ≡ disk_of (state_of old) k
  pub flushed : makes_flush (state_of old) dev pick ≡ true → reply ≡ Moved → IsTrue (is_flushed_at new dev)

-- Of all events only a step calls a disk.
abbrev pub DisksAfter : Seen → Event → Reply → Seen → Type 0
DisksAfter old (Step dev pick) reply new = KeepsDisks old dev pick reply new
DisksAfter old e reply new = Unit {0}

-- An event was applied: the reply and the effect are those of a step, with the outcome that the reply reports, of the machine
-- with the sectors as the disk returned them. RAM, the devices and which sectors are bad are as the effect says, whatever the
-- disk does. So are the contents of the sectors, if the effect only makes sectors bad, or if the disk is honest. The machine
-- keeps its shape and is sound, its RAM is a later one (`IsLater`) whose versions rise in exactly the pages that the effect writes
-- into (`Rises`), the marks of the disks count the failure if the reply reports one, and a steady disk does not fail. A step changes no
-- disk but that of its device, and has flushed that disk where it says so, whatever the disks do.
pub record IsApplied (old : Seen) (e : Event) (reply : Reply) (new : Seen) : Type 0 where
  pub given : List Sector
  pub is_given : IsGivenFor (all_marks old) (state_of old) e given
  pub effect : Effect
  pub has : HasEffect (as_given (state_of old) e given) e (outcome_of reply) reply effect
  pub ram : (state_of new).ram ≡ (applied (state_of old) effect).ram
  pub devices : (state_of new).devices ≡ (applied (state_of old) effect).devices
  pub bad : bad_on (state_of new).disks ≡ bad_on (applied (state_of old) effect).disks
  pub unwritten : AreMadeBad effect.sectors → (state_of new).disks ≡ (applied (state_of old) effect).disks
  pub changed : IsHonestFor (all_marks old) e → state_of new ≡ applied (state_of old) effect
  pub shape : IsSameShape (state_of old) (state_of new)
  pub sound : IsSound (state_of new)
  pub later : IsLater old.memory new.memory
  pub rises : Rises (items_of effect) old.memory new.memory
  pub marks : all_marks new ≡ marks_after (all_marks old) e reply
  pub unsteady : FailsOnlyUnsteady (all_marks old) e reply
  pub disks : DisksAfter old e reply new

-- As above, with a log: it has taken in exactly the items that the effect writes into.
pub record IsAppliedLogged {L : Type 0} (taking : L → Item → L) (old : Seen) (log : L) (e : Event) (reply : Reply) (new : Seen) (new_log : L) : Type 0 where
  pub is_applied : IsApplied old e reply new
  pub logged : new_log ≡ after_all taking log (items_of is_applied.effect)

-- The events of a list were applied one after another, with these replies.
abbrev pub AreApplied : Seen → List Event → List Reply → Seen → Type 0
AreApplied old [] [] new = new ≡ old
AreApplied old (e ∷ es) (r ∷ rs) new = (next : Seen) × IsApplied old e r next × AreApplied next es rs new
AreApplied old es rs new = ⊥

-- A sector that exists and is not bad.
abbrev pub IsGood : Option Sector → Type 0
IsGood found = (bytes : List ℕ) × (found ≡ Some (Some bytes))

-- The result of a read of a sector. `true`: the sector is good, and if the disk is honest the bytes are its contents. `false`:
-- the sector is bad. An error: the disk failed; this happens only for a good sector, and only if the disk is not steady. The
-- state of the machine is unchanged, and the marks count a failure.
abbrev pub IsFound : Marks → Option Sector → List ℕ → Bool → Type 0
IsFound marks found bytes true = IsGood found × (IsTrue marks.honest → found ≡ Some (Some bytes))
IsFound marks found bytes false = found ≡ Some None

-- What the disk returned of a sector, as that result.
abbrev pub Tells : {E : Type 0} → Fetched → Result Bool E → Type 0
Tells Read result = result ≡ Ok true
Tells Bad result = result ≡ Ok false
Tells {E} Failed result = (e : E) × (result ≡ Err e)

pub record ReadsSector {E : Type 0} (old : Seen) (dev n : ℕ) (bytes : List ℕ) (result : Result Bool E) (new : Seen) : Type 0 where
  pub memory : new.memory ≡ old.memory
  pub state : state_of new ≡ state_of old
  pub flushed : all_flushed new ≡ all_flushed old
  pub marks : OnOk result (all_marks new ≡ all_marks old)
  pub failed : OnErr result (all_marks new ≡ failed_at (all_marks old) dev)
  pub unsteady : OnErr result ((marks_at (all_marks old) dev).steady ≡ false)
  pub good : OnErr result (IsGood (sector_on (sectors_on (state_of old) dev) n))
  pub found : IfOk result (λ good. IsFound (marks_at (all_marks old) dev) (sector_on (sectors_on (state_of old) dev) n) bytes good)

-- The marks of the disks after a list of events with these replies, and which failures there may be.
abbrev pub marks_run : List Marks → List Event → List Reply → List Marks
marks_run marks [] rs = marks
marks_run marks (e ∷ es) [] = marks
marks_run marks (e ∷ es) (r ∷ rs) = marks_run (marks_after marks e r) es rs

abbrev pub FailOnlyUnsteady : List Marks → List Event → List Reply → Type 0
FailOnlyUnsteady marks [] rs = Unit {0}
FailOnlyUnsteady marks (e ∷ es) [] = Unit {0}
FailOnlyUnsteady marks (e ∷ es) (r ∷ rs) = FailsOnlyUnsteady marks e r × FailOnlyUnsteady (marks_after marks e r) es rs
