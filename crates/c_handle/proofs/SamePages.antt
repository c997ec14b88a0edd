-- No call changes how many bytes RAM has, so a log that fits a machine fits it after each call.
use Rattle.std.proofs.Common.{◌≡◌, ◌≤◌, ◌+◌, ◌*◌, nat_lt, ℕ, zero, suc, Bool, true, false, List, refl, sym, ap, ◌∙◌, subst, arith, length}
use Rattle.std.specs.Prelude.{Option, Some, None, MatchOption}
use Rattle.std.proofs.lemmas.Bool.Decides.{nat_tests}
use Rattle.disk_calls.specs.declared.calls.Place.{Place}
use Rattle.guestmem.specs.Memory.{IsMemory}
use Rattle.machine.specs.Applied.{IsApplied}
use Rattle.machine.specs.Parked.{IsAppliedParked, IsParked, ParkedSeen, machine_marked}
use Rattle.machine.specs.Seen.{Seen, state_of}
use Rattle.machine.specs.Unsynced.{FailsFlushIf, makes_flush}
use Rattle.machine.specs.declared.event.DiskAnswer.{DiskAnswer}
use Rattle.machine.specs.declared.event.Event.{Event}
use Rattle.machine.specs.declared.event.Event.TheVariants.{Disk}
use Rattle.machine.specs.declared.reply.Reply.{Reply}
use Rattle.region.specs.declared.region.Region.{Region}
use Rattle.region.specs.declared.slot.Slot.{Slot}
use Rattle.sender.proofs.AsTold.{served_shape}
use Rattle.sender.proofs.Fresh.{same_as_it_is}
use Rattle.sender.specs.Calls.{Serves}
use Rattle.sender.specs.LiveState.{LiveSeen, now, refusal_for}
use Rattle.sender.specs.Marks.{live_marked}
use Rattle.sender.specs.Parked.{LiveParkedSeen, with_pages}
use Rattle.sender.specs.ParkedCalls.{GuestsParked, ServesParked}
use Rattle.sender.specs.Unsynced.{FailsLiveFlushIf}
use Rattle.sender.specs.declared.event.LiveEvent.{LiveEvent}
use Rattle.sender.specs.declared.event.LiveEvent.TheVariants.{Guest, Begin}
use Rattle.sender.specs.declared.event.LiveReply.{LiveReply}
use Rattle.sender.specs.declared.event.LiveReply.TheVariants as live
use Rattle.sender.specs.declared.mig_error.MigError.{MigError}
use Rattle.c_handle.specs.ArrivalSeen.{ArrivalSeen}
use Rattle.c_handle.specs.Arriving.{Ends, FinishesState, has_more, outgrows}
use Rattle.c_handle.specs.Awaited.{HasArrived, ram_coming}
use Rattle.c_handle.specs.DiskCalls.{MeetsParked, asker_lent}
use Rattle.c_handle.specs.Durable.{FailsSync, FailsUnless}
use Rattle.c_handle.specs.HandingIn.{HandsPage, page_refusal}
use Rattle.c_handle.specs.Kept.{FitsLog, LoanSeen, StillLent, MovingLent, State, Still, Moving, Arriving, Lent, parked_in, ram_in}
use Rattle.c_handle.specs.Lent.{HasComeBack, IsLiveLoan, IsReturnable}
use Rattle.wire.specs.Telling.{is_owed}
use Rattle.c_handle.specs.Digest.{BeginsAs, BeginsIf, TellsIf, are_known}
use Rattle.c_handle.specs.Migrated.{AbortsKept, BeginsKept, GoesOn, HasEnded, HasEndedLent, StopsUnless, HasTaken, SendsIf, SendsSome, SendsSomeLent, SendsUpTo, TakesLent, is_none_due, send_refusal}
use Rattle.c_handle.specs.Mirror.{is_closed}
use Rattle.c_handle.specs.Moving.{Saves, SavesIf}
use Rattle.c_handle.specs.OnHandle.{Unless}
use Rattle.c_handle.specs.Outside.{MeetsLent, MeetsLiveParked}
use Rattle.wire.specs.Stream.{whole}
use Rattle.c_handle.proofs.HandingIn.{hands_same}
use Rattle.c_handle.proofs.LentSending.{ended_same, some_same}

-- A log that fits so many bytes fits as many.
fits_as : (log : Option (List Bool)) (bytes size : ℕ) → FitsLog log bytes → size ≡ bytes → FitsLog log size
fits_as log bytes size fits same = subst (FitsLog log) (sym same) fits

fits_at : (log : Option (List Bool)) (places : ℕ) (k was next : State) → FitsLog log (ram_in places k) → k ≡ was → ram_in places next ≡ ram_in places was → FitsLog log (ram_in places next)
fits_at log places k was next fits is same = fits_as log (ram_in places k) (ram_in places next) fits (same ∙ ap (ram_in places) (sym is))

-- Events.
served_size : (l next : LiveSeen) (e : LiveEvent) (reply : LiveReply) → Serves l e reply next → length next.machine.memory.bytes ≡ length l.machine.memory.bytes
served_size l next e reply s = (served_shape (now l) l next e reply (same_as_it_is (now l)) s).ram

parked_size : (o : Option MigError) (p next : LiveParkedSeen) (e : Event) (reply : LiveReply) → MatchOption o (GuestsParked p e reply next) (λ x. (reply ≡ live.Mig x) × (next ≡ p)) → next.machine.memory ≡ p.machine.memory
parked_size None p next e (live.Guest reply) s = s.applied.versions
parked_size None p next e (live.Begun k) s = absurd s
parked_size None p next e (live.Copied item) s = absurd s
parked_size None p next e live.RoundDone s = absurd s
parked_size None p next e live.RoundOpen s = absurd s
parked_size None p next e (live.Stopped pages sectors) s = absurd s
parked_size None p next e (live.Mig x) s = absurd s
parked_size (Some x) p next e reply s = ap (λ (l : LiveParkedSeen). l.machine.memory) s.1

pub applied : (log : Option (List Bool)) (places : ℕ) (k : State) (m next : Seen) (e : Event) (reply : Reply) → FitsLog log (ram_in places k) → IsApplied m e reply next → k ≡ Still m → FitsLog log (length next.memory.bytes)
applied log places k m next e reply fits a is = fits_at log places k (Still m) (Still next) fits is a.shape.ram

pub served : (log : Option (List Bool)) (places : ℕ) (k : State) (l next : LiveSeen) (e : LiveEvent) (reply : LiveReply) → FitsLog log (ram_in places k) → Serves l e reply next → k ≡ Moving l → FitsLog log (length next.machine.memory.bytes)
served log places k l next e reply fits s is = fits_at log places k (Moving l) (Moving next) fits is (served_size l next e reply s)

pub applied_lent : (log : Option (List Bool)) (places : ℕ) (k : State) (p next : ParkedSeen) (e : Event) (reply : Reply) → FitsLog log (ram_in places k) → IsAppliedParked p e reply next → k ≡ Lent (StillLent p) → FitsLog log (4096 * length next.memory)
applied_lent log places k p next e reply fits a is = fits_at log places k (Lent (StillLent p)) (Lent (StillLent next)) fits is (ap (λ (v : List ℕ). 4096 * length v) a.versions)

pub served_lent : (log : Option (List Bool)) (places : ℕ) (k : State) (p next : LiveParkedSeen) (e : Event) (reply : LiveReply) → FitsLog log (ram_in places k) → ServesParked p e reply next → k ≡ Lent (MovingLent p) → FitsLog log (4096 * length next.machine.memory)
served_lent log places k p next e reply fits s is = fits_at log places k (Lent (MovingLent p)) (Lent (MovingLent next)) fits is (ap (λ (v : List ℕ). 4096 * length v) (parked_size (refusal_for p.phase (Guest e)) p next e reply s))

-- Answers of disks outside.
met_size : (found : Option ℕ) (answer : DiskAnswer) (p next : ParkedSeen) (dev : ℕ) → MeetsParked found answer p dev next → next.memory ≡ p.memory
met_size None answer p next dev meets = ap (λ (q : ParkedSeen). q.memory) meets
met_size (Some k) answer p next dev meets = meets.1.versions

met_live_size : (found : Option ℕ) (answer : DiskAnswer) (l next : LiveParkedSeen) (dev : ℕ) → MeetsLiveParked found answer l dev next → next.machine.memory ≡ l.machine.memory
met_live_size None answer l next dev meets = ap (λ (q : LiveParkedSeen). q.machine.memory) meets
met_live_size (Some k) answer l next dev meets = parked_size (refusal_for l.phase (Guest (Disk dev (k + 1) answer))) l next (Disk dev (k + 1) answer) meets.0 meets.1

met_lent_size : (place : Place) (answer : DiskAnswer) (x next : LoanSeen) → MeetsLent place answer x next → (parked_in next).memory ≡ (parked_in x).memory
met_lent_size place answer (StillLent p) (StillLent next) meets = met_size (asker_lent p place) answer p next place.dev meets
met_lent_size place answer (MovingLent l) (MovingLent next) meets = met_live_size (asker_lent l.machine place) answer l next place.dev meets
met_lent_size place answer (StillLent p) (MovingLent next) meets = absurd meets
met_lent_size place answer (MovingLent l) (StillLent next) meets = absurd meets

pub met_lent : (log : Option (List Bool)) (places : ℕ) (k : State) (x next : LoanSeen) (place : Place) (answer : DiskAnswer) → FitsLog log (ram_in places k) → MeetsLent place answer x next → k ≡ Lent x → FitsLog log (ram_in places (Lent next))
met_lent log places k x next place answer fits meets is = fits_at log places k (Lent x) (Lent next) fits is (ap (λ (v : List ℕ). 4096 * length v) (met_lent_size place answer x next meets))

-- Flushes that fail.
failed_size : (was : Bool) (m next : Seen) (dev pick : ℕ) → FailsFlushIf was m dev pick next → length next.memory.bytes ≡ length m.memory.bytes
failed_size true m next dev pick f = ap (λ m. length m.bytes) f.memory
failed_size false m next dev pick f = ap (λ (m : Seen). length m.memory.bytes) f

live_failed_size : (was : Bool) (l next : LiveSeen) (dev pick : ℕ) → FailsLiveFlushIf was l dev pick next → length next.machine.memory.bytes ≡ length l.machine.memory.bytes
live_failed_size true l next dev pick f = failed_size true l.machine next.machine dev pick f.failed
live_failed_size false l next dev pick f = ap (λ (l : LiveSeen). length l.machine.memory.bytes) f

unless_size : (closed : Bool) (l next : LiveSeen) (dev pick status : ℕ) → FailsUnless closed l dev pick status next → length next.machine.memory.bytes ≡ length l.machine.memory.bytes
unless_size true l next dev pick status f = ap (λ (l : LiveSeen). length l.machine.memory.bytes) f.1
unless_size false l next dev pick status f = live_failed_size (makes_flush (now l) dev pick) l next dev pick f.failed

pub failed : (log : Option (List Bool)) (places : ℕ) (k : State) (m next : Seen) (dev pick status : ℕ) → FitsLog log (ram_in places k) → FailsSync m dev pick status next → k ≡ Still m → FitsLog log (length next.memory.bytes)
failed log places k m next dev pick status fits f is = fits_at log places k (Still m) (Still next) fits is (failed_size (makes_flush (state_of m) dev pick) m next dev pick f.failed)

pub failed_moving : (log : Option (List Bool)) (places : ℕ) (k : State) (l next : LiveSeen) (dev pick status : ℕ) → FitsLog log (ram_in places k) → FailsUnless (is_closed l.phase) l dev pick status next → k ≡ Moving l → FitsLog log (length next.machine.memory.bytes)
failed_moving log places k l next dev pick status fits f is = fits_at log places k (Moving l) (Moving next) fits is (unless_size (is_closed l.phase) l next dev pick status f)

-- Calls of a migration.
went_on : (reply : LiveReply) (rest : LiveSeen → Type 0) (l mid next : LiveSeen) (status : ℕ) → (rest mid → length next.machine.memory.bytes ≡ length mid.machine.memory.bytes) → GoesOn reply rest mid status next → length next.machine.memory.bytes ≡ length mid.machine.memory.bytes
went_on (live.Mig error) rest l mid next status after g = ap (λ (l : LiveSeen). length l.machine.memory.bytes) g.1
went_on (live.Guest reply) rest l mid next status after g = after g
went_on (live.Begun k) rest l mid next status after g = after g
went_on (live.Copied item) rest l mid next status after g = after g
went_on live.RoundDone rest l mid next status after g = after g
went_on live.RoundOpen rest l mid next status after g = after g
went_on (live.Stopped pages sectors) rest l mid next status after g = after g

sent_if : (none : Bool) (rest : LiveSeen → Type 0) (l next : LiveSeen) (status : ℕ) → ((mid : LiveSeen) → rest mid → length next.machine.memory.bytes ≡ length mid.machine.memory.bytes) → SendsIf none rest l status next → length next.machine.memory.bytes ≡ length l.machine.memory.bytes
sent_if true rest l next status after s = ap (λ (l : LiveSeen). length l.machine.memory.bytes) s.1
sent_if false rest l next status after s = went_on s.reply rest l s.mid next status (after s.mid) s.goes_on ∙ served_size l s.mid _ s.reply s.serves

sent_size : (most : ℕ) (l next : LiveSeen) (status : ℕ) → SendsUpTo most l status next → length next.machine.memory.bytes ≡ length l.machine.memory.bytes
sent_size zero l next status s = ap (λ (l : LiveSeen). length l.machine.memory.bytes) s.1
sent_size (suc n) l next status s = sent_if (is_none_due l) (λ mid. SendsUpTo n mid status next) l next status (λ mid rest. sent_size n mid next status rest) s

some_size : (o : Option ℕ) (most : ℕ) (l next : LiveSeen) (status : ℕ) → Unless o (λ reason. (status ≡ reason) × (next ≡ l)) (SendsUpTo most l status next) → length next.machine.memory.bytes ≡ length l.machine.memory.bytes
some_size (Some reason) most l next status s = ap (λ (l : LiveSeen). length l.machine.memory.bytes) s.1
some_size None most l next status s = sent_size most l next status s

pub sent : (log : Option (List Bool)) (places : ℕ) (k : State) (l next : LiveSeen) (most status : ℕ) → FitsLog log (ram_in places k) → SendsSome l most status next → k ≡ Moving l → FitsLog log (length next.machine.memory.bytes)
sent log places k l next most status fits s is = fits_at log places k (Moving l) (Moving next) fits is (some_size (send_refusal l.phase) most l next status s)

pub ended : (log : Option (List Bool)) (places : ℕ) (k : State) (l next : LiveSeen) (status : ℕ) → FitsLog log (ram_in places k) → HasEnded l status next → k ≡ Moving l → FitsLog log (length next.machine.memory.bytes)
ended log places k l next status fits s is = fits_at log places k (Moving l) (Moving next) fits is (served_size l next _ s.reply s.serves)

stopped_size : (out : Bool) (l next : LiveSeen) (status pages old_pages sectors old_sectors : ℕ) → StopsUnless out l status pages old_pages sectors old_sectors next → length next.machine.memory.bytes ≡ length l.machine.memory.bytes
stopped_size true l next status pages old_pages sectors old_sectors s = ap (λ (l : LiveSeen). length l.machine.memory.bytes) s.1
stopped_size false l next status pages old_pages sectors old_sectors s = served_size l next _ s.reply s.serves

pub stopped : (log : Option (List Bool)) (places : ℕ) (k : State) (l next : LiveSeen) (out : Bool) (status pages old_pages sectors old_sectors : ℕ) → FitsLog log (ram_in places k) → StopsUnless out l status pages old_pages sectors old_sectors next → k ≡ Moving l → FitsLog log (length next.machine.memory.bytes)
stopped log places k l next out status pages old_pages sectors old_sectors fits s is = fits_at log places k (Moving l) (Moving next) fits is (stopped_size out l next status pages old_pages sectors old_sectors s)

pub taken : (told : Bool) (log : Option (List Bool)) (places : ℕ) (k : State) (l next : LiveSeen) (status got : ℕ) (buf new_buf : List ℕ) → FitsLog log (ram_in places k) → HasTaken told l status got buf new_buf next → k ≡ Moving l → FitsLog log (length next.machine.memory.bytes)
taken told log places k l next status got buf new_buf fits t is = fits_at log places k (Moving l) (Moving next) fits is (ap (λ (l : LiveSeen). length l.machine.memory.bytes) t.rest)

told_size : (owed : Bool) (l next : LiveSeen) (digest : List ℕ) (status : ℕ) → TellsIf owed digest l status next → length next.machine.memory.bytes ≡ length l.machine.memory.bytes
told_size true l next digest status t = ap (λ (l : LiveSeen). length l.machine.memory.bytes) t.rest
told_size false l next digest status t = ap (λ (l : LiveSeen). length l.machine.memory.bytes) t.1

pub told : (log : Option (List Bool)) (places : ℕ) (k : State) (l next : LiveSeen) (digest : List ℕ) (status : ℕ) → FitsLog log (ram_in places k) → TellsIf (is_owed l.digest) digest l status next → k ≡ Moving l → FitsLog log (length next.machine.memory.bytes)
told log places k l next digest status fits t is = fits_at log places k (Moving l) (Moving next) fits is (told_size (is_owed l.digest) l next digest status t)

taken_size : (told : Bool) (places : ℕ) (x next : LoanSeen) (status got old_got : ℕ) (buf new_buf : List ℕ) → TakesLent told x status got old_got buf new_buf next → ram_in places (Lent next) ≡ ram_in places (Lent x)
taken_size told places (StillLent p) (StillLent next) status got old_got buf new_buf t = ap (λ (p : ParkedSeen). 4096 * length p.memory) t.1
taken_size told places (MovingLent l) (MovingLent next) status got old_got buf new_buf t = ap (λ (l : LiveParkedSeen). 4096 * length l.machine.memory) t.rest
taken_size told places (StillLent p) (MovingLent next) status got old_got buf new_buf t = absurd t
taken_size told places (MovingLent l) (StillLent next) status got old_got buf new_buf t = absurd t

pub taken_lent : (told : Bool) (log : Option (List Bool)) (places : ℕ) (k : State) (x next : LoanSeen) (status got old_got : ℕ) (buf new_buf : List ℕ) → FitsLog log (ram_in places k) → TakesLent told x status got old_got buf new_buf next → k ≡ Lent x → FitsLog log (ram_in places (Lent next))
taken_lent told log places k x next status got old_got buf new_buf fits t is = fits_at log places k (Lent x) (Lent next) fits is (taken_size told places x next status got old_got buf new_buf t)

pub handed_in : (log : Option (List Bool)) (places : ℕ) (k : State) (p next : LiveParkedSeen) (page status : ℕ) (bytes : List ℕ) → FitsLog log (ram_in places k) → HandsPage p page bytes status next → k ≡ Lent (MovingLent p) → FitsLog log (4096 * length next.machine.memory)
handed_in log places k p next page status bytes fits h is =
    fits_at log places k (Lent (MovingLent p)) (Lent (MovingLent next)) fits is (ap (λ (q : ParkedSeen). 4096 * length q.memory) (hands_same (page_refusal (send_refusal p.phase) (length p.machine.memory) page) p next page status bytes h))

pub sent_lent : (log : Option (List Bool)) (places : ℕ) (k : State) (p next : LiveParkedSeen) (most status : ℕ) → FitsLog log (ram_in places k) → SendsSomeLent p most status next → k ≡ Lent (MovingLent p) → FitsLog log (4096 * length next.machine.memory)
sent_lent log places k p next most status fits s is =
    fits_at log places k (Lent (MovingLent p)) (Lent (MovingLent next)) fits is (ap (λ (v : List ℕ). 4096 * length v) (some_same (send_refusal p.phase) p next most status s).versions)

pub ended_lent : (log : Option (List Bool)) (places : ℕ) (k : State) (p next : LiveParkedSeen) (status : ℕ) → FitsLog log (ram_in places k) → HasEndedLent p status next → k ≡ Lent (MovingLent p) → FitsLog log (4096 * length next.machine.memory)
ended_lent log places k p next status fits h is = fits_at log places k (Lent (MovingLent p)) (Lent (MovingLent next)) fits is (ap (λ (v : List ℕ). 4096 * length v) (ended_same p next status h).versions)

saved_size : (short : Bool) (m next : Seen) (status len old_len : ℕ) (buf new_buf : List ℕ) → SavesIf short m status len old_len buf new_buf next → length next.memory.bytes ≡ length m.memory.bytes
saved_size true m next status len old_len buf new_buf s = ap (λ (m : Seen). length m.memory.bytes) s.same
saved_size false m next status len old_len buf new_buf s = ap (λ m. length m.bytes) s.kept.memory

pub saved : (log : Option (List Bool)) (places : ℕ) (k : State) (m next : Seen) (status len old_len : ℕ) (buf new_buf : List ℕ) → FitsLog log (ram_in places k) → Saves m status len old_len buf new_buf next → k ≡ Still m → FitsLog log (length next.memory.bytes)
saved log places k m next status len old_len buf new_buf fits s is =
    fits_at log places k (Still m) (Still next) fits is (saved_size (nat_lt (length buf) (length (whole (state_of m)))) m next status len old_len buf new_buf s)

pub marked : (log : Option (List Bool)) (places : ℕ) (k : State) (m next : Seen) (pages : List ℕ) → FitsLog log (ram_in places k) → next ≡ machine_marked m pages → k ≡ Still m → FitsLog log (length next.memory.bytes)
marked log places k m next pages fits are is = fits_at log places k (Still m) (Still next) fits is (ap (λ (m : Seen). length m.memory.bytes) are)

pub marked_moving : (log : Option (List Bool)) (places : ℕ) (k : State) (l next : LiveSeen) (pages : List ℕ) → FitsLog log (ram_in places k) → next ≡ live_marked l pages → k ≡ Moving l → FitsLog log (length next.machine.memory.bytes)
marked_moving log places k l next pages fits are is = fits_at log places k (Moving l) (Moving next) fits is (ap (λ (l : LiveSeen). length l.machine.memory.bytes) are)

pub marked_still_lent : (log : Option (List Bool)) (places : ℕ) (k : State) (p next : ParkedSeen) → FitsLog log (ram_in places k) → next ≡ p → k ≡ Lent (StillLent p) → FitsLog log (4096 * length next.memory)
marked_still_lent log places k p next fits same is = fits_at log places k (Lent (StillLent p)) (Lent (StillLent next)) fits is (ap (λ (q : ParkedSeen). 4096 * length q.memory) same)

pub marked_lent : (log : Option (List Bool)) (places : ℕ) (k : State) (p next : LiveParkedSeen) (pages : List ℕ) → FitsLog log (ram_in places k) → next ≡ record p { dirty = with_pages p.dirty pages } → k ≡ Lent (MovingLent p) → FitsLog log (4096 * length next.machine.memory)
marked_lent log places k p next pages fits are is = fits_at log places k (Lent (MovingLent p)) (Lent (MovingLent next)) fits is (ap (λ (l : LiveParkedSeen). 4096 * length l.machine.memory) are)

-- From one state into another.
begun_size : (places : ℕ) (k next : State) (status : ℕ) → BeginsKept k status next → ram_in places next ≡ ram_in places k
begun_size places (Still m) (Still next) status b = ap (λ (m : Seen). length m.memory.bytes) b.1
begun_size places (Still m) (Moving next) status b = served_size b.fresh next Begin (live.Begun b.round) b.begins ∙ ap (λ (m : Seen). length m.memory.bytes) b.is_fresh.machine
begun_size places (Moving l) (Moving next) status b = served_size l next _ b.reply b.serves
begun_size places (Arriving r) (Arriving next) status b = refl
begun_size places (Lent x) (Lent next) status b = ap (λ (x : LoanSeen). ram_in places (Lent x)) b.1
begun_size places (Still m) (Arriving next) status b = absurd b
begun_size places (Still m) (Lent next) status b = absurd b
begun_size places (Moving l) (Still next) status b = absurd b
begun_size places (Moving l) (Arriving next) status b = absurd b
begun_size places (Moving l) (Lent next) status b = absurd b
begun_size places (Arriving r) (Still next) status b = absurd b
begun_size places (Arriving r) (Moving next) status b = absurd b
begun_size places (Arriving r) (Lent next) status b = absurd b
begun_size places (Lent x) (Still next) status b = absurd b
begun_size places (Lent x) (Moving next) status b = absurd b
begun_size places (Lent x) (Arriving next) status b = absurd b

begun_if : (known : Bool) (places : ℕ) (m : Seen) (next : State) (status : ℕ) → BeginsIf known m status next → ram_in places next ≡ ram_in places (Still m)
begun_if true places m next status b = begun_size places (Still m) next status b
begun_if false places m next status b = ap (ram_in places) b.1

begun_as : (flags places : ℕ) (k next : State) (status : ℕ) → BeginsAs flags k status next → ram_in places next ≡ ram_in places k
begun_as flags places (Still m) next status b = begun_if (are_known flags) places m next status b
begun_as flags places (Moving l) next status b = begun_size places (Moving l) next status b
begun_as flags places (Arriving r) next status b = begun_size places (Arriving r) next status b
begun_as flags places (Lent x) next status b = begun_size places (Lent x) next status b

pub begun : (flags : ℕ) (log : Option (List Bool)) (places : ℕ) (k next : State) (status : ℕ) → FitsLog log (ram_in places k) → BeginsAs flags k status next → FitsLog log (ram_in places next)
begun flags log places k next status fits b = fits_as log (ram_in places k) (ram_in places next) fits (begun_as flags places k next status b)

aborted_size : (places : ℕ) (k next : State) (status : ℕ) → AbortsKept k status next → ram_in places next ≡ ram_in places k
aborted_size places (Still m) (Still next) status a = ap (λ (m : Seen). length m.memory.bytes) a.1
aborted_size places (Moving l) (Still next) status a = ap (λ (m : Seen). length m.memory.bytes) a.1
aborted_size places (Arriving r) (Arriving next) status a = refl
aborted_size places (Lent x) (Lent next) status a = ap (λ (x : LoanSeen). ram_in places (Lent x)) a.1
aborted_size places (Still m) (Moving next) status a = absurd a
aborted_size places (Still m) (Arriving next) status a = absurd a
aborted_size places (Still m) (Lent next) status a = absurd a
aborted_size places (Moving l) (Moving next) status a = absurd a
aborted_size places (Moving l) (Arriving next) status a = absurd a
aborted_size places (Moving l) (Lent next) status a = absurd a
aborted_size places (Arriving r) (Still next) status a = absurd a
aborted_size places (Arriving r) (Moving next) status a = absurd a
aborted_size places (Arriving r) (Lent next) status a = absurd a
aborted_size places (Lent x) (Still next) status a = absurd a
aborted_size places (Lent x) (Moving next) status a = absurd a
aborted_size places (Lent x) (Arriving next) status a = absurd a

pub aborted : (log : Option (List Bool)) (places : ℕ) (k next : State) (status : ℕ) → FitsLog log (ram_in places k) → AbortsKept k status next → FitsLog log (ram_in places next)
aborted log places k next status fits a = fits_as log (ram_in places k) (ram_in places next) fits (aborted_size places k next status a)

-- RAM is lent, and comes back.
pub same_ram : (log : Option (List Bool)) (places : ℕ) (k next : State) → FitsLog log (ram_in places k) → ((n : ℕ) → ram_in n next ≡ ram_in n k) → FitsLog log (ram_in places next)
same_ram log places k next fits same = fits_as log (ram_in places k) (ram_in places next) fits (same places)

pub lent_still : (places : ℕ) (m : Seen) (region : Region) (p : ParkedSeen) → IsMemory m.memory → IsParked m region p → 4096 * length p.memory ≡ length m.memory.bytes
lent_still places m region p sound parked = ap (λ (v : List ℕ). 4096 * length v) parked.lent.versions_are ∙ sym sound.pages

pub lent_moving : (places : ℕ) (l : LiveSeen) (region : Region) (p : LiveParkedSeen) → IsLiveLoan l region p → 4096 * length p.machine.memory ≡ length l.machine.memory.bytes
lent_moving places l region p loan = lent_still places l.machine region p.machine loan.sound loan.parked.parked

back_size : (places : ℕ) (k next : State) (ram new_ram : Slot) (pages : List ℕ) (status : ℕ) → IsReturnable k (length ram.content) pages → HasComeBack k ram pages status new_ram next → ram_in places next ≡ ram_in places k
back_size places (Lent (StillLent p)) (Still next) ram new_ram pages status may b = ap (λ (m : Seen). length m.memory.bytes) b.back ∙ may.0
back_size places (Lent (MovingLent l)) (Moving next) ram new_ram pages status may b = ap (λ (l : LiveSeen). length l.machine.memory.bytes) b.back ∙ may.0
back_size places (Lent (StillLent p)) (Moving next) ram new_ram pages status may b = absurd b.back
back_size places (Lent (StillLent p)) (Arriving next) ram new_ram pages status may b = absurd b.back
back_size places (Lent (StillLent p)) (Lent next) ram new_ram pages status may b = absurd b.back
back_size places (Lent (MovingLent l)) (Still next) ram new_ram pages status may b = absurd b.back
back_size places (Lent (MovingLent l)) (Arriving next) ram new_ram pages status may b = absurd b.back
back_size places (Lent (MovingLent l)) (Lent next) ram new_ram pages status may b = absurd b.back
back_size places (Still m) next ram new_ram pages status may b = absurd may
back_size places (Moving l) next ram new_ram pages status may b = absurd may
back_size places (Arriving r) next ram new_ram pages status may b = absurd may

pub came_back : (log : Option (List Bool)) (places : ℕ) (k next : State) (ram new_ram : Slot) (pages : List ℕ) (status : ℕ) → FitsLog log (ram_in places k) → IsReturnable k (length ram.content) pages → HasComeBack k ram pages status new_ram next → FitsLog log (ram_in places next)
came_back log places k next ram new_ram pages status fits may b = fits_as log (ram_in places k) (ram_in places next) fits (back_size places k next ram new_ram pages status may b)

-- What arrives.
pub coming : (log : Option (List Bool)) (places : ℕ) (k : State) (r : ArrivalSeen) → FitsLog log (ram_in places k) → k ≡ Arriving r → FitsLog log (4096 * places)
coming log places k r fits is = fits_at log places k (Arriving r) (Arriving r) fits is refl

fits_more : (log : Option (List Bool)) (bytes size : ℕ) → FitsLog log bytes → size ≤ bytes → FitsLog log size
fits_more None bytes size fits few = tt
fits_more (Some pages) bytes size fits few = omega (arith, fits, few)

tested_few : (a b : ℕ) → nat_lt a b ≡ false → b ≤ a
tested_few a b is = grind (arith, nat_tests)

has_arrived : (log : Option (List Bool)) (places : ℕ) (r : ArrivalSeen) (m : Seen) → FitsLog log (4096 * places) → has_more places (ram_coming r) ≡ false → HasArrived r m → FitsLog log (length m.memory.bytes)
has_arrived log places r m fits fine more =
    let few : nat_lt (4096 * places) (length m.memory.bytes) ≡ false = sym (ap (has_more places) more.ram_len) ∙ fine in
    fits_more log (4096 * places) (length m.memory.bytes) fits (tested_few (4096 * places) (length m.memory.bytes) few)

pub arrived_fits : (log : Option (List Bool)) (places : ℕ) (k next : State) (r : ArrivalSeen) (status : ℕ) → FitsLog log (ram_in places k) → k ≡ Arriving r → has_more places (ram_coming r) ≡ false → Ends r status next → FitsLog log (ram_in places next)
arrived_fits log places k (Still m) r status fits is fine ends = has_arrived log places r m (coming log places k r fits is) fine ends.arrived
arrived_fits log places k (Arriving next) r status fits is fine ends = coming log places k r fits is
arrived_fits log places k (Moving l) r status fits is fine ends = absurd ends
arrived_fits log places k (Lent x) r status fits is fine ends = absurd ends

pub ended_fits : (log : Option (List Bool)) (places : ℕ) (k next : State) (status : ℕ) → FitsLog log (ram_in places k) → outgrows places k ≡ false → FinishesState k status next → FitsLog log (ram_in places next)
ended_fits log places (Arriving r) next status fits fine ends = arrived_fits log places (Arriving r) next r status fits refl fine ends
ended_fits log places (Still m) next status fits fine ends = absurd ends
ended_fits log places (Moving l) next status fits fine ends = absurd ends
ended_fits log places (Lent x) next status fits fine ends = absurd ends
