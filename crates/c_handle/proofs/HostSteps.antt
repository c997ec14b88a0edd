-- What a call of C is for the devices of a machine: a step of its event, or nothing.
use Rattle.std.proofs.Common.{◌≡◌, ◌≤◌, ◌⊎◌, ℕ, Bool, true, false, nat_lt, List, length, inl, inr, refl, ap, sym, subst}
use Rattle.std.specs.Prelude.{MatchOption, Option, Some, None}
use Rattle.blk.specs.declared.durable.SyncOwed.{SyncOwed}
use Rattle.blk.specs.declared.durable.SyncOwed.TheVariants.{Nothing, Flush, EndOfWrite}
use Rattle.disk_calls.proofs.OfDevices.{IsStepOf, applied_step, failed_step}
use Rattle.guestmem.specs.Memory.{Memory}
use Rattle.guestmem.specs.declared.limits.TheConstants.{PAGES_GREATEST}
use Rattle.machine.specs.Applied.{IsApplied}
use Rattle.machine.specs.Parked.{IsAppliedParked, ParkedSeen, back_with, parked_states}
use Rattle.machine.specs.Seen.{Seen, state_of}
use Rattle.machine.specs.Unsynced.{FailsFlush, FailsFlushIf, makes_flush}
use Rattle.machine.specs.declared.event.Event.{Event}
use Rattle.machine.specs.declared.event.Event.TheVariants.{MemWrite, Step}
use Rattle.machine.specs.declared.reply.Reply.{Reply}
use Rattle.sender.specs.Calls.{Guests}
use Rattle.sender.specs.LiveState.{LiveSeen, now, refusal_for}
use Rattle.sender.specs.Parked.{LiveParkedSeen}
use Rattle.sender.specs.ParkedCalls.{GuestsParked}
use Rattle.sender.specs.Unsynced.{FailsLiveFlushIf}
use Rattle.sender.specs.declared.event.LiveEvent.TheVariants.{Guest}
use Rattle.sender.specs.declared.event.LiveReply.{LiveReply}
use Rattle.sender.specs.declared.event.LiveReply.TheVariants as live
use Rattle.sender.specs.declared.mig_error.MigError.{MigError}
use Rattle.sender.specs.declared.phase.Phase.{Phase}
use Rattle.sender.specs.declared.phase.Phase.TheVariants as phases
use Rattle.c_handle.specs.CallsMet.{AreFew, HasRam}
use Rattle.c_handle.specs.Durable.{FailsKept, FailsUnless}
use Rattle.c_handle.specs.Kept.{State, StillLent, MovingLent, Still, Moving, Arriving, Lent}
use Rattle.c_handle.specs.Mirror.{is_closed}
use Rattle.c_handle.specs.Outside.{devices_of}
use Rattle.c_handle.specs.Resetting.{state_refusal, stop_refusal}
use Rattle.c_handle.specs.Stepped.{LiveSteppedIf, StepsKept, StepsOwing, SteppedIf, most_sent_by}
use Rattle.c_handle.specs.Told.{Tells, WritesKept}
use Rattle.c_handle.proofs.ByParked.{applied_at, zero_ram}
use Rattle.c_handle.proofs.PageLogs.{logged_is_served}
use Rattle.c_handle.proofs.Resets.{same_pages}

-- The pages of a RAM stay as many as they were.
pub few_stay : (old new : List ℕ) → length new ≡ length old → AreFew old → AreFew new
few_stay old new same few = subst (λ (n : ℕ). (1 ≤ n) × (n ≤ PAGES_GREATEST)) (sym same) few

pub applied_ram : (m next : Seen) (e : Event) (reply : Reply) → AreFew m.memory.versions → IsApplied m e reply next → AreFew next.memory.versions
applied_ram m next e reply few applied = few_stay m.memory.versions next.memory.versions applied.later.versions few

failed_ram : (m next : Seen) (dev pick : ℕ) → AreFew m.memory.versions → FailsFlush m dev pick next → AreFew next.memory.versions
failed_ram m next dev pick few f = subst (λ (x : Memory). AreFew x.versions) (sym f.memory) few

-- It was a step of the devices, of a machine that was not stopped; or nothing changed.
abbrev pub Did : State → Event → State → Type 0
Did k e next = (next ≡ k) ⊎ ((state_refusal k ≡ None) × HasRam next × IsStepOf (devices_of k) e (devices_of next))

-- A machine that is being migrated.
goes_by : (p : Phase) (e : Event) → refusal_for p (Guest e) ≡ None → stop_refusal p ≡ None
goes_by phases.Fresh e goes = refl
goes_by (phases.Open round) e goes = refl
goes_by phases.Stopped e goes = absurd cc
goes_by phases.Failed e goes = refl

pub guest_step : (o : Option MigError) (l next : LiveSeen) (e : Event) (reply : LiveReply) → o ≡ None → HasRam (Moving l) → MatchOption o (Guests l e reply next) (λ x. (reply ≡ live.Mig x) × (next ≡ l))
    → HasRam (Moving next) × IsStepOf (state_of l.machine).devices e (state_of next.machine).devices
guest_step (Some x) l next e reply goes few s = absurd cc
guest_step None l next e (live.Guest r) goes few s = (applied_ram l.machine next.machine e r few s.is_applied, applied_step l.machine next.machine e r s.is_applied)
guest_step None l next e (live.Begun round) goes few s = absurd s
guest_step None l next e (live.Copied item) goes few s = absurd s
guest_step None l next e live.RoundDone goes few s = absurd s
guest_step None l next e live.RoundOpen goes few s = absurd s
guest_step None l next e (live.Stopped pages sectors) goes few s = absurd s
guest_step None l next e (live.Mig error) goes few s = absurd s

by_guest : (o : Option MigError) (l next : LiveSeen) (e : Event) (reply : LiveReply) → refusal_for l.phase (Guest e) ≡ o → HasRam (Moving l) → MatchOption o (Guests l e reply next) (λ x. (reply ≡ live.Mig x) × (next ≡ l)) → Did (Moving l) e (Moving next)
by_guest (Some x) l next e reply is few s = inl (ap Moving s.1)
by_guest None l next e reply is few s = let both = guest_step None l next e reply refl few s in inr (goes_by l.phase e is, both.0, both.1)

-- One whose RAM is lent: its step is that with zeros in RAM.
pub parked_step : (p next : ParkedSeen) (e : Event) (reply : Reply) → (1 ≤ length p.memory) × (length p.memory ≤ 4294967295) → IsAppliedParked p e reply next → IsStepOf (parked_states p) e (parked_states next)
parked_step p next e reply pages applied = applied_step (back_with p (zero_ram p)) (back_with next (zero_ram p)) e reply (applied_at p next e reply pages.0 pages.1 applied)

pub parked_guest_step : (o : Option MigError) (l next : LiveParkedSeen) (e : Event) (reply : LiveReply) → o ≡ None → HasRam (Lent (MovingLent l)) → MatchOption o (GuestsParked l e reply next) (λ x. (reply ≡ live.Mig x) × (next ≡ l))
    → HasRam (Lent (MovingLent next)) × IsStepOf (parked_states l.machine) e (parked_states next.machine)
parked_guest_step (Some x) l next e reply goes pages s = absurd cc
parked_guest_step None l next e (live.Guest r) goes pages s = (same_pages l.machine next.machine s.applied.versions pages, parked_step l.machine next.machine e r pages s.applied)
parked_guest_step None l next e (live.Begun round) goes pages s = absurd s
parked_guest_step None l next e (live.Copied item) goes pages s = absurd s
parked_guest_step None l next e live.RoundDone goes pages s = absurd s
parked_guest_step None l next e live.RoundOpen goes pages s = absurd s
parked_guest_step None l next e (live.Stopped pages_ sectors) goes pages s = absurd s
parked_guest_step None l next e (live.Mig error) goes pages s = absurd s

by_parked : (o : Option MigError) (l next : LiveParkedSeen) (e : Event) (reply : LiveReply) → refusal_for l.phase (Guest e) ≡ o → HasRam (Lent (MovingLent l)) → MatchOption o (GuestsParked l e reply next) (λ x. (reply ≡ live.Mig x) × (next ≡ l))
    → Did (Lent (MovingLent l)) e (Lent (MovingLent next))
by_parked (Some x) l next e reply is pages s = inl (ap (λ (y : LiveParkedSeen). Lent (MovingLent y)) s.1)
by_parked None l next e reply is pages s = let both = parked_guest_step None l next e reply refl pages s in inr (goes_by l.phase e is, both.0, both.1)

-- An event that touches no RAM.
pub did_tell : (k next : State) (e : Event) (status number before : ℕ) → HasRam k → Tells k e status number before next → Did k e next
did_tell (Still m) (Still next) e status number before pages t = inr (refl, applied_ram m next e t.reply pages t.applied, applied_step m next e t.reply t.applied)
did_tell (Moving l) (Moving next) e status number before pages t = by_guest (refusal_for l.phase (Guest e)) l next e t.reply refl pages t.serves
did_tell (Arriving r) (Arriving next) e status number before pages t = inl (ap Arriving t.1)
did_tell (Lent (StillLent p)) (Lent (StillLent next)) e status number before pages t = inr (refl, same_pages p next t.applied.versions pages, parked_step p next e t.reply pages t.applied)
did_tell (Lent (MovingLent l)) (Lent (MovingLent next)) e status number before pages t = by_parked (refusal_for l.phase (Guest e)) l next e t.reply refl pages t.serves
did_tell _ _ e status number before pages t = absurd t

-- A write of RAM.
pub did_write : (k next : State) (log new_log : Option (List Bool)) (addr : ℕ) (bytes : List ℕ) (status : ℕ) → HasRam k → WritesKept k log addr bytes status next new_log → Did k (MemWrite addr bytes) next
did_write (Still m) (Still next) log new_log addr bytes status few w =
    inr (refl, applied_ram m next (MemWrite addr bytes) w.reply few w.logged.is_applied, applied_step m next (MemWrite addr bytes) w.reply w.logged.is_applied)
did_write (Moving l) (Moving next) log new_log addr bytes status few w =
    by_guest (refusal_for l.phase (Guest (MemWrite addr bytes))) l next (MemWrite addr bytes) w.reply refl few (logged_is_served l next log new_log (MemWrite addr bytes) w.reply w.serves)
did_write (Arriving r) (Arriving next) log new_log addr bytes status few w = inl (ap Arriving w.1)
did_write (Lent x) (Lent next) log new_log addr bytes status few w = inl (ap Lent w.1)
did_write _ _ log new_log addr bytes status few w = absurd w

-- A step, by what it owes of a disk that is lost.
stepped_still : (small : Bool) (m next : Seen) (log new_log : Option (List Bool)) (dev pick status number before : ℕ) (buf new_buf : List ℕ) → HasRam (Still m) → SteppedIf small m log dev pick status number before buf new_buf next new_log → Did (Still m) (Step dev pick) (Still next)
stepped_still true m next log new_log dev pick status number before buf new_buf few s = inl (ap Still s.same)
stepped_still false m next log new_log dev pick status number before buf new_buf few s = inr (refl, applied_ram m next (Step dev pick) s.reply few s.logged.is_applied, applied_step m next (Step dev pick) s.reply s.logged.is_applied)

stepped_moving : (closed small : Bool) (l next : LiveSeen) (log new_log : Option (List Bool)) (dev pick status number before : ℕ) (buf new_buf : List ℕ) → HasRam (Moving l) → LiveSteppedIf closed small l log dev pick status number before buf new_buf next new_log → Did (Moving l) (Step dev pick) (Moving next)
stepped_moving true small l next log new_log dev pick status number before buf new_buf few s = inl (ap Moving s.same)
stepped_moving false true l next log new_log dev pick status number before buf new_buf few s = inl (ap Moving s.same)
stepped_moving false false l next log new_log dev pick status number before buf new_buf few s =
    by_guest (refusal_for l.phase (Guest (Step dev pick))) l next (Step dev pick) s.reply refl few (logged_is_served l next log new_log (Step dev pick) s.reply s.serves)

did_kept : (k next : State) (log new_log : Option (List Bool)) (dev pick status number before : ℕ) (buf new_buf : List ℕ) → HasRam k → StepsKept k log dev pick status number before buf new_buf next new_log → Did k (Step dev pick) next
did_kept (Still m) (Still next) log new_log dev pick status number before buf new_buf few s = stepped_still (nat_lt (length buf) (most_sent_by m dev pick)) m next log new_log dev pick status number before buf new_buf few s
did_kept (Moving l) (Moving next) log new_log dev pick status number before buf new_buf few s = stepped_moving (is_closed l.phase) (nat_lt (length buf) (most_sent_by l.machine dev pick)) l next log new_log dev pick status number before buf new_buf few s
did_kept (Arriving r) (Arriving next) log new_log dev pick status number before buf new_buf few s = inl (ap Arriving s.1)
did_kept (Lent x) (Lent next) log new_log dev pick status number before buf new_buf few s = inl (ap Lent s.1)
did_kept _ _ log new_log dev pick status number before buf new_buf few s = absurd s

failed_still : (made : Bool) (m next : Seen) (dev pick : ℕ) → HasRam (Still m) → FailsFlushIf made m dev pick next → Did (Still m) (Step dev pick) (Still next)
failed_still true m next dev pick few f = inr (refl, failed_ram m next dev pick few f, failed_step m next dev pick f)
failed_still false m next dev pick few f = inl (ap Still f)

failed_moving : (made : Bool) (l next : LiveSeen) (dev pick : ℕ) → stop_refusal l.phase ≡ None → HasRam (Moving l) → FailsLiveFlushIf made l dev pick next → Did (Moving l) (Step dev pick) (Moving next)
failed_moving true l next dev pick goes few f = inr (goes, failed_ram l.machine next.machine dev pick few f.failed, failed_step l.machine next.machine dev pick f.failed)
failed_moving false l next dev pick goes few f = inl (ap Moving f)

failed_unless : (closed : Bool) (l next : LiveSeen) (dev pick status : ℕ) → is_closed l.phase ≡ closed → HasRam (Moving l) → FailsUnless closed l dev pick status next → Did (Moving l) (Step dev pick) (Moving next)
failed_unless true l next dev pick status is few f = inl (ap Moving f.1)
failed_unless false l next dev pick status is few f = failed_moving (makes_flush (now l) dev pick) l next dev pick (rw is refl) few f.failed

did_fail : (k next : State) (dev pick status : ℕ) → HasRam k → FailsKept k dev pick status next → Did k (Step dev pick) next
did_fail (Still m) (Still next) dev pick status few f = failed_still (makes_flush (state_of m) dev pick) m next dev pick few f.failed
did_fail (Moving l) (Moving next) dev pick status few f = failed_unless (is_closed l.phase) l next dev pick status refl few f
did_fail (Arriving r) (Arriving next) dev pick status few f = inl (ap Arriving f.1)
did_fail (Lent x) (Lent next) dev pick status few f = inl (ap Lent f.1)
did_fail _ _ dev pick status few f = absurd f

pub did_step : (o : SyncOwed) (k next : State) (log new_log : Option (List Bool)) (dev pick status number before : ℕ) (buf new_buf : List ℕ) → HasRam k → StepsOwing o k log dev pick status number before buf new_buf next new_log → Did k (Step dev pick) next
did_step Nothing k next log new_log dev pick status number before buf new_buf few s = did_kept k next log new_log dev pick status number before buf new_buf few s
did_step Flush k next log new_log dev pick status number before buf new_buf few s = did_fail k next dev pick status few s.fails
did_step EndOfWrite k next log new_log dev pick status number before buf new_buf few s = inl s.same
