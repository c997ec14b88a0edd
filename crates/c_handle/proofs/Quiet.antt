-- Events that were refused, whatever lies behind the handle.
use Rattle.std.proofs.Common.{◌≡◌, ◌≤◌, ◌<◌, ℕ, List, [], Bool, refl, ap, subst, ◌∙◌, arith}
use Rattle.std.proofs.lemmas.Grind.{same_number_lists}
use Rattle.std.specs.Prelude.{MatchOption, Option, Some, None}
use Rattle.guestmem.specs.Item.{Item}
use Rattle.guestmem.specs.Rises.{Rises}
use Rattle.machine.specs.Applied.{IsApplied}
use Rattle.machine.specs.AppliedLaws.{RefusedChangesNothing}
use Rattle.machine.specs.Layout.{firsts_of, layout_of}
use Rattle.machine.specs.Parked.{IsAppliedParked, ParkedSeen, back_with}
use Rattle.machine.specs.Seen.{Seen}
use Rattle.machine.specs.StepLaws.{IsRefusal}
use Rattle.machine.specs.declared.event.Event.{Event}
use Rattle.machine.specs.declared.event.Event.TheVariants.{MemWrite}
use Rattle.machine.specs.declared.reply.Reply.{Reply}
use Rattle.machine.specs.declared.reply.Reply.TheVariants.{Value, Done, OutByte, Bytes, Idle, Taken, Moved, BadSector, DiskFailed, Completed, Sent, Dropped, Accepted, NeedsReset, NoMemory, Refused}
use Rattle.sender.specs.Calls.{AfterGuest, Does, with_items}
use Rattle.sender.specs.LiveState.{LiveSeen, now, refusal_for}
use Rattle.sender.specs.Parked.{LiveParkedSeen}
use Rattle.sender.specs.ParkedCalls.{GuestsParked}
use Rattle.sender.specs.declared.event.LiveEvent.TheVariants.{Guest}
use Rattle.sender.specs.declared.event.LiveReply.{LiveReply}
use Rattle.sender.specs.declared.event.LiveReply.TheVariants as live
use Rattle.sender.specs.declared.mig_error.MigError.{MigError}
use Rattle.c_machine.specs.Plain.{ArePlain}
use Rattle.c_handle.specs.Refused.{ArePlainIn, IsSameLent, IsSameMachine, IsSameLoan, IsSameSent, IsSameSentLent, RefusedTellsNothing, RefusedWritesNothing}
use Rattle.c_handle.specs.SendStatus.{live_status}
use Rattle.c_machine.specs.Status.{status_of}
use Rattle.c_handle.specs.Told.{IsServed, Tells, live_number}
use Rattle.c_machine.specs.Status.{number_of}
use Rattle.c_handle.specs.Kept.{LoanSeen, StillLent, MovingLent, Still, Moving, Arriving, Lent}
use Rattle.c_handle.proofs.PageLogs.{logged_is_served, quiet_log, quiet_log_live}
use Rattle.c_machine.proofs.Plain.{is_refusal, refused_quiet}

pub no_number : (reply : Reply) (before : ℕ) → 1 ≤ status_of reply → status_of reply < 64 → number_of reply before ≡ before
no_number (Value v) before some few = absurd (omega (arith, some))
no_number Done before some few = refl
no_number (OutByte byte) before some few = absurd (omega (arith, few))
no_number (Bytes bytes) before some few = refl
no_number Idle before some few = refl
no_number Taken before some few = refl
no_number Moved before some few = refl
no_number BadSector before some few = refl
no_number DiskFailed before some few = refl
no_number (Completed len) before some few = absurd (omega (arith, few))
no_number (Sent bytes) before some few = absurd (omega (arith, few))
no_number Dropped before some few = refl
no_number (Accepted count) before some few = absurd (omega (arith, some))
no_number NeedsReset before some few = refl
no_number NoMemory before some few = refl
no_number (Refused refusal) before some few = refl

-- Of a machine: nothing was written, so no version has risen.
pub refused_same : RefusedChangesNothing → (m next : Seen) (e : Event) (reply : Reply) → IsApplied m e reply next → IsRefusal reply → IsSameMachine m next
refused_same law m next e reply applied is =
    let as_was = law m next e reply applied is in
    let rises : Rises [] m.memory next.memory = subst (λ (items : List Item). Rises items m.memory next.memory) as_was.1 applied.rises in
    record {
      state = as_was.0.state;
      marks = as_was.0.marks;
      versions = same_number_lists next.memory.versions m.memory.versions applied.later.versions (λ k below. rises.stays k (λ among. among));
    }

pub same_machine : (m next : Seen) → next ≡ m → IsSameMachine m next
same_machine m next same = rw same (record { state = refl; marks = refl; versions = refl })

-- Of a machine that is sent.
same_dirty : RefusedChangesNothing → (l next : LiveSeen) (e : Event) (reply : Reply) → IsRefusal reply → (after : AfterGuest l e reply next) → next.dirty ≡ l.dirty
same_dirty law l next e reply is after =
    after.dirty ∙ ap (λ (items : List Item). with_items (firsts_of (layout_of (now l))) l.dirty items) (law l.machine next.machine e reply after.is_applied is).1

refused_sent : RefusedChangesNothing → (l next : LiveSeen) (e : Event) (reply : Reply) → IsRefusal reply → AfterGuest l e reply next → IsSameSent l next
refused_sent law l next e reply is after = record {
  machine = refused_same law l.machine next.machine e reply after.is_applied is;
  rest = after.rest ∙ ap (λ (dirty : List Bool). record l { machine = next.machine; dirty = dirty }) (same_dirty law l next e reply is after);
}

pub same_sent : (l next : LiveSeen) → next ≡ l → IsSameSent l next
same_sent l next same = rw same (record { machine = same_machine l.machine l.machine refl; rest = refl })

pub quiet_by : RefusedChangesNothing → (o : Option MigError) (l next : LiveSeen) (e : Event) (reply : LiveReply) (before : ℕ) → ArePlain l.machine → 1 ≤ live_status reply → live_status reply < 64
    → MatchOption o (Does l (Guest e) reply next) (λ x. (reply ≡ live.Mig x) × (next ≡ l)) → IsSameSent l next × (live_number reply before ≡ before)
quiet_by law None l next e (live.Guest reply) before plain some few after =
    (refused_sent law l next e reply (is_refusal reply some few) after, no_number reply before some few)
quiet_by law None l next e (live.Begun k) before plain some few after = absurd after
quiet_by law None l next e (live.Copied item) before plain some few after = absurd after
quiet_by law None l next e live.RoundDone before plain some few after = absurd after
quiet_by law None l next e live.RoundOpen before plain some few after = absurd after
quiet_by law None l next e (live.Stopped pages sectors) before plain some few after = absurd after
quiet_by law None l next e (live.Mig x) before plain some few after = absurd after
quiet_by law (Some x) l next e reply before plain some few after = (same_sent l next after.1, rw (after.0) refl)

quiet_sent : RefusedChangesNothing → (l next : LiveSeen) (e : Event) (status number before : ℕ) → ArePlain l.machine → IsServed l (Guest e) status number before next → 1 ≤ status → status < 64 → IsSameSent l next × (number ≡ before)
quiet_sent law l next e status number before plain served some few =
    let told = quiet_by law (refusal_for l.phase (Guest e)) l next e served.reply before plain (omega (arith, some, served.status_is)) (omega (arith, few, served.status_is)) served.serves in
    (told.0, served.number_is ∙ told.1)

-- While RAM is lent.
quiet_parked : (p next : ParkedSeen) (e : Event) (reply : Reply) → ArePlainIn (Lent (StillLent p)) → IsAppliedParked p e reply next → 1 ≤ status_of reply → status_of reply < 64 → IsSameLent p next
quiet_parked p next e reply plain applied some few = record {
  versions = applied.versions;
  machine = λ m is bytes count. refused_quiet (back_with p m) (back_with next m) e reply plain (applied.applied m is bytes count).applied some few;
}

pub itself_parked : (p : ParkedSeen) → IsSameLent p p
itself_parked p = record { versions = refl; machine = λ m is bytes count. refl }

quiet_lent_by : (o : Option MigError) (l next : LiveParkedSeen) (e : Event) (reply : LiveReply) (before : ℕ) → ArePlainIn (Lent (MovingLent l)) → 1 ≤ live_status reply → live_status reply < 64
    → MatchOption o (GuestsParked l e reply next) (λ x. (reply ≡ live.Mig x) × (next ≡ l)) → IsSameSentLent l next × (live_number reply before ≡ before)
quiet_lent_by None l next e (live.Guest reply) before plain some few after = (record { parked = quiet_parked l.machine next.machine e reply plain after.applied some few; rest = after.rest }, no_number reply before some few)
quiet_lent_by None l next e (live.Begun k) before plain some few after = absurd after
quiet_lent_by None l next e (live.Copied item) before plain some few after = absurd after
quiet_lent_by None l next e live.RoundDone before plain some few after = absurd after
quiet_lent_by None l next e live.RoundOpen before plain some few after = absurd after
quiet_lent_by None l next e (live.Stopped pages sectors) before plain some few after = absurd after
quiet_lent_by None l next e (live.Mig x) before plain some few after = absurd after
quiet_lent_by (Some x) l next e reply before plain some few after = (rw (after.1) (record { parked = itself_parked l.machine; rest = refl }), rw (after.0) refl)

quiet_loan : (x next : LoanSeen) (e : Event) (status number before : ℕ) → ArePlainIn (Lent x) → Tells (Lent x) e status number before (Lent next) → 1 ≤ status → status < 64 → IsSameLoan x next × (number ≡ before)
quiet_loan (StillLent p) (StillLent next) e status number before plain told some few =
    let more : 1 ≤ status_of told.reply = omega (arith, some, told.status_is) in
    let less : status_of told.reply < 64 = omega (arith, few, told.status_is) in
    (quiet_parked p next e told.reply plain told.applied more less, told.number_is ∙ no_number told.reply before more less)
quiet_loan (MovingLent l) (MovingLent next) e status number before plain told some few =
    let quiet = quiet_lent_by (refusal_for l.phase (Guest e)) l next e told.reply before plain (omega (arith, some, told.status_is)) (omega (arith, few, told.status_is)) told.serves in
    (quiet.0, told.number_is ∙ quiet.1)
quiet_loan (StillLent p) (MovingLent next) e status number before plain told some few = absurd told
quiet_loan (MovingLent l) (StillLent next) e status number before plain told some few = absurd told

pub same_loan : (x next : LoanSeen) → next ≡ x → IsSameLoan x next
same_loan (StillLent p) next same = rw same (itself_parked p)
same_loan (MovingLent l) next same = rw same (record { parked = itself_parked l.machine; rest = refl })

pub refused_tells_nothing : RefusedChangesNothing → RefusedTellsNothing
refused_tells_nothing law (Still m) (Still next) e status number before plain told some few =
    let more : 1 ≤ status_of told.reply = omega (arith, some, told.status_is) in
    let less : status_of told.reply < 64 = omega (arith, few, told.status_is) in
    (refused_same law m next e told.reply told.applied (is_refusal told.reply more less), told.number_is ∙ no_number told.reply before more less)
refused_tells_nothing law (Moving l) (Moving next) e status number before plain served some few = quiet_sent law l next e status number before plain served some few
refused_tells_nothing law (Arriving r) (Arriving next) e status number before plain told some few = (told.1, told.0.1)
refused_tells_nothing law (Still m) (Moving next) e status number before plain told some few = absurd told
refused_tells_nothing law (Still m) (Arriving next) e status number before plain told some few = absurd told
refused_tells_nothing law (Moving l) (Still next) e status number before plain told some few = absurd told
refused_tells_nothing law (Moving l) (Arriving next) e status number before plain told some few = absurd told
refused_tells_nothing law (Arriving r) (Still next) e status number before plain told some few = absurd told
refused_tells_nothing law (Arriving r) (Moving next) e status number before plain told some few = absurd told
refused_tells_nothing law (Lent x) (Lent next) e status number before plain told some few = quiet_loan x next e status number before plain told some few
refused_tells_nothing law (Still m) (Lent next) e status number before plain told some few = absurd told
refused_tells_nothing law (Moving l) (Lent next) e status number before plain told some few = absurd told
refused_tells_nothing law (Arriving r) (Lent next) e status number before plain told some few = absurd told
refused_tells_nothing law (Lent x) (Still next) e status number before plain told some few = absurd told
refused_tells_nothing law (Lent x) (Moving next) e status number before plain told some few = absurd told
refused_tells_nothing law (Lent x) (Arriving next) e status number before plain told some few = absurd told

pub refused_writes_nothing : RefusedChangesNothing → RefusedWritesNothing
refused_writes_nothing law (Still m) (Still next) log new_log addr bytes status plain told some few =
    let more : 1 ≤ status_of told.reply = omega (arith, some, told.status_is) in
    let less : status_of told.reply < 64 = omega (arith, few, told.status_is) in
    (refused_same law m next (MemWrite addr bytes) told.reply told.logged.is_applied (is_refusal told.reply more less), quiet_log m next log new_log (MemWrite addr bytes) told.reply law told.logged (is_refusal told.reply more less))
refused_writes_nothing law (Moving l) (Moving next) log new_log addr bytes status plain served some few =
    let more : 1 ≤ live_status served.reply = omega (arith, some, served.status_is) in
    let less : live_status served.reply < 64 = omega (arith, few, served.status_is) in
    let quiet = quiet_by law (refusal_for l.phase (Guest (MemWrite addr bytes))) l next (MemWrite addr bytes) served.reply 0 plain more less (logged_is_served l next log new_log (MemWrite addr bytes) served.reply served.serves) in
    (quiet.0, quiet_log_live l next log new_log (MemWrite addr bytes) served.reply law more less served.serves)
refused_writes_nothing law (Arriving r) (Arriving next) log new_log addr bytes status plain told some few = (told.1, told.0.1)
refused_writes_nothing law (Lent x) (Lent next) log new_log addr bytes status plain told some few = (same_loan x next told.1, told.0.1)
refused_writes_nothing law (Still m) (Moving next) log new_log addr bytes status plain told some few = absurd told
refused_writes_nothing law (Still m) (Arriving next) log new_log addr bytes status plain told some few = absurd told
refused_writes_nothing law (Still m) (Lent next) log new_log addr bytes status plain told some few = absurd told
refused_writes_nothing law (Moving l) (Still next) log new_log addr bytes status plain told some few = absurd told
refused_writes_nothing law (Moving l) (Arriving next) log new_log addr bytes status plain told some few = absurd told
refused_writes_nothing law (Moving l) (Lent next) log new_log addr bytes status plain told some few = absurd told
refused_writes_nothing law (Arriving r) (Still next) log new_log addr bytes status plain told some few = absurd told
refused_writes_nothing law (Arriving r) (Moving next) log new_log addr bytes status plain told some few = absurd told
refused_writes_nothing law (Arriving r) (Lent next) log new_log addr bytes status plain told some few = absurd told
refused_writes_nothing law (Lent x) (Still next) log new_log addr bytes status plain told some few = absurd told
refused_writes_nothing law (Lent x) (Moving next) log new_log addr bytes status plain told some few = absurd told
refused_writes_nothing law (Lent x) (Arriving next) log new_log addr bytes status plain told some few = absurd told
