-- Flushes that fail in place of their step.
use Rattle.std.proofs.Common.{◌≡◌, ◌≤◌, ◌<◌, ℕ, Bool, true, false, [], length, refl, sym, ap, ◌∙◌, subst, arith}
use Rattle.std.specs.Prelude.{Option, Some, None, MatchOption, Result, Ok, Err, slice_set}
use Rattle.std.proofs.lemmas.List.{get_or-set_same}
use Rattle.guestmem.specs.Memory.{Memory}
use Rattle.machine.specs.Seen.{DeviceSeen, Seen, no_marks, state_of}
use Rattle.machine.specs.Unsynced.{FailsFlushIf, makes_flush}
use Rattle.machine.specs.declared.event.Event.TheVariants.{Step}
use Rattle.sender.specs.LiveState.{HasPlaces, LiveSeen, now, refusal_for}
use Rattle.sender.specs.Unsynced.{AnswersFlush, FailsLiveFlushIf, TriesFlush}
use Rattle.sender.specs.declared.event.LiveEvent.TheVariants.{Guest}
use Rattle.sender.specs.declared.mig_error.MigError.{MigError}
use Rattle.sender.specs.declared.phase.Phase.{Phase}
use Rattle.sender.specs.declared.phase.Phase.TheVariants as phases
use Rattle.wire.specs.Sinks.{over_writer}
use Rattle.sender.specs.Taking.{untaken}
use Rattle.sender.proofs.Behind.{failure_stays_behind}
use Rattle.c_handle.specs.Durable.{FailedIsLost, FailsSync, FailsUnless, FailedMirrors, FailedStaysPlain, HasLost, Loses, RefusedFailsNothing, loss_refusal}
use Rattle.c_handle.specs.Kept.{KeptSeen, is_lost}
use Rattle.c_handle.specs.Mirror.{Mirrors, is_closed}
use Rattle.c_handle.specs.OnHandle.{Refuses, Unless}
use Rattle.c_handle.specs.Sent.{FailedFlushesStaySent}
use Rattle.c_handle.specs.SendStatus.{mig_status}
use Rattle.c_machine.proofs.Plain.{as_many}

-- Of a machine that is not being migrated.
pub failed : (m next : Seen) (dev pick : ℕ) (was : Bool) → was ≡ true → was ≡ makes_flush (state_of m) dev pick → FailsFlushIf was m dev pick next → FailsSync m dev pick 69 next
failed m next dev pick true made is f = record { status_is = rw (← is) refl; failed = subst (λ (b : Bool). FailsFlushIf b m dev pick next) is f }
failed m next dev pick false made is f = cc

pub not_failed : (m next : Seen) (dev pick : ℕ) (was : Bool) → was ≡ false → was ≡ makes_flush (state_of m) dev pick → FailsFlushIf was m dev pick next → FailsSync m dev pick 65 next
not_failed m next dev pick true none is f = cc
not_failed m next dev pick false none is f = record { status_is = rw (← is) refl; failed = subst (λ (b : Bool). FailsFlushIf b m dev pick next) is f }

-- Of one that is.
same_error : (e x : MigError) → ◌≡◌ {A = Result Bool MigError} (Err e) (Err x) → mig_status e ≡ mig_status x
same_error e x h = cc

answered : (p : Phase) (l next : LiveSeen) (dev pick : ℕ) (was : Bool) → MatchOption (refusal_for p (Guest (Step dev pick))) (AnswersFlush l dev pick (Ok was) next) (λ (x : MigError). ◌≡◌ {A = Result Bool MigError} (Ok was) (Err x) × (next ≡ l)) → (is_closed p ≡ false) × AnswersFlush l dev pick (Ok was) next
answered phases.Fresh l next dev pick was t = (refl, t)
answered (phases.Open k) l next dev pick was t = (refl, t)
answered phases.Failed l next dev pick was t = (refl, t)
answered phases.Stopped l next dev pick was t = let other = t.0 in absurd cc

refused_by : (p : Phase) (l next : LiveSeen) (dev pick : ℕ) (e : MigError) → MatchOption (refusal_for p (Guest (Step dev pick))) (AnswersFlush l dev pick (Err e) next) (λ (x : MigError). ◌≡◌ {A = Result Bool MigError} (Err e) (Err x) × (next ≡ l)) → FailsUnless (is_closed p) l dev pick (mig_status e) next
refused_by phases.Fresh l next dev pick e t = absurd t
refused_by (phases.Open k) l next dev pick e t = absurd t
refused_by phases.Failed l next dev pick e t = absurd t
refused_by phases.Stopped l next dev pick e t = (same_error e _ t.0, t.1)

pub live_failed : (l next : LiveSeen) (dev pick : ℕ) (answer : Result Bool MigError) (was : Bool) → answer ≡ Ok was → was ≡ true → HasPlaces l → TriesFlush l dev pick answer next → FailsUnless (is_closed l.phase) l dev pick 69 next
live_failed l next dev pick answer was is made places tries =
    let a = answered l.phase l next dev pick was (subst (λ (r : Result Bool MigError). TriesFlush l dev pick r next) is tries) in
    let flushes : makes_flush (now l) dev pick ≡ true = sym a.1.0 ∙ made in
    rw a.0 (record { places = places; status_is = rw flushes refl; failed = subst (λ (b : Bool). FailsLiveFlushIf b l dev pick next) a.1.0 a.1.1 })

pub live_not_failed : (l next : LiveSeen) (dev pick : ℕ) (answer : Result Bool MigError) (was : Bool) → answer ≡ Ok was → was ≡ false → HasPlaces l → TriesFlush l dev pick answer next → FailsUnless (is_closed l.phase) l dev pick 65 next
live_not_failed l next dev pick answer was is none places tries =
    let a = answered l.phase l next dev pick was (subst (λ (r : Result Bool MigError). TriesFlush l dev pick r next) is tries) in
    let flushes : makes_flush (now l) dev pick ≡ false = sym a.1.0 ∙ none in
    rw a.0 (record { places = places; status_is = rw flushes refl; failed = subst (λ (b : Bool). FailsLiveFlushIf b l dev pick next) a.1.0 a.1.1 })

pub live_refused : (l next : LiveSeen) (dev pick status : ℕ) (answer : Result Bool MigError) (e : MigError) → answer ≡ Err e → TriesFlush l dev pick answer next → status ≡ mig_status e → FailsUnless (is_closed l.phase) l dev pick status next
live_refused l next dev pick status answer e is tries told =
    rw told (refused_by l.phase l next dev pick e (subst (λ (r : Result Bool MigError). TriesFlush l dev pick r next) is tries))

-- The disk is lost, or why it is not.
pub not_lost : (k : KeptSeen) (dev status : ℕ) (r : Option ℕ) → r ≡ Some status → r ≡ loss_refusal k.state dev → Loses k dev status k
not_lost k dev status r is refused = subst (λ (o : Option ℕ). Unless o (Refuses status k k) (HasLost k dev status k)) (sym is ∙ refused) (refl, refl)

pub lost : (k next : KeptSeen) (dev : ℕ) (r : Option ℕ) → r ≡ None → r ≡ loss_refusal k.state dev → next ≡ record k { lost = slice_set k.lost dev true } → Loses k dev 0 next
lost k next dev r is none marked = subst (λ (o : Option ℕ). Unless o (Refuses 0 next k) (HasLost k dev 0 next)) (sym is ∙ none) (record { status_is = refl; rest = marked })

-- What was refused.
same_by : (r : Option ℕ) (k next : KeptSeen) (dev status : ℕ) → Unless r (Refuses status next k) (HasLost k dev status next) → 1 ≤ status → next ≡ k
same_by (Some refusal) k next dev status loses some = loses.1
same_by None k next dev status loses some = absurd (omega (arith, loses.status_is, some))

pub refused_fails_nothing : RefusedFailsNothing
refused_fails_nothing k next dev status loses some few = same_by (loss_refusal k.state dev) k next dev status loses some

lost_by : (r : Option ℕ) (k next : KeptSeen) (dev status : ℕ) → r ≡ None → Unless r (Refuses status next k) (HasLost k dev status next) → dev < length k.lost → is_lost next dev ≡ true
lost_by (Some refusal) k next dev status none loses below = absurd cc
lost_by None k next dev status none loses below = ap (λ (x : KeptSeen). is_lost x dev) loses.rest ∙ get_or-set_same k.lost dev true false below

pub failed_is_lost : FailedIsLost
failed_is_lost k next dev status loses none below = lost_by (loss_refusal k.state dev) k next dev status none loses below

pub failed_stays_plain : FailedStaysPlain
failed_stays_plain m next dev pick plain f = as_many no_marks (λ (d : DeviceSeen). d.marks) next.devices m.devices (f.marks ∙ plain)

pub failed_mirrors : FailedMirrors
failed_mirrors m next dev pick ram seen f mirrors = subst (λ (x : Memory). Mirrors x ram seen) (sym f.memory) mirrors

-- The history of a machine that is being migrated.
pub failed_flushes_stay_sent : FailedFlushesStaySent
failed_flushes_stay_sent m h taken pages dev pick l next is places goes f =
    let there : HasPlaces (untaken taken l) = record { sound = places.sound; few = places.few; due_size = places.due_size; dirty_size = places.dirty_size } in
    let more = failure_stays_behind m h (over_writer (Some []) 0 false) pages dev pick (untaken taken l) (untaken taken next) is there goes (record { failed = f.failed; rest = ap (untaken taken) f.rest }) in
    record { effect = more.effect; is_sent = more.behind }
