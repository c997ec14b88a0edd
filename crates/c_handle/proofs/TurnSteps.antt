-- What the steps of a turn do to a machine that makes steps, whether it is being migrated or not.
use Rattle.std.proofs.Common.{◌≡◌, ◌≤◌, ◌<◌, ◌⊎◌, ℕ, suc, ◌==◌, nat_lt, if◌then◌else◌, Bool, true, false, List, [], ◌∷◌, length, inl, inr, refl, sym, ap, subst, ◌∙◌, arith, true≢false}
use Rattle.std.proofs.lemmas.Bool.{eqb-true, ltb-false}
use Rattle.std.specs.Prelude.{Option, Some, None, slice_get, slice_index_or}
use Rattle.blk.specs.declared.durable.SyncOwed.{SyncOwed}
use Rattle.blk.specs.declared.durable.SyncOwed.TheVariants.{Nothing, Flush, EndOfWrite}
use Rattle.machine.specs.AppliedLaws.{RefusedChangesNothing}
use Rattle.machine.specs.NextWork.{next_work_with_lost}
use Rattle.machine.specs.Seen.{state_of}
use Rattle.machine.specs.State.{DeviceState}
use Rattle.machine.specs.Unsynced.{makes_flush}
use Rattle.machine.specs.declared.event.Event.{Event}
use Rattle.machine.specs.declared.event.Event.TheVariants.{Step}
use Rattle.machine.specs.declared.reply.Reply.{Reply}
use Rattle.machine.specs.declared.work.Work.{Work}
use Rattle.sender.specs.Calls.{AfterGuest, Guests, Serves}
use Rattle.sender.specs.LiveState.{HasPlaces, LiveSeen, now, refusal_for}
use Rattle.sender.specs.Unsynced.{FailsLiveFlush, FailsLiveFlushIf}
use Rattle.sender.specs.declared.event.LiveEvent.TheVariants.{Guest}
use Rattle.sender.specs.declared.event.LiveReply.{LiveReply}
use Rattle.sender.specs.declared.event.LiveReply.TheVariants as r
use Rattle.sender.specs.declared.mig_error.MigError.{MigError}
use Rattle.sender.proofs.Fresh.{told}
use Rattle.c_handle.specs.Durable.{FailsKept, FailsUnless, owed_for, owed_lost}
use Rattle.c_handle.specs.Kept.{KeptSeen, State, Still, Moving, Arriving, Lent}
use Rattle.c_handle.specs.Mirror.{is_away, is_closed, is_stopped}
use Rattle.c_handle.specs.NextWork.{FindsUnless, FindsWork, NamesWork, owed_status}
use Rattle.c_handle.specs.Refused.{ArePlainIn, IsSameKept}
use Rattle.c_handle.specs.Stepped.{LiveSteppedIf, StepsKept, StepsOwing, most_sent_by}
use Rattle.c_handle.specs.OnHandle.{Unless}
use Rattle.c_handle.specs.Turns.{AreMade, EndsTurn, IsAsBefore, IsEnded, IsNamed, IsStep, IsUsedUp, Once, RefusedTurnsNothing, counted, ends_it, is_refused, status_by, turn_refusal}
use Rattle.c_handle.specs.declared.turning.Turn.{Turn}
use Rattle.c_handle.specs.declared.turning.Outcome.{Outcome}
use Rattle.c_handle.specs.declared.turning.Outcome.TheVariants as outcomes
use Rattle.c_handle.proofs.Owing.{itself, refused_steps_nothing}
use Rattle.c_handle.proofs.PageLogs.{logged_is_served}

-- A step of a machine that is being migrated changed nothing, was served, or its flush failed.
abbrev pub DidLive : LiveSeen → ℕ → ℕ → LiveSeen → Type 0
DidLive l dev pick next = (next ≡ l) ⊎ (((reply : Reply) × HasPlaces l × Serves l (Guest (Step dev pick)) (r.Guest reply) next) ⊎ (HasPlaces l × (is_closed l.phase ≡ false) × FailsLiveFlush l dev pick next))

by_reply : (l next : LiveSeen) (dev pick : ℕ) (reply : LiveReply) → HasPlaces l → Serves l (Guest (Step dev pick)) reply next
    → ((refusal_for l.phase (Guest (Step dev pick)) ≡ None) × Guests l (Step dev pick) reply next) ⊎ ((x : MigError) × (refusal_for l.phase (Guest (Step dev pick)) ≡ Some x) × ((reply ≡ r.Mig x) × (next ≡ l))) → DidLive l dev pick next
by_reply l next dev pick (r.Guest reply) places serves told_is = inr (inl (reply, places, serves))
by_reply l next dev pick (r.Begun round) places serves (inl done) = absurd done.1
by_reply l next dev pick (r.Copied item) places serves (inl done) = absurd done.1
by_reply l next dev pick r.RoundDone places serves (inl done) = absurd done.1
by_reply l next dev pick r.RoundOpen places serves (inl done) = absurd done.1
by_reply l next dev pick (r.Stopped pages sectors) places serves (inl done) = absurd done.1
by_reply l next dev pick (r.Mig error) places serves (inl done) = absurd done.1
by_reply l next dev pick (r.Begun round) places serves (inr refused) = inl refused.2.1
by_reply l next dev pick (r.Copied item) places serves (inr refused) = inl refused.2.1
by_reply l next dev pick r.RoundDone places serves (inr refused) = inl refused.2.1
by_reply l next dev pick r.RoundOpen places serves (inr refused) = inl refused.2.1
by_reply l next dev pick (r.Stopped pages sectors) places serves (inr refused) = inl refused.2.1
by_reply l next dev pick (r.Mig error) places serves (inr refused) = inl refused.2.1

stepped_live : (closed small : Bool) (l next : LiveSeen) (log new_log : Option (List Bool)) (dev pick status number before : ℕ) (buf new_buf : List ℕ) → LiveSteppedIf closed small l log dev pick status number before buf new_buf next new_log → DidLive l dev pick next
stepped_live true small l next log new_log dev pick status number before buf new_buf s = inl s.same
stepped_live false true l next log new_log dev pick status number before buf new_buf s = inl s.same
stepped_live false false l next log new_log dev pick status number before buf new_buf s =
    let serves = logged_is_served l next log new_log (Step dev pick) s.reply s.serves in
    by_reply l next dev pick s.reply s.places serves (told (refusal_for l.phase (Guest (Step dev pick))) (Guests l (Step dev pick) s.reply next) (λ x. (s.reply ≡ r.Mig x) × (next ≡ l)) serves)

failed_if : (made : Bool) (l next : LiveSeen) (dev pick : ℕ) → HasPlaces l → is_closed l.phase ≡ false → FailsLiveFlushIf made l dev pick next → DidLive l dev pick next
failed_if true l next dev pick places open_still f = inr (inr (places, open_still, f))
failed_if false l next dev pick places open_still f = inl f

failed_live : (closed : Bool) (l next : LiveSeen) (dev pick status : ℕ) → is_closed l.phase ≡ closed → FailsUnless closed l dev pick status next → DidLive l dev pick next
failed_live true l next dev pick status is f = inl f.1
failed_live false l next dev pick status is f = failed_if (makes_flush (now l) dev pick) l next dev pick f.places is f.failed

-- What a step leaves is a machine as before, being migrated or not.
abbrev pub Did : ℕ → ℕ → State → State → Type 0
Did dev pick (Still m) (Still next) = Unit {0}
Did dev pick (Moving l) (Moving next) = DidLive l dev pick next
Did dev pick _ _ = ⊥

did_kept : (k next : State) (log new_log : Option (List Bool)) (dev pick status number before : ℕ) (buf new_buf : List ℕ) → is_away k ≡ false → StepsKept k log dev pick status number before buf new_buf next new_log → Did dev pick k next
did_kept (Still m) (Still next) log new_log dev pick status number before buf new_buf here s = tt
did_kept (Moving l) (Moving next) log new_log dev pick status number before buf new_buf here s = stepped_live (is_closed l.phase) (nat_lt (length buf) (most_sent_by l.machine dev pick)) l next log new_log dev pick status number before buf new_buf s
did_kept (Still m) (Moving next) log new_log dev pick status number before buf new_buf here s = absurd s
did_kept (Still m) (Arriving next) log new_log dev pick status number before buf new_buf here s = absurd s
did_kept (Still m) (Lent next) log new_log dev pick status number before buf new_buf here s = absurd s
did_kept (Moving l) (Still next) log new_log dev pick status number before buf new_buf here s = absurd s
did_kept (Moving l) (Arriving next) log new_log dev pick status number before buf new_buf here s = absurd s
did_kept (Moving l) (Lent next) log new_log dev pick status number before buf new_buf here s = absurd s
did_kept (Arriving r) next log new_log dev pick status number before buf new_buf here s = absurd (true≢false here)
did_kept (Lent x) next log new_log dev pick status number before buf new_buf here s = absurd (true≢false here)

did_fail : (k next : State) (dev pick status : ℕ) → is_away k ≡ false → FailsKept k dev pick status next → Did dev pick k next
did_fail (Still m) (Still next) dev pick status here f = tt
did_fail (Moving l) (Moving next) dev pick status here f = failed_live (is_closed l.phase) l next dev pick status refl f
did_fail (Still m) (Moving next) dev pick status here f = absurd f
did_fail (Still m) (Arriving next) dev pick status here f = absurd f
did_fail (Still m) (Lent next) dev pick status here f = absurd f
did_fail (Moving l) (Still next) dev pick status here f = absurd f
did_fail (Moving l) (Arriving next) dev pick status here f = absurd f
did_fail (Moving l) (Lent next) dev pick status here f = absurd f
did_fail (Arriving r) next dev pick status here f = absurd (true≢false here)
did_fail (Lent x) next dev pick status here f = absurd (true≢false here)

did_nothing : (k : State) (dev pick : ℕ) → is_away k ≡ false → Did dev pick k k
did_nothing (Still m) dev pick here = tt
did_nothing (Moving l) dev pick here = inl refl
did_nothing (Arriving r) dev pick here = absurd (true≢false here)
did_nothing (Lent x) dev pick here = absurd (true≢false here)

did : (o : SyncOwed) (k next : State) (log new_log : Option (List Bool)) (dev pick status number before : ℕ) (buf new_buf : List ℕ) → is_away k ≡ false → StepsOwing o k log dev pick status number before buf new_buf next new_log → Did dev pick k next
did Nothing k next log new_log dev pick status number before buf new_buf here s = did_kept k next log new_log dev pick status number before buf new_buf here s
did Flush k next log new_log dev pick status number before buf new_buf here s = did_fail k next dev pick status here s.fails
did EndOfWrite k next log new_log dev pick status number before buf new_buf here s = subst (λ (x : State). Did dev pick k x) (sym s.same) (did_nothing k dev pick here)

-- The phase stays.
phase_by : (l next : LiveSeen) (e : Event) (reply : Reply) → ((refusal_for l.phase (Guest e) ≡ None) × AfterGuest l e reply next) ⊎ ((x : MigError) × (refusal_for l.phase (Guest e) ≡ Some x) × ((r.Guest reply ≡ r.Mig x) × (next ≡ l))) → next.phase ≡ l.phase
phase_by l next e reply (inl done) = ap (λ (x : LiveSeen). x.phase) done.1.rest
phase_by l next e reply (inr refused) = ap (λ (x : LiveSeen). x.phase) refused.2.1

phase_live : (l next : LiveSeen) (dev pick : ℕ) → DidLive l dev pick next → next.phase ≡ l.phase
phase_live l next dev pick (inl same) = ap (λ (x : LiveSeen). x.phase) same
phase_live l next dev pick (inr (inl did_it)) =
    phase_by l next (Step dev pick) did_it.0 (told (refusal_for l.phase (Guest (Step dev pick))) (AfterGuest l (Step dev pick) did_it.0 next) (λ x. (r.Guest did_it.0 ≡ r.Mig x) × (next ≡ l)) did_it.2)
phase_live l next dev pick (inr (inr failed)) = ap (λ (x : LiveSeen). x.phase) failed.2.rest

-- The machine makes steps, before one and after it.
abbrev pub Runs : State → Type 0
Runs k = (is_away k ≡ false) × (is_stopped k ≡ false)

pub runs_on : (k next : State) (dev pick : ℕ) → Runs k → Did dev pick k next → Runs next
runs_on (Still m) (Still next) dev pick runs d = (refl, refl)
runs_on (Moving l) (Moving next) dev pick runs d = (refl, ap is_closed (phase_live l next dev pick d) ∙ runs.1)
runs_on (Still m) (Moving next) dev pick runs d = absurd d
runs_on (Still m) (Arriving next) dev pick runs d = absurd d
runs_on (Still m) (Lent next) dev pick runs d = absurd d
runs_on (Moving l) (Still next) dev pick runs d = absurd d
runs_on (Moving l) (Arriving next) dev pick runs d = absurd d
runs_on (Moving l) (Lent next) dev pick runs d = absurd d
runs_on (Arriving r) next dev pick runs d = absurd (true≢false runs.0)
runs_on (Lent x) next dev pick runs d = absurd (true≢false runs.0)

pub did_step : (k next : KeptSeen) (t : Turn) (w : Work) (status number : ℕ) (buf new_buf : List ℕ) → Runs k.state → IsStep k t w status number buf new_buf next → Did w.dev w.pick k.state next.state
did_step k next t w status number buf new_buf runs s = did (owed_lost k w.dev w.pick) k.state next.state k.written next.written w.dev w.pick status number t.len buf new_buf runs.0 s.made

pub all_run : (k : KeptSeen) (t : Turn) (ws : List Work) (buf new_buf : List ℕ) (next : KeptSeen) (at : Turn) → Runs k.state → AreMade k t ws buf new_buf next at → Runs next.state
all_run k t [] buf new_buf next at runs done = subst (λ (x : KeptSeen). Runs x.state) (sym done.0) runs
all_run k t (w ∷ ws) buf new_buf next at runs done =
    all_run done.0 (counted t w) ws done.1 new_buf next at (runs_on k.state done.0.state w.dev w.pick runs (did_step k done.0 t w done.2.status done.2.number buf done.1 runs done.2.step)) done.3

-- What is not refused runs.
three_tests : {A : Type 0} (away stopped : Bool) (a b : A) (rest : Option A) → ◌≡◌ {A = Option A} (if away then Some a else if stopped then Some b else rest) None → (away ≡ false) × (stopped ≡ false)
three_tests true stopped a b rest is = absurd cc
three_tests false true a b rest is = absurd cc
three_tests false false a b rest is = (refl, refl)

pub runs_unless : (k : State) (t : Turn) (room : ℕ) → turn_refusal k t room ≡ None → Runs k
runs_unless k t room none = three_tests (is_away k) (is_stopped k) _ _ _ none

-- What `vmig_next` tells of a machine that makes steps is no refusal.
told_owed : (o : SyncOwed) → 64 ≤ owed_status o
told_owed Nothing = omega arith
told_owed Flush = omega arith
told_owed EndOfWrite = omega arith

told_work : (lost : Bool) (o : SyncOwed) → 64 ≤ (if lost then 78 else owed_status o)
told_work true o = omega arith
told_work false o = told_owed o

told_named : (lost : List Bool) (devices : List DeviceState) (found : Option Work) (status dev old_dev pick old_pick : ℕ) → NamesWork lost devices found status dev old_dev pick old_pick → 64 ≤ status
told_named lost devices (Some w) status dev old_dev pick old_pick n = subst (λ (s : ℕ). 64 ≤ s) (sym n.0) (told_work (slice_index_or lost w.dev false) (owed_for (slice_get devices w.dev) w.pick))
told_named lost devices None status dev old_dev pick old_pick n = subst (λ (s : ℕ). 64 ≤ s) (sym n.0) (omega arith)

told_unless : (closed : Bool) (lost : List Bool) (devices : List DeviceState) (status dev old_dev pick old_pick : ℕ) → closed ≡ false → FindsUnless closed lost devices status dev old_dev pick old_pick → 64 ≤ status
told_unless true lost devices status dev old_dev pick old_pick is n = absurd (true≢false is)
told_unless false lost devices status dev old_dev pick old_pick is n = told_named lost devices (next_work_with_lost devices lost (record { dev = old_dev; pick = old_pick })) status dev old_dev pick old_pick n

told_in : (k : KeptSeen) (s : State) (status dev old_dev pick old_pick : ℕ) → k.state ≡ s → Runs s → FindsWork k status dev old_dev pick old_pick → 64 ≤ status
told_in k (Still m) status dev old_dev pick old_pick is runs n =
    told_named k.lost (state_of m).devices (next_work_with_lost (state_of m).devices k.lost (record { dev = old_dev; pick = old_pick })) status dev old_dev pick old_pick (rw is at n)
told_in k (Moving l) status dev old_dev pick old_pick is runs n = told_unless (is_closed l.phase) k.lost (state_of l.machine).devices status dev old_dev pick old_pick runs.1 (rw is at n)
told_in k (Arriving r) status dev old_dev pick old_pick is runs n = absurd (true≢false runs.0)
told_in k (Lent x) status dev old_dev pick old_pick is runs n = absurd (true≢false runs.0)

told_next : (k : KeptSeen) (t : Turn) (status : ℕ) (w : Work) → Runs k.state → IsNamed k t status w → 64 ≤ status
told_next k t status w runs n = told_in k k.state status w.dev t.dev w.pick t.pick refl runs n

told_more : (b : Bool) (status : ℕ) → 64 ≤ status → 64 ≤ (if b then 78 else status)
told_more true status past = omega arith
told_more false status past = past

-- What is refused.
lt_true : (m n : ℕ) (b : Bool) → nat_lt m n ≡ b → m < n → b ≡ true
lt_true m n true is less = refl
lt_true m n false is less = absurd (omega (arith, ltb-false m n is, less))

pub told_refused : (status : ℕ) → 1 ≤ status → status < 64 → is_refused status ≡ true
told_refused status some few = rw (lt_true 0 status (nat_lt 0 status) refl some, lt_true status 64 (nat_lt status 64) refl few) refl

unless_first : (b : Bool) (made told_is : ℕ) → (suc made == 0) ≡ b → (if b then told_is else 78) ≡ 78
unless_first true made told_is is = absurd (omega (arith, eqb-true (suc made) 0 is))
unless_first false made told_is is = refl

abbrev Quiet : KeptSeen → Turn → List ℕ → List ℕ → KeptSeen → Turn → Type 0
Quiet k t buf new_buf next after = IsSameKept k.state next.state × (new_buf ≡ buf) × (after ≡ t)

quiet_step : RefusedChangesNothing → (k next : KeptSeen) (t after : Turn) (w : Work) (status number : ℕ) (buf new_buf : List ℕ) → ArePlainIn k.state → IsStep k t w status number buf new_buf next → after ≡ t → 1 ≤ status → status < 64 → Quiet k t buf new_buf next after
quiet_step law k next t after w status number buf new_buf plain s same some few =
    let quiet = refused_steps_nothing law (owed_lost k w.dev w.pick) k.state next.state k.written next.written w.dev w.pick status number t.len buf new_buf plain s.made some few in
    (quiet.0, quiet.2, same)

quiet_once : RefusedChangesNothing → (made : ℕ) (outcome : Outcome) (k next : KeptSeen) (t after : Turn) (status : ℕ) (buf new_buf : List ℕ) → made ≡ 0 → ArePlainIn k.state → Runs k.state → Once k t outcome buf new_buf next after → ends_it outcome ≡ true
    → status ≡ status_by made outcome → 1 ≤ status → status < 64 → Quiet k t buf new_buf next after
quiet_once law made outcomes.Made k next t after status buf new_buf first plain runs once ends is some few = absurd cc
quiet_once law made (outcomes.NoneNamed reason) k next t after status buf new_buf first plain runs once ends is some few = absurd (omega (arith, is, few, told_next k t reason once.0 runs once.1))
quiet_once law made outcomes.PassedOver k next t after status buf new_buf first plain runs once ends is some few = absurd (omega (arith, is, few))
quiet_once law made (outcomes.Refused reason) k next t after status buf new_buf first plain runs once ends is some few =
    let here : status ≡ reason = rw first at is in
    quiet_step law k next t after once.0 reason once.1 buf new_buf plain once.2 once.4 (omega (arith, here, some)) (omega (arith, here, few))
quiet_once law made (outcomes.Answered reason) k next t after status buf new_buf first plain runs once ends is some few =
    absurd (true≢false (sym (told_refused reason (omega (arith, is, some)) (omega (arith, is, few))) ∙ once.3))

-- After steps that were made a refusal is told as more to do.
later_told : (made : ℕ) (outcome : Outcome) (k next : KeptSeen) (t after : Turn) (status : ℕ) (buf new_buf : List ℕ) → Runs k.state → Once k t outcome buf new_buf next after → ends_it outcome ≡ true
    → status ≡ status_by (suc made) outcome → 1 ≤ status → status < 64 → ⊥
later_told made outcomes.Made k next t after status buf new_buf runs once ends is some few = absurd cc
later_told made (outcomes.NoneNamed reason) k next t after status buf new_buf runs once ends is some few = omega (arith, is, few, told_next k t reason once.0 runs once.1)
later_told made outcomes.PassedOver k next t after status buf new_buf runs once ends is some few = omega (arith, is, few)
later_told made (outcomes.Refused reason) k next t after status buf new_buf runs once ends is some few = omega (arith, is, few, unless_first (suc made == 0) made reason refl)
later_told made (outcomes.Answered reason) k next t after status buf new_buf runs once ends is some few =
    true≢false (sym (told_refused reason (omega (arith, is, some)) (omega (arith, is, few))) ∙ once.3)

quiet_ended : RefusedChangesNothing → (works : List Work) (k between next : KeptSeen) (t at after : Turn) (status : ℕ) (buf mid_buf new_buf : List ℕ) → ArePlainIn k.state → Runs k.state → AreMade k t works buf mid_buf between at
    → IsEnded (length works) between at status mid_buf new_buf next after → 1 ≤ status → status < 64 → Quiet k t buf new_buf next after
quiet_ended law [] k between next t at after status buf mid_buf new_buf plain runs made e some few =
    let here : IsEnded 0 k t status buf new_buf next after = rw (made.0, made.1, made.2) at e in
    quiet_once law 0 here.outcome k next t after status buf new_buf refl plain runs here.once here.ends here.status_is some few
quiet_ended law (w ∷ works) k between next t at after status buf mid_buf new_buf plain runs made e some few =
    absurd (later_told (length works) e.outcome between next at after status mid_buf new_buf (all_run k t (w ∷ works) buf mid_buf between at runs made) e.once e.ends e.status_is some few)

quiet_by_end : RefusedChangesNothing → (k next : KeptSeen) (t after : Turn) (status : ℕ) (buf new_buf : List ℕ) (e : EndsTurn k t status buf new_buf next after)
    → IsUsedUp e.between e.at status e.mid_buf new_buf next after ⊎ IsEnded (length e.works) e.between e.at status e.mid_buf new_buf next after → ArePlainIn k.state → Runs k.state → 1 ≤ status → status < 64 → Quiet k t buf new_buf next after
quiet_by_end law k next t after status buf new_buf e (inl u) plain runs some few =
    let past = told_next e.between e.at u.named_status u.step (all_run k t e.works buf e.mid_buf e.between e.at runs e.made) u.named in
    absurd (omega (arith, u.status_is, few, told_more (u.named_status == 80) u.named_status past))
quiet_by_end law k next t after status buf new_buf e (inr ended) plain runs some few =
    quiet_ended law e.works k e.between next t e.at after status buf e.mid_buf new_buf plain runs e.made ended some few

quiet_unless : RefusedChangesNothing → (o : Option ℕ) (k next : KeptSeen) (t after : Turn) (status : ℕ) (buf new_buf : List ℕ) → o ≡ turn_refusal k.state t (length buf)
    → Unless o (λ reason. (status ≡ reason) × IsAsBefore k buf new_buf next × (after ≡ t)) (EndsTurn k t status buf new_buf next after) → ArePlainIn k.state → 1 ≤ status → status < 64 → Quiet k t buf new_buf next after
quiet_unless law (Some reason) k next t after status buf new_buf is u plain some few = (subst (λ (x : KeptSeen). IsSameKept k.state x.state) (sym u.1.0) (itself k.state), u.1.1, u.2)
quiet_unless law None k next t after status buf new_buf is u plain some few = quiet_by_end law k next t after status buf new_buf u u.ended plain (runs_unless k.state t (length buf) (sym is)) some few

pub refused_turns_nothing : RefusedChangesNothing → RefusedTurnsNothing
refused_turns_nothing law k next t after status buf new_buf plain turns some few = quiet_unless law (turn_refusal k.state t (length buf)) k next t after status buf new_buf refl turns plain some few
