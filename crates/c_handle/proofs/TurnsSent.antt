-- The history of a machine that is sent goes on by the steps of a turn, all of them and no others.
use Rattle.std.proofs.Common.{◌≡◌, ◌≤◌, ◌<◌, ◌⊎◌, ℕ, ◌==◌, nat_lt, if◌then◌else◌, Bool, true, false, List, [], ◌∷◌, ◌++◌, length, map, inl, inr, refl, sym, ap, subst, ◌∙◌, arith, append-nil, append_assoc, true≢false}
use Rattle.std.proofs.lemmas.Bool.{eqb-true}
use Rattle.std.proofs.lemmas.List.{map-append}
use Rattle.std.specs.List.{find}
use Rattle.std.specs.Prelude.{Option, Some, None, IfSome, ◌&&◌, ◌||◌, not, slice_get, slice_index_or}
use Rattle.blk.specs.declared.durable.SyncOwed.{SyncOwed}
use Rattle.blk.specs.declared.durable.SyncOwed.TheVariants.{Nothing, Flush, EndOfWrite}
use Rattle.machine.specs.Effect.{Effect}
use Rattle.machine.specs.NextWork.{can_work_at, device_can_work, in_turn_after, is_end_owed, next_work_with_lost}
use Rattle.machine.specs.Seen.{state_of}
use Rattle.machine.specs.State.{DeviceState, MachineState}
use Rattle.machine.specs.Turn.{step_of}
use Rattle.machine.specs.Unsynced.{makes_flush, owed}
use Rattle.machine.specs.declared.event.Event.{Event}
use Rattle.machine.specs.declared.event.Event.TheVariants.{Step}
use Rattle.machine.specs.declared.reply.Reply.{Reply}
use Rattle.machine.specs.declared.reply.Reply.TheVariants.{DiskFailed}
use Rattle.machine.specs.declared.work.Work.{Work}
use Rattle.wire.specs.Stream.{texts}
use Rattle.sender.specs.Calls.{Guests, Serves}
use Rattle.sender.specs.History.{History, guest_events, text, then_came}
use Rattle.sender.specs.LiveState.{HasPlaces, LiveSeen, now, refusal_for}
use Rattle.sender.specs.Unsynced.{FailsLiveFlush, FailsLiveFlushIf}
use Rattle.sender.specs.declared.event.LiveEvent.TheVariants.{Guest}
use Rattle.sender.specs.declared.event.LiveReply.{LiveReply}
use Rattle.sender.specs.declared.event.LiveReply.TheVariants as r
use Rattle.sender.specs.declared.mig_error.MigError.{MigError}
use Rattle.sender.specs.declared.phase.Phase.TheVariants as phases
use Rattle.sender.proofs.StepBeside.{may_guest}
use Rattle.sender.proofs.Fresh.{told}
use Rattle.c_handle.specs.Durable.{FailsUnless, failed_status, owed_for, owed_in, owed_lost}
use Rattle.c_handle.specs.Kept.{KeptSeen, State, Still, Moving, Arriving, Lent, is_lost}
use Rattle.c_handle.specs.Mirror.{is_closed}
use Rattle.c_handle.specs.NextWork.{FindsUnless, NamesWork}
use Rattle.c_handle.specs.OnHandle.{Unless}
use Rattle.c_handle.specs.Sent.{GoesOnSent, IsSent}
use Rattle.c_handle.specs.Stepped.{LiveSteppedIf, StepsOwing, most_sent_by}
use Rattle.c_handle.specs.Turns.{AreMade, EndsBy, EndsTurn, HasSteps, IsAsBefore, IsEnded, IsNamed, IsStep, IsUsedUp, Once, TurnsStaySent, counted, ends_it, goes_on, turn_refusal}
use Rattle.c_handle.specs.declared.turning.Turn.{Turn}
use Rattle.c_handle.specs.declared.turning.Outcome.{Outcome}
use Rattle.c_handle.specs.declared.turning.Outcome.TheVariants as outcomes
use Rattle.c_handle.proofs.Failing.{failed_flushes_stay_sent}
use Rattle.c_handle.proofs.Mirroring.{going_for}
use Rattle.c_handle.proofs.PageLogs.{logged_is_served}
use Rattle.c_handle.proofs.Sent.{calls_stay_sent}
use Rattle.c_handle.proofs.TurnSteps.{Runs, all_run, did_step, runs_on, runs_unless}

-- A step was served, or its flush failed.
abbrev DoneLive : LiveSeen → ℕ → ℕ → LiveSeen → Type 0
DoneLive l dev pick next = ((reply : Reply) × HasPlaces l × Serves l (Guest (Step dev pick)) (r.Guest reply) next) ⊎ (HasPlaces l × (is_closed l.phase ≡ false) × FailsLiveFlush l dev pick next)

-- It was; or it was refused before the machine, and left all as it was.
abbrev Done : KeptSeen → Work → ℕ → List ℕ → List ℕ → KeptSeen → LiveSeen → Type 0
Done k w status buf new_buf next l = ((live : LiveSeen) × (next.state ≡ Moving live) × DoneLive l w.dev w.pick live) ⊎ (IsAsBefore k buf new_buf next × (status < 64))

not_stopped : (l : LiveSeen) → is_closed l.phase ≡ false → l.phase ≡ phases.Stopped → ⊥
not_stopped l goes stopped = true≢false (sym (ap is_closed stopped) ∙ goes)

served_by : (l live : LiveSeen) (dev pick : ℕ) (reply : LiveReply) → HasPlaces l → is_closed l.phase ≡ false → Serves l (Guest (Step dev pick)) reply live
    → ((refusal_for l.phase (Guest (Step dev pick)) ≡ None) × Guests l (Step dev pick) reply live) ⊎ ((x : MigError) × (refusal_for l.phase (Guest (Step dev pick)) ≡ Some x) × ((reply ≡ r.Mig x) × (live ≡ l))) → DoneLive l dev pick live
served_by l live dev pick reply places goes serves (inr refused) =
    let none : (◌≡◌ {A = Option MigError} None (Some refused.0)) = sym (going_for l.phase (Step dev pick) goes) ∙ refused.1 in absurd cc
served_by l live dev pick (r.Guest reply) places goes serves (inl done) = inl (reply, places, serves)
served_by l live dev pick (r.Begun round) places goes serves (inl done) = absurd done.1
served_by l live dev pick (r.Copied item) places goes serves (inl done) = absurd done.1
served_by l live dev pick r.RoundDone places goes serves (inl done) = absurd done.1
served_by l live dev pick r.RoundOpen places goes serves (inl done) = absurd done.1
served_by l live dev pick (r.Stopped pages sectors) places goes serves (inl done) = absurd done.1
served_by l live dev pick (r.Mig error) places goes serves (inl done) = absurd done.1

as_before : (k next : KeptSeen) (s : State) (log : Option (List Bool)) (buf new_buf : List ℕ) → next ≡ record k { state = s; written = log } → s ≡ k.state → log ≡ k.written → new_buf ≡ buf → IsAsBefore k buf new_buf next
as_before k next s log buf new_buf rest state_same log_same buf_same = (rest ∙ rw (state_same, log_same) refl, buf_same)

told_as : (made : Bool) → failed_status made ≡ (if made then 69 else 65)
told_as true = refl
told_as false = refl

module _ (k next : KeptSeen) (l live : LiveSeen) (w : Work) (status number before : ℕ) (buf new_buf : List ℕ) (is : k.state ≡ Moving l) (next_is : next.state ≡ Moving live) (rest : next ≡ record k { state = next.state; written = next.written }) where
  undone : live ≡ l → next.written ≡ k.written → new_buf ≡ buf → IsAsBefore k buf new_buf next
  undone same log_same buf_same = as_before k next next.state next.written buf new_buf rest (next_is ∙ ap Moving same ∙ sym is) log_same buf_same

  stepped_done : (closed small : Bool) → is_closed l.phase ≡ closed → LiveSteppedIf closed small l k.written w.dev w.pick status number before buf new_buf live next.written → Done k w status buf new_buf next l
  stepped_done true small goes s = inr (undone s.same s.log_same s.buf_same, omega (arith, s.status_is))
  stepped_done false true goes s = inr (undone s.same s.log_same s.buf_same, omega (arith, s.status_is))
  stepped_done false false goes s =
      let serves = logged_is_served l live k.written next.written (Step w.dev w.pick) s.reply s.serves in
      inl (live, next_is, served_by l live w.dev w.pick s.reply s.places goes serves (told (refusal_for l.phase (Guest (Step w.dev w.pick))) (Guests l (Step w.dev w.pick) s.reply live) (λ x. (s.reply ≡ r.Mig x) × (live ≡ l)) serves))

  failed_if : (made : Bool) → makes_flush (now l) w.dev w.pick ≡ made → HasPlaces l → is_closed l.phase ≡ false → status ≡ 69 → status ≡ (if made then 69 else 65) → FailsLiveFlushIf made l w.dev w.pick live → Done k w status buf new_buf next l
  failed_if true made_is places goes fails told_is f = inl (live, next_is, inr (places, goes, f))
  failed_if false made_is places goes fails told_is f = absurd (omega (arith, fails, told_is))

  failed_done : (closed : Bool) → is_closed l.phase ≡ closed → status ≡ 69 → FailsUnless closed l w.dev w.pick status live → Done k w status buf new_buf next l
  failed_done true goes fails f = absurd (omega (arith, fails, f.0))
  failed_done false goes fails f = failed_if (makes_flush (now l) w.dev w.pick) refl f.places goes fails (f.status_is ∙ told_as (makes_flush (now l) w.dev w.pick)) f.failed

-- A step that `vmig_next` names owes no end of a write of a disk that is lost.
no_end_by : (lost : Bool) (o : SyncOwed) (has : Bool) → (not (lost && is_end_owed o) && has) ≡ true → (if lost then o else Nothing) ≡ EndOfWrite → ⊥
no_end_by true EndOfWrite has can owes = true≢false (sym can)
no_end_by true Nothing has can owes = absurd cc
no_end_by true Flush has can owes = absurd cc
no_end_by false o has can owes = absurd cc

no_end_of : (lost : Bool) (found : Option DeviceState) (pick : ℕ) → device_can_work lost found pick ≡ true → (if lost then owed_for found pick else Nothing) ≡ EndOfWrite → ⊥
no_end_of lost None pick can owes = true≢false (sym can)
no_end_of lost (Some d) pick can owes = no_end_by lost (owed d pick) _ can owes

has_head : (p : Work → Bool) (w : Work) (rest : Option Work) (t : Bool) → p w ≡ t → IfSome rest (λ v. p v ≡ true) → IfSome (if t then Some w else rest) (λ v. p v ≡ true)
has_head p w rest true h k = h
has_head p w rest false h k = k

found_has : (p : Work → Bool) (ws : List Work) → IfSome (find p ws) (λ w. p w ≡ true)
found_has p [] = tt
found_has p (w ∷ ws) = has_head p w (find p ws) (p w) refl (found_has p ws)

can_found : (lost : List Bool) (devices : List DeviceState) (last : Work) (found : Option Work) (status dev pick : ℕ) → next_work_with_lost devices lost last ≡ found → NamesWork lost devices found status dev last.dev pick last.pick → status ≡ 78
    → device_can_work (slice_index_or lost dev false) (slice_get devices dev) pick ≡ true
can_found lost devices last (Some w) status dev pick is n told_is =
    let can : can_work_at lost devices w ≡ true = subst (λ (o : Option Work). IfSome o (λ v. can_work_at lost devices v ≡ true)) is (found_has (can_work_at lost devices) (in_turn_after last (length devices))) in
    rw (n.1, n.2) can
can_found lost devices last None status dev pick is n told_is = absurd (omega (arith, n.0, told_is))

can_unless : (closed : Bool) (lost : List Bool) (devices : List DeviceState) (last : Work) (dev pick : ℕ) → closed ≡ false → FindsUnless closed lost devices 78 dev last.dev pick last.pick → device_can_work (slice_index_or lost dev false) (slice_get devices dev) pick ≡ true
can_unless true lost devices last dev pick goes n = absurd (true≢false goes)
can_unless false lost devices last dev pick goes n = can_found lost devices last (next_work_with_lost devices lost last) 78 dev pick refl n refl

no_end : (k : KeptSeen) (t : Turn) (w : Work) (l : LiveSeen) → k.state ≡ Moving l → is_closed l.phase ≡ false → IsNamed k t 78 w → owed_lost k w.dev w.pick ≡ EndOfWrite → ⊥
no_end k t w l is goes named owes =
    let here : FindsUnless (is_closed l.phase) k.lost (state_of l.machine).devices 78 w.dev t.dev w.pick t.pick = rw is at named in
    let can = can_unless (is_closed l.phase) k.lost (state_of l.machine).devices (record { dev = t.dev; pick = t.pick }) w.dev w.pick goes here in
    let there : owed_in k.state w.dev w.pick ≡ owed_for (slice_get (state_of l.machine).devices w.dev) w.pick = rw (is, goes) refl in
    no_end_of (is_lost k w.dev) (slice_get (state_of l.machine).devices w.dev) w.pick can (subst (λ (o : SyncOwed). (if is_lost k w.dev then o else Nothing) ≡ EndOfWrite) there owes)

-- A step of a turn, by what it owes, and by the state that it leaves.
done_in : (o : SyncOwed) (k next : KeptSeen) (l : LiveSeen) (w : Work) (s : State) (status number before : ℕ) (buf new_buf : List ℕ) → k.state ≡ Moving l → next.state ≡ s → is_closed l.phase ≡ false → next ≡ record k { state = next.state; written = next.written }
    → StepsOwing o (Moving l) k.written w.dev w.pick status number before buf new_buf s next.written → (o ≡ EndOfWrite → ⊥) → Done k w status buf new_buf next l
done_in Nothing k next l w (Moving there) status number before buf new_buf is next_is goes rest s none =
    stepped_done k next l there w status number before buf new_buf is next_is rest (is_closed l.phase) (nat_lt (length buf) (most_sent_by l.machine w.dev w.pick)) refl s
done_in Flush k next l w (Moving there) status number before buf new_buf is next_is goes rest s none =
    failed_done k next l there w status number before buf new_buf is next_is rest (is_closed l.phase) refl s.status_is s.fails
done_in EndOfWrite k next l w s status number before buf new_buf is next_is goes rest owing none = absurd (none refl)
done_in Nothing k next l w (Still m) status number before buf new_buf is next_is goes rest owing none = absurd owing
done_in Nothing k next l w (Arriving a) status number before buf new_buf is next_is goes rest owing none = absurd owing
done_in Nothing k next l w (Lent x) status number before buf new_buf is next_is goes rest owing none = absurd owing
done_in Flush k next l w (Still m) status number before buf new_buf is next_is goes rest owing none = absurd owing.fails
done_in Flush k next l w (Arriving a) status number before buf new_buf is next_is goes rest owing none = absurd owing.fails
done_in Flush k next l w (Lent x) status number before buf new_buf is next_is goes rest owing none = absurd owing.fails

step_done : (k next : KeptSeen) (t : Turn) (w : Work) (l : LiveSeen) (status number : ℕ) (buf new_buf : List ℕ) → k.state ≡ Moving l → Runs k.state → IsStep k t w status number buf new_buf next → Done k w status buf new_buf next l
step_done k next t w l status number buf new_buf is runs s =
    let goes : is_closed l.phase ≡ false = (rw is at runs).1 in
    done_in (owed_lost k w.dev w.pick) k next l w next.state status number t.len buf new_buf is refl goes s.rest
    (subst (λ (at : State). StepsOwing (owed_lost k w.dev w.pick) at k.written w.dev w.pick status number t.len buf new_buf next.state next.written) is s.made) (no_end k t w l is goes s.named)

-- A step after which a turn goes on was not refused.
either_by : (a b c d : Bool) (status : ℕ) → (status == 65) ≡ a → (status == 66) ≡ b → (status == 67) ≡ c → (status == 70) ≡ d → (e : Bool) → (a || b || c || (d && not e)) ≡ true → 64 ≤ status
either_by true b c d status p q s u e on = omega (arith, eqb-true status 65 p)
either_by false true c d status p q s u e on = omega (arith, eqb-true status 66 q)
either_by false false true d status p q s u e on = omega (arith, eqb-true status 67 s)
either_by false false false true status p q s u e on = omega (arith, eqb-true status 70 u)
either_by false false false false status p q s u e on = absurd (true≢false (sym on))

goes_past : (e : Bool) (status : ℕ) → goes_on e status ≡ true → 64 ≤ status
goes_past e status on = either_by (status == 65) (status == 66) (status == 67) (status == 70) status refl refl refl refl e on

-- The history.
no_text : (m : MachineState) (h : History) (e : Event) (reply : Reply) (f : Effect) → text m (then_came h (Guest e) (r.Guest reply) f) ≡ text m h
unfolding texts
no_text m h e reply f = append-nil (text m h)

none_sent : (m : MachineState) (taken pages : List ℕ) (h : History) (l : LiveSeen) → IsSent m h taken pages l → GoesOnSent m h taken [] pages l
none_sent m taken pages h l is = record { history = h; is_sent = is; came = sym (append-nil (guest_events h)); text_is = refl }

one_sent : (m : MachineState) (taken pages : List ℕ) (h : History) (l next : LiveSeen) (w : Work) → IsSent m h taken pages l → DoneLive l w.dev w.pick next → GoesOnSent m h taken (step_of w ∷ []) pages next
one_sent m taken pages h l next w is (inl served) =
    let more = calls_stay_sent m h taken pages (Guest (step_of w)) (r.Guest served.0) l next is served.1 (may_guest pages (step_of w)) served.2 in
    record { history = then_came h (Guest (step_of w)) (r.Guest served.0) more.effect; is_sent = more.is_sent; came = refl; text_is = no_text m h (step_of w) served.0 more.effect }
one_sent m taken pages h l next w is (inr failed) =
    let more = failed_flushes_stay_sent m h taken pages w.dev w.pick l next is failed.0 (not_stopped l failed.1) failed.2 in
    record { history = then_came h (Guest (step_of w)) (r.Guest DiskFailed) more.effect; is_sent = more.is_sent; came = refl; text_is = no_text m h (step_of w) DiskFailed more.effect }

then_sent : (m : MachineState) (taken pages : List ℕ) (h : History) (next last : LiveSeen) (es fs : List Event) (first : GoesOnSent m h taken es pages next) → GoesOnSent m first.history taken fs pages last → GoesOnSent m h taken (es ++ fs) pages last
then_sent m taken pages h next last es fs first second = record {
  history = second.history;
  is_sent = second.is_sent;
  came = second.came ∙ ap (λ (xs : List Event). xs ++ fs) first.came ∙ append_assoc (guest_events h) es fs;
  text_is = second.text_is ∙ first.text_is;
}

abbrev LeavesSent : MachineState → List ℕ → List ℕ → History → List Work → State → Type 0
LeavesSent m taken pages h works s = (live : LiveSeen) × (s ≡ Moving live) × GoesOnSent m h taken (map step_of works) pages live

-- The step that ended a turn, if one did.
last_sent : (m : MachineState) (taken pages : List ℕ) (h : History) (k next : KeptSeen) (t : Turn) (l : LiveSeen) (w : Work) (status number : ℕ) (buf new_buf : List ℕ) → k.state ≡ Moving l → Runs k.state → IsSent m h taken pages l → IsStep k t w status number buf new_buf next
    → Done k w status buf new_buf next l → (ws : List Work) × EndsBy k t buf new_buf next ws × LeavesSent m taken pages h ws next.state
last_sent m taken pages h k next t l w status number buf new_buf is runs sent_is s (inl done) = (w ∷ [], (status, number, s), (done.0, done.1, one_sent m taken pages h l done.0 w sent_is done.2))
last_sent m taken pages h k next t l w status number buf new_buf is runs sent_is s (inr same) = ([], same.0, (l, ap (λ (x : KeptSeen). x.state) same.0.0 ∙ is, none_sent m taken pages h l sent_is))

none_last : (m : MachineState) (taken pages : List ℕ) (h : History) (k next : KeptSeen) (t : Turn) (l : LiveSeen) (buf new_buf : List ℕ) → k.state ≡ Moving l → IsSent m h taken pages l → IsAsBefore k buf new_buf next
    → (ws : List Work) × EndsBy k t buf new_buf next ws × LeavesSent m taken pages h ws next.state
none_last m taken pages h k next t l buf new_buf is sent_is same = ([], same, (l, ap (λ (x : KeptSeen). x.state) same.0 ∙ is, none_sent m taken pages h l sent_is))

ended_by : (m : MachineState) (taken pages : List ℕ) (h : History) (outcome : Outcome) (k next : KeptSeen) (t after : Turn) (l : LiveSeen) (buf new_buf : List ℕ) → k.state ≡ Moving l → Runs k.state → IsSent m h taken pages l → Once k t outcome buf new_buf next after → ends_it outcome ≡ true
    → (ws : List Work) × EndsBy k t buf new_buf next ws × LeavesSent m taken pages h ws next.state
ended_by m taken pages h outcomes.Made k next t after l buf new_buf is runs sent_is once ends = absurd (true≢false (sym ends))
ended_by m taken pages h (outcomes.NoneNamed reason) k next t after l buf new_buf is runs sent_is once ends = none_last m taken pages h k next t l buf new_buf is sent_is once.4
ended_by m taken pages h outcomes.PassedOver k next t after l buf new_buf is runs sent_is once ends = none_last m taken pages h k next t l buf new_buf is sent_is once.2
ended_by m taken pages h (outcomes.Refused reason) k next t after l buf new_buf is runs sent_is once ends =
    last_sent m taken pages h k next t l once.0 reason once.1 buf new_buf is runs sent_is once.2 (step_done k next t once.0 l reason once.1 buf new_buf is runs once.2)
ended_by m taken pages h (outcomes.Answered reason) k next t after l buf new_buf is runs sent_is once ends =
    last_sent m taken pages h k next t l once.0 reason once.1 buf new_buf is runs sent_is once.2 (step_done k next t once.0 l reason once.1 buf new_buf is runs once.2)

end_sent : (m : MachineState) (taken pages : List ℕ) (h : History) (count : ℕ) (k next : KeptSeen) (t after : Turn) (l : LiveSeen) (status : ℕ) (buf new_buf : List ℕ) → k.state ≡ Moving l → Runs k.state → IsSent m h taken pages l
    → IsUsedUp k t status buf new_buf next after ⊎ IsEnded count k t status buf new_buf next after → (ws : List Work) × EndsBy k t buf new_buf next ws × LeavesSent m taken pages h ws next.state
end_sent m taken pages h count k next t after l status buf new_buf is runs sent_is (inl u) = none_last m taken pages h k next t l buf new_buf is sent_is u.same
end_sent m taken pages h count k next t after l status buf new_buf is runs sent_is (inr e) = ended_by m taken pages h e.outcome k next t after l buf new_buf is runs sent_is e.once e.ends

-- The steps before it.
made_done : (k next : KeptSeen) (w : Work) (status : ℕ) (buf new_buf : List ℕ) (l : LiveSeen) (e : Bool) → goes_on e status ≡ true → Done k w status buf new_buf next l → (live : LiveSeen) × (next.state ≡ Moving live) × DoneLive l w.dev w.pick live
made_done k next w status buf new_buf l e on (inl done) = done
made_done k next w status buf new_buf l e on (inr same) = absurd (omega (arith, same.1, goes_past e status on))

made_sent : (m : MachineState) (taken pages : List ℕ) (h : History) (ws : List Work) (k mid : KeptSeen) (t at : Turn) (buf mid_buf : List ℕ) (l : LiveSeen) → k.state ≡ Moving l → Runs k.state → IsSent m h taken pages l → AreMade k t ws buf mid_buf mid at
    → LeavesSent m taken pages h ws mid.state
made_sent m taken pages h [] k mid t at buf mid_buf l is runs sent_is done = (l, ap (λ (x : KeptSeen). x.state) done.0 ∙ is, none_sent m taken pages h l sent_is)
made_sent m taken pages h (w ∷ ws) k mid t at buf mid_buf l is runs sent_is done =
    let did_it = did_step k done.0 t w done.2.status done.2.number buf done.1 runs done.2.step in
    let one = made_done k done.0 w done.2.status buf done.1 l _ done.2.on (step_done k done.0 t w l done.2.status done.2.number buf done.1 is runs done.2.step) in
    let first = one_sent m taken pages h l one.0 w sent_is one.2 in
    let rest = made_sent m taken pages first.history ws done.0 mid (counted t w) at done.1 mid_buf one.0 one.1 (runs_on k.state done.0.state w.dev w.pick runs did_it) first.is_sent done.3 in
    (rest.0, rest.1, then_sent m taken pages h one.0 rest.0 (step_of w ∷ []) (map step_of ws) first rest.2)

-- All of them.
abbrev Leaves : MachineState → List ℕ → List ℕ → History → KeptSeen → Turn → ℕ → List ℕ → List ℕ → KeptSeen → Turn → Type 0
Leaves m taken pages h k t status buf new_buf next after = (works : List Work) × (live : LiveSeen) × HasSteps k t status buf new_buf next after works × (next.state ≡ Moving live) × GoesOnSent m h taken (map step_of works) pages live

by_steps : (k next : KeptSeen) (t after : Turn) (status : ℕ) (buf new_buf : List ℕ) (works : List Work) (o : Option ℕ) → o ≡ turn_refusal k.state t (length buf)
    → Unless o (λ reason. works ≡ []) ((e : EndsTurn k t status buf new_buf next after) × (ws : List Work) × EndsBy e.between e.at e.mid_buf new_buf next ws × (works ≡ e.works ++ ws)) → HasSteps k t status buf new_buf next after works
by_steps k next t after status buf new_buf works o is steps = rw (sym is) steps

sent_unless : (m : MachineState) (taken pages : List ℕ) (h : History) (o : Option ℕ) (k next : KeptSeen) (t after : Turn) (status : ℕ) (buf new_buf : List ℕ) (l : LiveSeen) → o ≡ turn_refusal k.state t (length buf) → k.state ≡ Moving l → IsSent m h taken pages l
    → Unless o (λ reason. (status ≡ reason) × IsAsBefore k buf new_buf next × (after ≡ t)) (EndsTurn k t status buf new_buf next after) → Leaves m taken pages h k t status buf new_buf next after
sent_unless m taken pages h (Some reason) k next t after status buf new_buf l o_is is sent_is u =
    ([], l, by_steps k next t after status buf new_buf [] (Some reason) o_is refl, ap (λ (x : KeptSeen). x.state) u.1.0 ∙ is, none_sent m taken pages h l sent_is)
sent_unless m taken pages h None k next t after status buf new_buf l o_is is sent_is u =
    let runs = runs_unless k.state t (length buf) (sym o_is) in
    let first = made_sent m taken pages h u.works k u.between t u.at buf u.mid_buf l is runs sent_is u.made in
    let last = end_sent m taken pages first.2.history (length u.works) u.between next u.at after first.0 status u.mid_buf new_buf first.1 (all_run k t u.works buf u.mid_buf u.between u.at runs u.made) first.2.is_sent u.ended in
    let all = then_sent m taken pages h first.0 last.2.0 (map step_of u.works) (map step_of last.0) first.2 last.2.2 in (
      u.works ++ last.0,
      last.2.0,
      by_steps k next t after status buf new_buf (u.works ++ last.0) None o_is (u, last.0, last.1, refl),
      last.2.1,
      subst (λ (es : List Event). GoesOnSent m h taken es pages last.2.0) (sym (map-append step_of u.works last.0)) all,
    )

pub turns_stay_sent : TurnsStaySent
turns_stay_sent m h taken pages k next t after status buf new_buf l is sent_is turns = sent_unless m taken pages h (turn_refusal k.state t (length buf)) k next t after status buf new_buf l refl is sent_is turns
