-- Over all that a host does: each call of it is what happens to the desk of a device.
use Rattle.std.proofs.Common.{◌≡◌, ◌≢◌, ◌≤◌, ◌<◌, ◌⊎◌, ℕ, zero, suc, ◌+◌, ◌-◌, ◌*◌, ◌^◌, ◌/◌, ◌%◌, ◌++◌, ◌∙◌, ◌&&◌, not, min, Bool, true, false, ltb, leb, eqb, List, [], ◌∷◌, length, map, inl, inr, refl, sym, ap, subst, arith}
use Rattle.std.proofs.lemmas.Bool.{and_from, and_parts, cases_lt, eq-eqb, eqb-true, le-leb, lt-ltb, ltb-false, ltb-true, not-true, or_parts, true≢false}
use Rattle.std.proofs.lemmas.List.{length-map}
use Rattle.std.proofs.lemmas.Option.{slice_get_within}
use Rattle.std.specs.Prelude.{Option, Some, None, if◌then◌else◌, nat_lt, slice_get}
use Rattle.blk.specs.Outside.{answers}
use Rattle.blk.specs.declared.outside.DiskCall.{DiskCall}
use Rattle.blk.specs.declared.outside.What.{What}
use Rattle.blk.specs.declared.outside.What.TheVariants as to
use Rattle.disk_calls.proofs.Asking.{begun_kept, is_same, kept_met}
use Rattle.disk_calls.proofs.OfDevices.{GoesFor, IsStepOf, StaysKept, all_happen, answer_happens, applied_step, asker_in, dropped_elsewhere, hand_happens, other_desk, rest_happens, some_out, stays_kept, step_happens, written_elsewhere}
use Rattle.disk_calls.proofs.Staying.{IsStillAt, one_at, stays_handed, stays_removed}
use Rattle.disk_calls.specs.Calls.{AllCalls, IsAt, IsHandedOut, is_out_of, without}
use Rattle.disk_calls.specs.Desk.{Desk, IsKept}
use Rattle.disk_calls.specs.Machines.{Answers, Happening, Happens, Hands, IsNoAnswer, KeepsRequests, MakeAll, Rests}
use Rattle.disk_calls.specs.declared.calls.Handed.{Handed}
use Rattle.disk_calls.specs.declared.calls.Place.{Place}
use Rattle.disk_calls.specs.declared.out.Out.{Out}
use Rattle.machine.specs.Applied.{IsApplied}
use Rattle.machine.specs.Dropping as machines
use Rattle.machine.specs.Outside.{answer_of, asking_requests}
use Rattle.guestmem.specs.Page.{page_of}
use Rattle.machine.specs.Parked.{ParkedSeen, page_address, parked_states}
use Rattle.machine.specs.Seen.{Seen, state_of}
use Rattle.machine.specs.Shapes.{made_as}
use Rattle.machine.specs.State.{DeviceState, MachineState}
use Rattle.machine.specs.declared.event.DiskAnswer.{DiskAnswer}
use Rattle.machine.specs.declared.event.DiskAnswer.TheVariants as answers_
use Rattle.machine.specs.declared.event.Event.{Event}
use Rattle.machine.specs.declared.event.Event.TheVariants as events
use Rattle.machine.specs.declared.event.Event.TheVariants.{Disk, Drop, RegWrite, Step}
use Rattle.machine.specs.declared.reply.Reply.{Reply}
use Rattle.machine.specs.declared.shape.Shape.{Shape}
use Rattle.machine.specs.declared.work.Work.{Work}
use Rattle.sender.specs.LiveState.{LiveSeen, refusal_for}
use Rattle.sender.specs.Parked.{LiveParkedSeen}
use Rattle.sender.specs.declared.event.LiveEvent.TheVariants.{Guest}
use Rattle.c_machine.specs.Named.{named_pages, needs_list}
use Rattle.c_machine.specs.Status.{lent, no_memory, too_small}
use Rattle.c_handle.specs.CallsMet.{CallsStayOut, Does, DoAll, HasRam, HostCall, HostCallsAreMet, IsAnotherEvent, IsDeskIn, IsNoAnswerTo, a_failure, a_handing, a_loss, a_push, a_ram_write, a_register_write, a_reset, a_step, a_turn, an_answer, an_event, another, machine_of}
use Rattle.c_handle.specs.DiskCalls.{HandsFrom, HasHandedNone, IsOut, MeetsParked, MeetsStill, TakesAnswer, answers_call, asker_of, counted_as, counts_in, done_as, done_with, fits_done, handing_refusal, is_part, most_for, puts_bytes}
use Rattle.c_handle.specs.Dropping.{WritesIf, drops_in, drops_out}
use Rattle.c_handle.specs.Durable.{HasLost, loss_refusal, owed_lost}
use Rattle.c_handle.specs.Kept.{KeptSeen, StillLent, MovingLent, State, Still, Moving, Arriving, Lent, is_lost}
use Rattle.c_handle.specs.Mirror.{ArePushed, HasPushed, is_closed, machine_in, memory_in, push_refusal}
use Rattle.c_handle.specs.OnHandle.{Refuses, Unless}
use Rattle.c_handle.specs.Outside.{AnswersIf, AnswersKept, HandsKept, HasAnswered, HasNotAnswered, Meets, MeetsLiveParked, MeetsMoving, ServesAnswer, counted_answer, devices_of, is_lent, misfit, unfit}
use Rattle.c_handle.specs.Resetting.{AreDone, drops_any, drops_below, has_input, made_in, refusal_with, resets_from, shapes_in, state_refusal, stop_refusal}
use Rattle.c_handle.specs.Turns.{AreMade, EndsTurn, IsAsBefore, IsEnded, IsStep, IsUsedUp, Once, counted, turn_refusal}
use Rattle.c_handle.specs.declared.outside.Call.{Call}
use Rattle.c_handle.specs.declared.serving.TheConstants.{NO_BYTE}
use Rattle.c_handle.specs.declared.turning.Outcome.{Outcome}
use Rattle.c_handle.specs.declared.turning.Outcome.TheVariants as outcomes
use Rattle.c_handle.specs.declared.turning.Turn.{Turn}
use Rattle.c_handle.proofs.HostSteps.{Did, applied_ram, did_step, did_tell, did_write, guest_step, parked_guest_step, parked_step}
use Rattle.c_handle.proofs.PageLogs.{logged_is_served}
use Rattle.c_handle.proofs.Resets.{going_for, same_pages}

-- What happened to the machine of a handle, and to its calls.
record Comes (k next : KeptSeen) : Type 0 where
  happenings : List Happening
  made : MakeAll (machine_of k.state) k.calls happenings (machine_of next.state) next.calls
  pages : HasRam next.state

stays : (k next : KeptSeen) → HasRam k.state → next.state ≡ k.state → next.calls ≡ k.calls → Comes k next
stays k next pages same calls = record {
  happenings = Rests ∷ [];
  made = rest_happens (devices_of k.state) (devices_of next.state) k.calls next.calls (ap devices_of same) calls;
  pages = subst HasRam (sym same) pages;
}

comes_by : (k next : KeptSeen) (e : Event) → HasRam k.state → IsNoAnswer e → (state_refusal k.state ≡ None → KeepsRequests (machine_of k.state) k.calls e) → next.calls ≡ k.calls → Did k.state e next.state → Comes k next
comes_by k next e pages plain keeps calls (inl same) = stays k next pages same calls
comes_by k next e pages plain keeps calls (inr d) = record {
  happenings = Rests ∷ Happens e ∷ Rests ∷ [];
  made = subst (λ (c : AllCalls). MakeAll (machine_of k.state) k.calls (Rests ∷ Happens e ∷ Rests ∷ []) (machine_of next.state) c) (sym calls) (step_happens (devices_of k.state) (devices_of next.state) k.calls e plain (keeps d.0) d.2);
  pages = d.1;
}

then_comes : (a b c : KeptSeen) → Comes a b → Comes b c → Comes a c
then_comes a b c first second = record {
  happenings = first.happenings ++ second.happenings;
  made = all_happen (machine_of a.state) (machine_of b.state) (machine_of c.state) a.calls b.calls c.calls first.happenings second.happenings first.made second.made;
  pages = second.pages;
}

-- The handle after a call.
some_is : (a b : KeptSeen) → ◌≡◌ {A = Option KeptSeen} (Some a) (Some b) → b ≡ a
some_is a b is = cc

abbrev as_state : KeptSeen → State → KeptSeen
as_state k s = record k { state = s }

abbrev as_logged : KeptSeen → State → Option (List Bool) → KeptSeen
as_logged k s log = record k { state = s; written = log }

-- A register is written: no request is dropped whose call is out.
not_both : (out drops : Bool) → (out && drops) ≡ false → drops ≡ true → out ≡ false
not_both false drops none is = refl
not_both true true none is = none
not_both true false none is = absurd (true≢false (sym is))

not_all : (out closed drops : Bool) → (out && (not closed && drops)) ≡ false → closed ≡ false → drops ≡ true → out ≡ false
not_all out true drops none goes is = absurd (true≢false goes)
not_all out false drops none goes is = not_both out drops none is

goes_of : (closed : Bool) (reason : ℕ) → ◌≡◌ {A = Option ℕ} (if closed then Some reason else None) None → closed ≡ false
goes_of true reason is = absurd cc
goes_of false reason is = refl

keeps_in : (s : State) (calls : AllCalls) (dev off width value : ℕ) → (is_out_of calls dev && drops_in s dev off width value) ≡ false → state_refusal s ≡ None → KeepsRequests (machine_of s) calls (RegWrite dev off width value)
keeps_in (Still m) calls dev off width value none goes = λ drops. not_both (is_out_of calls dev) (machines.drops_of (state_of m) dev off width value) none drops
keeps_in (Moving l) calls dev off width value none goes = λ drops. not_all (is_out_of calls dev) (is_closed l.phase) (machines.drops_of (state_of l.machine) dev off width value) none (goes_of (is_closed l.phase) _ goes) drops
keeps_in (Arriving r) calls dev off width value none goes = absurd cc
keeps_in (Lent (StillLent p)) calls dev off width value none goes = λ drops. not_both (is_out_of calls dev) (machines.drops_in (slice_get (parked_states p) dev) off width value) none drops
keeps_in (Lent (MovingLent l)) calls dev off width value none goes = λ drops. not_all (is_out_of calls dev) (is_closed l.phase) (machines.drops_in (slice_get (parked_states l.machine) dev) off width value) none (goes_of (is_closed l.phase) _ goes) drops

wrote : (drops : Bool) (k : KeptSeen) (next : State) (dev off width value status byte before : ℕ) → HasRam k.state → drops_out k dev off width value ≡ drops → WritesIf drops k.state dev off width value status byte before next → Comes k (as_state k next)
wrote true k next dev off width value status byte before pages is w = stays k (as_state k next) pages w.1 refl
wrote false k next dev off width value status byte before pages is w =
    comes_by k (as_state k next) (RegWrite dev off width value) pages tt (keeps_in k.state k.calls dev off width value is) refl (did_tell k.state next (RegWrite dev off width value) status w.told NO_BYTE pages w.tells)

-- Another event drops none, and answers none.
plain_of : (e : Event) → IsAnotherEvent e → IsNoAnswer e
plain_of (events.RegRead dev off width) other = tt
plain_of (events.RegWrite dev off width value) other = tt
plain_of (events.MemRead addr len) other = tt
plain_of (events.MemWrite addr bytes) other = tt
plain_of (events.Step dev pick) other = tt
plain_of (events.Input dev bytes) other = tt
plain_of (events.Resize dev cols rows) other = tt
plain_of (events.Drop dev) other = tt
plain_of (events.Disk dev pick given) other = other

keeps_of : (m : MachineState) (calls : AllCalls) (e : Event) → IsAnotherEvent e → KeepsRequests m calls e
keeps_of m calls (events.RegRead dev off width) other = tt
keeps_of m calls (events.RegWrite dev off width value) other = absurd other
keeps_of m calls (events.MemRead addr len) other = tt
keeps_of m calls (events.MemWrite addr bytes) other = tt
keeps_of m calls (events.Step dev pick) other = tt
keeps_of m calls (events.Input dev bytes) other = tt
keeps_of m calls (events.Resize dev cols rows) other = tt
keeps_of m calls (events.Drop dev) other = tt
keeps_of m calls (events.Disk dev pick given) other = absurd other

told : (k : KeptSeen) (next : State) (e : Event) (status number before : ℕ) → HasRam k.state → IsAnotherEvent e → Did k.state e next → Comes k (as_state k next)
told k next e status number before pages other did = comes_by k (as_state k next) e pages (plain_of e other) (λ goes. keeps_of (machine_of k.state) k.calls e other) refl did

logged : (k : KeptSeen) (next : State) (log : Option (List Bool)) (e : Event) → HasRam k.state → IsAnotherEvent e → Did k.state e next → Comes k (as_logged k next log)
logged k next log e pages other did = comes_by k (as_logged k next log) e pages (plain_of e other) (λ goes. keeps_of (machine_of k.state) k.calls e other) refl did

-- Pages are handed in, one after another.
pushed_comes : (pages : List ℕ) (k : KeptSeen) (s next : State) (log new_log : Option (List Bool)) (ram seen new_seen : List ℕ) → HasRam s → ArePushed s log pages ram seen new_seen next new_log → Comes (as_state k s) (as_state k next)
pushed_comes [] k s next log new_log ram seen new_seen room p = stays (as_state k s) (as_state k next) room p.0 refl
pushed_comes (n ∷ pages) k s next log new_log ram seen new_seen room p =
    let e = events.MemWrite (page_address (machine_in s) n) (page_of ram n) in
    let first = comes_by (as_state k s) (as_state k p.0) e room tt (λ goes. tt) refl (did_write s p.0 log p.1 (page_address (machine_in s) n) (page_of ram n) 0 room p.3.written) in
    then_comes (as_state k s) (as_state k p.0) (as_state k next) first (pushed_comes pages k p.0 next p.1 new_log ram p.2 new_seen first.pages p.4)

push_comes : (o : Option ℕ) (k : KeptSeen) (next : State) (log new_log : Option (List Bool)) (pages ram : List ℕ) (needs : Bool) (status : ℕ) (seen new_seen : List ℕ) → HasRam k.state
    → Unless o (λ reason. Refuses status new_seen seen reason × (next ≡ k.state) × (new_log ≡ log)) (HasPushed k.state log pages ram status seen new_seen next new_log ⊎ ((needs ≡ true) × (Refuses status new_seen seen no_memory × (next ≡ k.state) × (new_log ≡ log))))
    → Comes k (as_state k next)
push_comes (Some reason) k next log new_log pages ram needs status seen new_seen room h = stays k (as_state k next) room h.1 refl
push_comes None k next log new_log pages ram needs status seen new_seen room (inl h) = pushed_comes pages k k.state next log new_log ram seen new_seen room h.pushed
push_comes None k next log new_log pages ram needs status seen new_seen room (inr h) = stays k (as_state k next) room h.1.1 refl

with_log : (k : KeptSeen) (next : State) (log : Option (List Bool)) → Comes k (as_state k next) → Comes k (as_logged k next log)
with_log k next log c = record { happenings = c.happenings; made = c.made; pages = c.pages }

-- A turn is its steps.
step_comes : (k next : KeptSeen) (t : Turn) (w : Work) (status number : ℕ) (buf new_buf : List ℕ) → HasRam k.state → IsStep k t w status number buf new_buf next → Comes k next
step_comes k next t w status number buf new_buf pages s =
    comes_by k next (Step w.dev w.pick) pages tt (λ goes. tt) (ap (λ (x : KeptSeen). x.calls) s.rest) (did_step (owed_lost k w.dev w.pick) k.state next.state k.written next.written w.dev w.pick status number t.len buf new_buf pages s.made)

same_comes : (k next : KeptSeen) (buf new_buf : List ℕ) → HasRam k.state → IsAsBefore k buf new_buf next → Comes k next
same_comes k next buf new_buf pages same = stays k next pages (ap (λ (x : KeptSeen). x.state) same.0) (ap (λ (x : KeptSeen). x.calls) same.0)

made_comes : (k mid : KeptSeen) (t at : Turn) (ws : List Work) (buf mid_buf : List ℕ) → HasRam k.state → AreMade k t ws buf mid_buf mid at → Comes k mid
made_comes k mid t at [] buf mid_buf pages made = stays k mid pages (ap (λ (x : KeptSeen). x.state) made.0) (ap (λ (x : KeptSeen). x.calls) made.0)
made_comes k mid t at (w ∷ ws) buf mid_buf pages made =
    let first = step_comes k made.0 t w made.2.status made.2.number buf made.1 pages made.2.step in
    then_comes k made.0 mid first (made_comes made.0 mid (counted t w) at ws made.1 mid_buf first.pages made.3)

once_comes : (o : Outcome) (k next : KeptSeen) (t after : Turn) (buf new_buf : List ℕ) → HasRam k.state → Once k t o buf new_buf next after → Comes k next
once_comes outcomes.Made k next t after buf new_buf pages once = step_comes k next t once.0 once.1.status once.1.number buf new_buf pages once.1.step
once_comes (outcomes.NoneNamed reason) k next t after buf new_buf pages once = same_comes k next buf new_buf pages once.4
once_comes outcomes.PassedOver k next t after buf new_buf pages once = same_comes k next buf new_buf pages once.2
once_comes (outcomes.Refused reason) k next t after buf new_buf pages once = step_comes k next t once.0 reason once.1 buf new_buf pages once.2
once_comes (outcomes.Answered reason) k next t after buf new_buf pages once = step_comes k next t once.0 reason once.1 buf new_buf pages once.2

ended_comes : (count : ℕ) (k next : KeptSeen) (t after : Turn) (status : ℕ) (buf new_buf : List ℕ) → HasRam k.state → IsUsedUp k t status buf new_buf next after ⊎ IsEnded count k t status buf new_buf next after → Comes k next
ended_comes count k next t after status buf new_buf pages (inl u) = same_comes k next buf new_buf pages u.same
ended_comes count k next t after status buf new_buf pages (inr e) = once_comes e.outcome k next t after buf new_buf pages e.once

turn_comes : (o : Option ℕ) (k next : KeptSeen) (t after : Turn) (status : ℕ) (buf new_buf : List ℕ) → HasRam k.state → Unless o (λ reason. (status ≡ reason) × IsAsBefore k buf new_buf next × (after ≡ t)) (EndsTurn k t status buf new_buf next after)
    → Comes k next
turn_comes (Some reason) k next t after status buf new_buf pages turn = same_comes k next buf new_buf pages turn.1
turn_comes None k next t after status buf new_buf pages turn =
    let first = made_comes k turn.between t turn.at turn.works buf turn.mid_buf pages turn.made in
    then_comes k turn.between next first (ended_comes (length turn.works) turn.between next turn.at after status turn.mid_buf new_buf first.pages turn.ended)

-- A reboot writes into each device in order, and drops no request whose call is out: the devices that are still to come are as they were.
abbrev IsSafe : State → AllCalls → ℕ → Type 0
IsSafe s calls from = (dev : ℕ) → from ≤ dev → machines.drops_of (machine_of s) dev 112 4 0 ≡ true → is_out_of calls dev ≡ false

abbrev AreElsewhere : State → State → ℕ → Type 0
AreElsewhere s next n = (dev : ℕ) → dev ≢ n → slice_get (devices_of next) dev ≡ slice_get (devices_of s) dev

wrote_elsewhere : (s next : State) (n : ℕ) → Did s (RegWrite n 112 4 0) next → AreElsewhere s next n
wrote_elsewhere s next n (inl same) dev other = ap (λ (x : State). slice_get (devices_of x) dev) same
wrote_elsewhere s next n (inr d) dev other = written_elsewhere (devices_of s) (devices_of next) n 112 4 0 dev d.2 other

drop_elsewhere : (s next : State) (n : ℕ) → Did s (Drop n) next → AreElsewhere s next n
drop_elsewhere s next n (inl same) dev other = ap (λ (x : State). slice_get (devices_of x) dev) same
drop_elsewhere s next n (inr d) dev other = dropped_elsewhere (devices_of s) (devices_of next) n dev d.2 other

safe_later : (s : State) (calls : AllCalls) (n : ℕ) → IsSafe s calls n → IsSafe s calls (n + 1)
safe_later s calls n safe dev below drops = safe dev (omega (arith, below)) drops

safe_still : (s next : State) (calls : AllCalls) (n : ℕ) → AreElsewhere s next n → IsSafe s calls (n + 1) → IsSafe next calls (n + 1)
safe_still s next calls n same safe dev below drops =
    let there = same dev (λ e. omega (arith, below, e)) in
    safe dev below (ap (λ (found : Option DeviceState). machines.drops_in found 112 4 0) (sym there) ∙ drops)

abbrev ComesAfter : KeptSeen → ℕ → List Event → State → Type 0
ComesAfter k n es next = (s : State) → HasRam s → IsSafe s k.calls n → AreDone s es next → Comes (as_state k s) (as_state k next)

drop_comes : (some : Bool) (k : KeptSeen) (n : ℕ) (s next : State) (es : List Event) → HasRam s → IsSafe s k.calls (n + 1) → ComesAfter k (n + 1) es next → AreDone s ((if some then Drop n ∷ [] else []) ++ es) next → Comes (as_state k s) (as_state k next)
drop_comes false k n s next es pages safe rest done = rest s pages safe done
drop_comes true k n s next es pages safe rest done =
    let did = did_tell s done.0 (Drop n) 0 done.1.number 0 pages done.1.tells in
    let first = comes_by (as_state k s) (as_state k done.0) (Drop n) pages tt (λ goes. tt) refl did in
    then_comes (as_state k s) (as_state k done.0) (as_state k next) first (rest done.0 first.pages (safe_still s done.0 k.calls n (drop_elsewhere s done.0 n did) safe) done.2)

reset_comes : (k : KeptSeen) (shapes : List Shape) (n : ℕ) (next : State) → ComesAfter k n (resets_from n shapes) next
reset_comes k [] n next s pages safe done = stays (as_state k s) (as_state k next) pages done refl
reset_comes k (shape ∷ shapes) n next s pages safe done =
    let did = did_tell s done.0 (RegWrite n 112 4 0) 0 done.1.number 0 pages done.1.tells in
    let first = comes_by (as_state k s) (as_state k done.0) (RegWrite n 112 4 0) pages tt (λ goes. safe n (omega arith)) refl did in
    let safe_now = safe_still s done.0 k.calls n (wrote_elsewhere s done.0 n did) (safe_later s k.calls n safe) in
    then_comes (as_state k s) (as_state k done.0) (as_state k next) first
    (drop_comes (has_input shape) k n done.0 next (resets_from (n + 1) shapes) first.pages safe_now (reset_comes k shapes (n + 1) next) done.2)

none_below : (n : ℕ) (k : KeptSeen) → drops_below n k ≡ false → (dev : ℕ) → dev < n → drops_out k dev 112 4 0 ≡ false
none_below zero k none dev below = absurd (omega (arith, below))
none_below (suc n) k none dev below =
    let both = or_parts (drops_below n k) (drops_out k n 112 4 0) none in
    elim (cases_lt dev n) as (λ _. drops_out k dev 112 4 0 ≡ false) [
      | inl before ↦ none_below n k both.0 dev before
      | inr last ↦ let same : dev ≡ n = omega (arith, below, last) in ap (λ (i : ℕ). drops_out k i 112 4 0) same ∙ both.1
    ]

shapes_are : (s : State) → shapes_in s ≡ made_in (devices_of s)
shapes_are (Still m) = refl
shapes_are (Moving l) = refl
shapes_are (Arriving r) = refl
shapes_are (Lent x) = refl

there_by : (found : Option DeviceState) → machines.drops_in found 112 4 0 ≡ true → (d : DeviceState) × (found ≡ Some d)
there_by None drops = absurd (true≢false (sym drops))
there_by (Some d) drops = (d, refl)

safe_at_first : (k : KeptSeen) → state_refusal k.state ≡ None → drops_any k ≡ false → IsSafe k.state k.calls 0
safe_at_first k goes none dev from drops =
    let d = there_by (slice_get (devices_of k.state) dev) drops in
    let count : length (shapes_in k.state) ≡ length (devices_of k.state) = ap length (shapes_are k.state) ∙ length-map (devices_of k.state) (λ (d : DeviceState). made_as d.kind) in
    let below : dev < length (shapes_in k.state) = omega (arith, count, slice_get_within (devices_of k.state) dev d.0 d.1) in
    keeps_in k.state k.calls dev 112 4 0 (none_below (length (shapes_in k.state)) k none dev below) goes drops

not_refused : (o : Option ℕ) (drops : Bool) → refusal_with o drops ≡ None → (o ≡ None) × (drops ≡ false)
not_refused (Some reason) drops is = absurd cc
not_refused None true is = absurd cc
not_refused None false is = (refl, refl)

resets : (o : Option ℕ) (k : KeptSeen) (status : ℕ) (next : State) → refusal_with (state_refusal k.state) (drops_any k) ≡ o → HasRam k.state
    → Unless o (λ reason. (status ≡ reason) × (next ≡ k.state)) ((status ≡ 0) × AreDone k.state (resets_from 0 (shapes_in k.state)) next) → Comes k (as_state k next)
resets (Some reason) k status next is pages r = stays k (as_state k next) pages r.1 refl
resets None k status next is pages r =
    let both = not_refused (state_refusal k.state) (drops_any k) is in
    reset_comes k (shapes_in k.state) 0 next k.state pages (safe_at_first k both.0 both.1) r.1

-- A call is handed out, or none is.
abbrev Handing : List DeviceState → AllCalls → AllCalls → Type 0
Handing devices calls after = (after ≡ calls) ⊎ ((most : ℕ) × (handed : Handed) × (1 ≤ most) × IsHandedOut most calls (map asking_requests devices) handed after)

room_by : (short : Bool) (size : ℕ) → nat_lt size 512 ≡ short → ◌≡◌ {A = Option ℕ} (if short then Some too_small else None) None → 512 ≤ size
room_by true size is none = absurd cc
room_by false size is none = ltb-false size 512 is

room_for : (stopped : Option ℕ) (size : ℕ) → handing_refusal stopped size ≡ None → 512 ≤ size
room_for (Some reason) size none = absurd cc
room_for None size none = room_by (nat_lt size 512) size refl none

handing_unless : (o stopped : Option ℕ) (m : MachineState) (calls after : AllCalls) (status : ℕ) (call old_call : Call) (buf new_buf : List ℕ) → handing_refusal stopped (length buf) ≡ o
    → Unless o (HasHandedNone calls status call old_call buf new_buf after) (HandsFrom m calls status call old_call buf new_buf after) → Handing m.devices calls after
handing_unless (Some reason) stopped m calls after status call old_call buf new_buf is h = inl h.calls_same
handing_unless None stopped m calls after status call old_call buf new_buf is (inl h) =
    let room : 512 ≤ length buf = room_for stopped (length buf) is in
    let size : 1 ≤ length buf / 512 = omega (arith, room) in
    let some : 1 ≤ min (length buf / 512) (2 ^ 32 - 1) = omega (arith, size) in
    inr (most_for buf, h.handed, some, h.next)
handing_unless None stopped m calls after status call old_call buf new_buf is (inr h) = inl h.1.calls_same

handing : (s : State) (calls after : AllCalls) (status : ℕ) (call old_call : Call) (buf new_buf : List ℕ) → HandsKept s calls status call old_call buf new_buf after → Handing (devices_of s) calls after
handing (Still m) calls after status call old_call buf new_buf h = handing_unless (handing_refusal None (length buf)) None (state_of m) calls after status call old_call buf new_buf refl h
handing (Moving l) calls after status call old_call buf new_buf h = handing_unless (handing_refusal (stop_refusal l.phase) (length buf)) (stop_refusal l.phase) (state_of l.machine) calls after status call old_call buf new_buf refl h
handing (Arriving r) calls after status call old_call buf new_buf h = inl h.calls_same
handing (Lent x) calls after status call old_call buf new_buf h = inl h.calls_same

abbrev as_calls : KeptSeen → AllCalls → KeptSeen
as_calls k calls = record k { calls = calls }

hand_comes : (k : KeptSeen) (after : AllCalls) → HasRam k.state → Handing (devices_of k.state) k.calls after → Comes k (as_calls k after)
hand_comes k after pages (inl same) = stays k (as_calls k after) pages refl same
hand_comes k after pages (inr h) = record { happenings = Hands h.0 h.1 ∷ []; made = hand_happens (devices_of k.state) k.calls after h.0 h.1 h.2 h.3; pages = pages }

-- A call is answered: its answer goes to the request that asked.
still_applied : (given : DiskAnswer) (m next : Seen) (log new_log : Option (List Bool)) (dev pick : ℕ) → TakesAnswer given m log dev pick next new_log → (reply : Reply) × IsApplied m (Disk dev pick given) reply next
still_applied (answers_.Gave bytes) m next log new_log dev pick t = (t.0, t.1.is_applied)
still_applied (answers_.Did count) m next log new_log dev pick t = (t.0, t.1)
still_applied answers_.Failed m next log new_log dev pick t = (t.0, t.1)

met_still : (found : Option ℕ) (given : DiskAnswer) (m next : Seen) (log new_log : Option (List Bool)) (dev : ℕ) → HasRam (Still m) → MeetsStill found given m log dev next new_log → GoesFor (state_of m).devices dev given found (state_of next).devices × HasRam (Still next)
met_still None given m next log new_log dev pages h = (ap (λ (x : Seen). (state_of x).devices) h.0, subst (λ (x : Seen). HasRam (Still x)) (sym h.0) pages)
met_still (Some k) given m next log new_log dev pages h =
    let e = Disk dev (k + 1) given in
    let one = still_applied given m next log new_log dev (k + 1) h in
    (applied_step m next e one.0 one.1, applied_ram m next e one.0 pages one.1)

moving_step : (given : DiskAnswer) (l next : LiveSeen) (log new_log : Option (List Bool)) (dev pick : ℕ) → stop_refusal l.phase ≡ None → HasRam (Moving l) → ServesAnswer given l log dev pick next new_log
    → HasRam (Moving next) × IsStepOf (state_of l.machine).devices (Disk dev pick given) (state_of next.machine).devices
moving_step (answers_.Gave bytes) l next log new_log dev pick goes pages t =
    let e = Disk dev pick (answers_.Gave bytes) in
    guest_step (refusal_for l.phase (Guest e)) l next e t.0 (going_for l.phase e goes) pages (logged_is_served l next log new_log e t.0 t.2)
moving_step (answers_.Did count) l next log new_log dev pick goes pages t = let e = Disk dev pick (answers_.Did count) in guest_step (refusal_for l.phase (Guest e)) l next e t.0 (going_for l.phase e goes) pages t.2
moving_step answers_.Failed l next log new_log dev pick goes pages t = let e = Disk dev pick answers_.Failed in guest_step (refusal_for l.phase (Guest e)) l next e t.0 (going_for l.phase e goes) pages t.2

met_moving : (found : Option ℕ) (given : DiskAnswer) (l next : LiveSeen) (log new_log : Option (List Bool)) (dev : ℕ) → stop_refusal l.phase ≡ None → HasRam (Moving l) → MeetsMoving found given l log dev next new_log
    → GoesFor (state_of l.machine).devices dev given found (state_of next.machine).devices × HasRam (Moving next)
met_moving None given l next log new_log dev goes pages h = (ap (λ (x : LiveSeen). (state_of x.machine).devices) h.0, subst (λ (x : LiveSeen). HasRam (Moving x)) (sym h.0) pages)
met_moving (Some k) given l next log new_log dev goes pages h = let both = moving_step given l next log new_log dev (k + 1) goes pages h in (both.1, both.0)

met_parked : (found : Option ℕ) (given : DiskAnswer) (p next : ParkedSeen) (dev : ℕ) → HasRam (Lent (StillLent p)) → MeetsParked found given p dev next → GoesFor (parked_states p) dev given found (parked_states next) × HasRam (Lent (StillLent next))
met_parked None given p next dev pages h = (ap parked_states h, subst (λ (x : ParkedSeen). HasRam (Lent (StillLent x))) (sym h) pages)
met_parked (Some k) given p next dev pages h = (parked_step p next (Disk dev (k + 1) given) h.0 pages h.1, same_pages p next h.1.versions pages)

met_live_parked : (found : Option ℕ) (given : DiskAnswer) (l next : LiveParkedSeen) (dev : ℕ) → stop_refusal l.phase ≡ None → HasRam (Lent (MovingLent l)) → MeetsLiveParked found given l dev next
    → GoesFor (parked_states l.machine) dev given found (parked_states next.machine) × HasRam (Lent (MovingLent next))
met_live_parked None given l next dev goes pages h = (ap (λ (x : LiveParkedSeen). parked_states x.machine) h, subst (λ (x : LiveParkedSeen). HasRam (Lent (MovingLent x))) (sym h) pages)
met_live_parked (Some k) given l next dev goes pages h =
    let e = Disk dev (k + 1) given in
    let both = parked_guest_step (refusal_for l.phase (Guest e)) l next e h.0 (going_for l.phase e goes) pages h.1 in
    (both.1, both.0)

met_in : (place : Place) (given : DiskAnswer) (s next : State) (log new_log : Option (List Bool)) → HasRam s → state_refusal s ≡ None → Meets place given s log next new_log
    → GoesFor (devices_of s) place.dev given (asker_in (devices_of s) place.dev place.call) (devices_of next) × HasRam next
met_in place given (Still m) (Still next) log new_log pages goes h = met_still (asker_of (state_of m) place) given m next log new_log place.dev pages h
met_in place given (Moving l) (Moving next) log new_log pages goes h = met_moving (asker_of (state_of l.machine) place) given l next log new_log place.dev goes pages h
met_in place given (Lent (StillLent p)) (Lent (StillLent next)) log new_log pages goes h = met_parked (asker_in (parked_states p) place.dev place.call) given p next place.dev pages h.0
met_in place given (Lent (MovingLent l)) (Lent (MovingLent next)) log new_log pages goes h = met_live_parked (asker_in (parked_states l.machine) place.dev place.call) given l next place.dev goes pages h.0
met_in place given (Lent (StillLent p)) (Lent (MovingLent next)) log new_log pages goes h = absurd h.0
met_in place given (Lent (MovingLent l)) (Lent (StillLent next)) log new_log pages goes h = absurd h.0
met_in place given _ _ log new_log pages goes h = absurd h

-- The call of this number was out, and no more is.
record HasMet (k : KeptSeen) (number : ℕ) (fits : DiskCall → Bool) (answer : DiskCall → DiskAnswer) (next : State) (calls : AllCalls) : Type 0 where
  place : Place
  is_out : IsOut k.calls number place
  fit : fits place.call ≡ true
  goes : GoesFor (devices_of k.state) place.dev (counted_answer k place (answer place.call)) (asker_in (devices_of k.state) place.dev place.call) (devices_of next)
  gone : calls ≡ without k.calls place.dev place.i
  pages : HasRam next

abbrev MetOr : KeptSeen → ℕ → (DiskCall → Bool) → (DiskCall → DiskAnswer) → State → AllCalls → Type 0
MetOr k number fits answer next calls = ((next ≡ k.state) × (calls ≡ k.calls)) ⊎ HasMet k number fits answer next calls

fits_by : (puts fits : Bool) → ◌≡◌ {A = Option ℕ} (if puts then Some lent else misfit fits) None → fits ≡ true
fits_by true fits none = absurd cc
fits_by false true none = refl
fits_by false false none = absurd cc

met_at : (o : Option ℕ) (k : KeptSeen) (number : ℕ) (fits : DiskCall → Bool) (answer : DiskCall → DiskAnswer) (place : Place) (status : ℕ) (next : State) (log : Option (List Bool)) (calls : AllCalls) → HasRam k.state → state_refusal k.state ≡ None → IsOut k.calls number place
    → unfit k.state (answer place.call) (fits place.call) ≡ o → Unless o (HasNotAnswered k status next log calls) (HasAnswered k place (answer place.call) status next log calls) → MetOr k number fits answer next calls
met_at (Some reason) k number fits answer place status next log calls pages goes out is h = inl (h.state_same, h.calls_same)
met_at None k number fits answer place status next log calls pages goes out is h =
    let met = met_in place (counted_answer k place (answer place.call)) k.state next k.written log pages goes h.meets in
    inr (record { place = place; is_out = out; fit = fits_by (is_lent k.state && puts_bytes (answer place.call)) (fits place.call) is; goes = met.0; gone = h.calls_are; pages = met.1 })

met_if : (o : Option ℕ) (k : KeptSeen) (number : ℕ) (fits : DiskCall → Bool) (answer : DiskCall → DiskAnswer) (status : ℕ) (next : State) (log : Option (List Bool)) (calls : AllCalls) → HasRam k.state → state_refusal k.state ≡ o
    → Unless o (HasNotAnswered k status next log calls) (AnswersIf k number fits answer status next log calls) → MetOr k number fits answer next calls
met_if (Some reason) k number fits answer status next log calls pages is h = inl (h.state_same, h.calls_same)
met_if None k number fits answer status next log calls pages is (inl h) =
    met_at (unfit k.state (answer h.place.call) (fits h.place.call)) k number fits answer h.place status next log calls pages is h.is_out refl h.answered
met_if None k number fits answer status next log calls pages is (inr h) = inl (h.1.state_same, h.1.calls_same)

met : (k : KeptSeen) (number : ℕ) (fits : DiskCall → Bool) (answer : DiskCall → DiskAnswer) (status : ℕ) (next : State) (log : Option (List Bool)) (calls : AllCalls) → HasRam k.state → AnswersKept k number fits answer status next log calls → MetOr k number fits answer next calls
met k number fits answer status next log calls pages h = met_if (state_refusal k.state) k number fits answer status next log calls pages refl h

-- What is taken as an answer is one to the call.
abbrev IsFitting : (DiskCall → Bool) → (DiskCall → DiskAnswer) → Type 0
IsFitting fits answer = (call : DiskCall) → 1 ≤ call.count → fits call ≡ true → answers call (answer_of (answer call)) ≡ true

part_of : (count all : ℕ) → is_part count all ≡ true → (0 < count) × (count ≤ all)
part_of count all is =
    let parts = and_parts (ltb 0 count) (not (ltb all count)) is in
    (ltb-true 0 count parts.0, ltb-false all count (not-true (ltb all count) parts.1))

units_fit : (count all : ℕ) → is_part count all ≡ true → (ltb 0 count && leb count all) ≡ true
units_fit count all is = let part = part_of count all is in and_from (ltb 0 count) (leb count all) (lt-ltb 0 count part.0) (le-leb count all part.1)

bytes_fit : (count all len : ℕ) → is_part count all ≡ true → len ≡ 512 * count → ((ltb 0 len && eqb (len % 512) 0) && leb (len / 512) all) ≡ true
bytes_fit count all len is size =
    let part = part_of count all is in
    and_from (ltb 0 len && eqb (len % 512) 0) (leb (len / 512) all)
    (and_from (ltb 0 len) (eqb (len % 512) 0) (lt-ltb 0 len (omega (arith, size, part.0))) (eq-eqb (len % 512) 0 (omega (arith, size)))) (le-leb (len / 512) all (omega (arith, size, part.1)))

done_fits : (w : What) (first all count : ℕ) (bytes : List ℕ) → 1 ≤ all → answers_call w all count (length bytes) ≡ true → answers (record { what = w; first = first; count = all }) (answer_of (done_as w count bytes)) ≡ true
done_fits to.Read first all count bytes some is =
    let parts = and_parts (is_part count all) (eqb (length bytes) (512 * count)) is in
    bytes_fit count all (length bytes) parts.0 (eqb-true (length bytes) (512 * count) parts.1)
done_fits to.Write first all count bytes some is = units_fit count all (and_parts (is_part count all) (eqb (length bytes) 0) is).0
done_fits to.Clear first all count bytes some is = units_fit count all (and_parts (is_part count all) (eqb (length bytes) 0) is).0
done_fits to.Flush first all count bytes some is = le-leb 1 all some

fits_so : (count : ℕ) (bytes : List ℕ) → IsFitting (fits_done count bytes) (done_with count bytes)
fits_so count bytes call some is = done_fits call.what call.first call.count count bytes some is

counted_fits : (counts : Bool) (call : DiskCall) (answer : DiskAnswer) → answers call (answer_of answer) ≡ true → answers call (answer_of (counted_as counts answer)) ≡ true
counted_fits true call answer is = is
counted_fits false call answer is = refl

-- The desk of a device, after each call.
record StaysSo (next : KeptSeen) (dev size : ℕ) : Type 0 where
  desk : StaysKept (machine_of next.state) next.calls dev size
  pages : HasRam next.state

so_by : (k next : KeptSeen) (dev size : ℕ) (d : Desk) → 1 ≤ size → IsDeskIn k dev size d → IsKept size d → Comes k next → StaysSo next dev size
so_by k next dev size d some desk kept c = record { desk = stays_kept (machine_of k.state) (machine_of next.state) k.calls next.calls c.happenings dev size d some desk kept c.made; pages = c.pages }

abbrev as_answered : KeptSeen → State → Option (List Bool) → AllCalls → KeptSeen
as_answered k s log calls = record k { state = s; written = log; calls = calls }

so_met : (k : KeptSeen) (number : ℕ) (fits : DiskCall → Bool) (answer : DiskCall → DiskAnswer) (next : State) (log : Option (List Bool)) (calls : AllCalls) (dev size : ℕ) (d : Desk) → IsFitting fits answer → 1 ≤ size → HasRam k.state → IsDeskIn k dev size d → IsKept size d
    → MetOr k number fits answer next calls → StaysSo (as_answered k next log calls) dev size
so_met k number fits answer next log calls dev size d right some pages desk kept (inl same) = so_by k (as_answered k next log calls) dev size d some desk kept (stays k (as_answered k next log calls) pages same.0 same.1)
so_met k number fits answer next log calls dev size d right some pages desk kept (inr h) =
    let place = h.place in
    let out : Out = record { number = number; call = place.call } in
    let given = counted_answer k place (answer place.call) in
    elim (is_same dev place.dev) as (λ _. StaysSo (as_answered k next log calls) dev size) [
      | inl here ↦
          let at : IsAt k.calls.devices dev place.i out = subst (λ (n : ℕ). IsAt k.calls.devices n place.i out) (sym here) h.is_out in
          let sectors = some_out (machine_of k.state) k.calls dev size place.i d out desk kept at in
          let to_it : answers place.call (answer_of given) ≡ true = counted_fits (counts_in (is_lost k place.dev) (slice_get (devices_of k.state) place.dev) place.call) place.call (answer place.call) (right place.call sectors h.fit) in
          so_by k (as_answered k next log calls) dev size d some desk kept (record {
            happenings = Rests ∷ Answers place.dev place.i given ∷ Rests ∷ [];
            made = answer_happens (devices_of k.state) (devices_of next) k.calls calls place.dev place.i given out h.is_out to_it h.goes h.gone;
            pages = h.pages;
          })
      | inr other ↦ record {
        desk = record { desk = d; is = other_desk (devices_of k.state) (devices_of next) k.calls calls place.dev place.i dev size (asker_in (devices_of k.state) place.dev place.call) given d desk other h.goes h.gone; kept = kept };
        pages = h.pages;
      }
    ]

lost_same : (o : Option ℕ) (k next : KeptSeen) (dev status : ℕ) → Unless o (Refuses status next k) (HasLost k dev status next) → (next.state ≡ k.state) × (next.calls ≡ k.calls)
lost_same (Some reason) k next dev status l = (ap (λ (x : KeptSeen). x.state) l.1, ap (λ (x : KeptSeen). x.calls) l.1)
lost_same None k next dev status l = (ap (λ (x : KeptSeen). x.state) l.rest, ap (λ (x : KeptSeen). x.calls) l.rest)

module _ (k next : KeptSeen) (dev size : ℕ) (d : Desk) (some : 1 ≤ size) (pages : HasRam k.state) (desk : IsDeskIn k dev size d) (kept : IsKept size d) where
  to_next : (now : KeptSeen) → ◌≡◌ {A = Option KeptSeen} (Some next) (Some now) → Comes k now → StaysSo next dev size
  to_next now is c = subst (λ (x : KeptSeen). StaysSo x dev size) (some_is next now is) (so_by k now dev size d some desk kept c)

  does : (c : HostCall) → Does k c next → StaysSo next dev size
  does (a_register_write n off width value) h =
      let on = h.3 in
      to_next (as_state k on.next) on.is_next (wrote (drops_out k n off width value) k on.next n off width value h.0 h.1 h.2 pages refl on.done)
  does (an_event e) h = let on = h.4 in to_next (as_state k on.next) on.is_next (told k on.next e h.0 h.1 h.2 pages h.3 (did_tell k.state on.next e h.0 h.1 h.2 pages on.done))
  does (a_ram_write addr bytes) h = let on = h.1 in to_next (as_logged k on.next on.log) on.is_next (logged k on.next on.log (events.MemWrite addr bytes) pages tt (did_write k.state on.next k.written on.log addr bytes h.0 pages on.done))
  does a_push h =
      let on = h.5 in
      let named = named_pages h.0 (length (memory_in k.state).versions) in
      to_next (as_logged k on.next on.log) on.is_next (with_log k on.next on.log (push_comes (push_refusal k.state h.0 (length h.1) (length h.3)) k on.next k.written on.log named h.1 (needs_list h.0) h.2 h.3 h.4 pages on.done))
  does (a_step n pick) h =
      let on = h.5 in
      to_next (as_logged k on.next on.log) on.is_next (logged k on.next on.log (Step n pick) pages tt (did_step (owed_lost k n pick) k.state on.next k.written on.log n pick h.0 h.1 h.2 h.3 h.4 pages on.done))
  does a_turn h =
      let on = h.5 in
      to_next (as_logged k on.next on.log) on.is_next (turn_comes (turn_refusal k.state h.0 (length h.2)) k (as_logged k on.next on.log) h.0 h.4 h.1 h.2 h.3 pages on.done)
  does a_reset h = let on = h.1 in to_next (as_state k on.next) on.is_next (resets (refusal_with (state_refusal k.state) (drops_any k)) k h.0 on.next refl pages on.done)
  does a_handing h = let on = h.5 in to_next (as_calls k on.calls) on.is_next (hand_comes k on.calls pages (handing k.state k.calls on.calls h.0 h.1 h.2 h.3 h.4 on.hands))
  does (an_answer number count bytes) h =
      let on = h.1 in
      let so = so_met k number (fits_done count bytes) (done_with count bytes) on.next on.log on.calls dev size d (fits_so count bytes) some pages desk kept (met k number (fits_done count bytes) (done_with count bytes) h.0 on.next on.log on.calls pages on.answers) in
      subst (λ (x : KeptSeen). StaysSo x dev size) (some_is next (as_answered k on.next on.log on.calls) on.is_next) so
  does (a_failure number) h =
      let on = h.1 in
      let so = so_met k number (λ call. true) (λ call. answers_.Failed) on.next on.log on.calls dev size d (λ call sectors is. refl) some pages desk kept (met k number (λ call. true) (λ call. answers_.Failed) h.0 on.next on.log on.calls pages on.answers) in
      subst (λ (x : KeptSeen). StaysSo x dev size) (some_is next (as_answered k on.next on.log on.calls) on.is_next) so
  does (a_loss n) h =
      let on = h.1 in
      let same = lost_same (loss_refusal k.state n) k on.next n h.0 on.loses in
      to_next on.next on.is_next (stays k on.next pages same.0 same.1)
  does another h = so_by k next dev size d some desk kept (record { happenings = Rests ∷ []; made = rest_happens (devices_of k.state) (devices_of next.state) k.calls next.calls h.0 h.1; pages = h.2 })

all_stay : (cs : List HostCall) (k next : KeptSeen) (dev size : ℕ) (d : Desk) → 1 ≤ size → HasRam k.state → IsDeskIn k dev size d → IsKept size d → DoAll k cs next → StaysSo next dev size
all_stay [] k next dev size d some pages desk kept done = subst (λ (x : KeptSeen). StaysSo x dev size) (sym done) (record { desk = record { desk = d; is = desk; kept = kept }; pages = pages })
all_stay (c ∷ cs) k next dev size d some pages desk kept done =
    let first = does k done.0 dev size d some pages desk kept c done.1 in
    all_stay cs done.0 next dev size first.desk.desk some first.pages first.desk.is first.desk.kept done.2

pub host_calls_are_met : HostCallsAreMet
host_calls_are_met k next cs dev size requests some pages desk done =
    let last = all_stay cs k next dev size (record { requests = requests; placed = [] }) some pages desk (begun_kept size requests) done in
    (last.desk.desk, last.desk.is, kept_met size last.desk.desk some last.desk.kept)

-- Which calls stay out.
calls_same : (k next now : KeptSeen) → ◌≡◌ {A = Option KeptSeen} (Some next) (Some now) → now.calls ≡ k.calls → next.calls ≡ k.calls
calls_same k next now is same = ap (λ (x : KeptSeen). x.calls) (sym (some_is next now is)) ∙ same

still_same : (calls after : AllCalls) (dev i : ℕ) (out : Out) → after ≡ calls → IsAt calls.devices dev i out → IsStillAt after dev i out
still_same calls after dev i out same at = (i, omega arith, subst (λ (c : AllCalls). IsAt c.devices dev i out) (sym same) at)

still_handed : (devices : List DeviceState) (calls after : AllCalls) (dev i : ℕ) (out : Out) → Handing devices calls after → IsAt calls.devices dev i out → IsStillAt after dev i out
still_handed devices calls after dev i out (inl same) at = still_same calls after dev i out same at
still_handed devices calls after dev i out (inr h) at = (i, omega arith, stays_handed h.0 (map asking_requests devices) calls after h.1 dev i out h.3 at)

still_if : (o : Option ℕ) (k : KeptSeen) (number : ℕ) (answer : DiskAnswer) (place : Place) (status : ℕ) (next : State) (log : Option (List Bool)) (calls : AllCalls) (dev i : ℕ) (out : Out) → number ≢ out.number → IsOut k.calls number place → IsAt k.calls.devices dev i out
    → Unless o (HasNotAnswered k status next log calls) (HasAnswered k place answer status next log calls) → IsStillAt calls dev i out
still_if (Some reason) k number answer place status next log calls dev i out other is_out at h = still_same k.calls calls dev i out h.calls_same at
still_if None k number answer place status next log calls dev i out other is_out at h =
    let apart : dev ≡ place.dev → i ≢ place.i = λ here same. other (ap (λ (o : Out). o.number) (sym (one_at k.calls dev i place.dev place.i out (record { number = number; call = place.call }) at is_out here same))) in
    subst (λ (c : AllCalls). IsStillAt c dev i out) (sym h.calls_are) (stays_removed k.calls place.dev place.i dev i out at apart)

still_unless : (o : Option ℕ) (k : KeptSeen) (number : ℕ) (fits : DiskCall → Bool) (answer : DiskCall → DiskAnswer) (status : ℕ) (next : State) (log : Option (List Bool)) (calls : AllCalls) (dev i : ℕ) (out : Out) → number ≢ out.number → IsAt k.calls.devices dev i out
    → Unless o (HasNotAnswered k status next log calls) (AnswersIf k number fits answer status next log calls) → IsStillAt calls dev i out
still_unless (Some reason) k number fits answer status next log calls dev i out other at h = still_same k.calls calls dev i out h.calls_same at
still_unless None k number fits answer status next log calls dev i out other at (inl h) =
    still_if (unfit k.state (answer h.place.call) (fits h.place.call)) k number (answer h.place.call) h.place status next log calls dev i out other h.is_out at h.answered
still_unless None k number fits answer status next log calls dev i out other at (inr h) = still_same k.calls calls dev i out h.1.calls_same at

still_to : (next now : KeptSeen) (dev i : ℕ) (out : Out) → ◌≡◌ {A = Option KeptSeen} (Some next) (Some now) → IsStillAt now.calls dev i out → IsStillAt next.calls dev i out
still_to next now dev i out is at = subst (λ (x : KeptSeen). IsStillAt x.calls dev i out) (some_is next now is) at

still_out : (c : HostCall) (k next : KeptSeen) (dev i : ℕ) (out : Out) → IsAt k.calls.devices dev i out → IsNoAnswerTo out.number c → Does k c next → IsStillAt next.calls dev i out
still_out (a_register_write n off width value) k next dev i out at none h = still_same k.calls next.calls dev i out (calls_same k next (as_state k h.3.next) h.3.is_next refl) at
still_out (an_event e) k next dev i out at none h = still_same k.calls next.calls dev i out (calls_same k next (as_state k h.4.next) h.4.is_next refl) at
still_out (a_ram_write addr bytes) k next dev i out at none h = still_same k.calls next.calls dev i out (calls_same k next (as_logged k h.1.next h.1.log) h.1.is_next refl) at
still_out a_push k next dev i out at none h = still_same k.calls next.calls dev i out (calls_same k next (as_logged k h.5.next h.5.log) h.5.is_next refl) at
still_out (a_step n pick) k next dev i out at none h = still_same k.calls next.calls dev i out (calls_same k next (as_logged k h.5.next h.5.log) h.5.is_next refl) at
still_out a_turn k next dev i out at none h = still_same k.calls next.calls dev i out (calls_same k next (as_logged k h.5.next h.5.log) h.5.is_next refl) at
still_out a_reset k next dev i out at none h = still_same k.calls next.calls dev i out (calls_same k next (as_state k h.1.next) h.1.is_next refl) at
still_out a_handing k next dev i out at none h =
    let on = h.5 in
    still_to next (as_calls k on.calls) dev i out on.is_next (still_handed (devices_of k.state) k.calls on.calls dev i out (handing k.state k.calls on.calls h.0 h.1 h.2 h.3 h.4 on.hands) at)
still_out (an_answer number count bytes) k next dev i out at none h =
    let on = h.1 in
    still_to next (as_answered k on.next on.log on.calls) dev i out on.is_next (still_unless (state_refusal k.state) k number (fits_done count bytes) (done_with count bytes) h.0 on.next on.log on.calls dev i out none at on.answers)
still_out (a_failure number) k next dev i out at none h =
    let on = h.1 in
    still_to next (as_answered k on.next on.log on.calls) dev i out on.is_next (still_unless (state_refusal k.state) k number (λ call. true) (λ call. answers_.Failed) h.0 on.next on.log on.calls dev i out none at on.answers)
still_out (a_loss n) k next dev i out at none h =
    let on = h.1 in
    still_same k.calls next.calls dev i out (calls_same k next on.next on.is_next (lost_same (loss_refusal k.state n) k on.next n h.0 on.loses).1) at
still_out another k next dev i out at none h = still_same k.calls next.calls dev i out h.1 at

pub calls_stay_out : CallsStayOut
calls_stay_out k next [] dev i out at none done = still_same k.calls next.calls dev i out (ap (λ (x : KeptSeen). x.calls) done) at
calls_stay_out k next (c ∷ cs) dev i out at none done =
    let one = still_out c k done.0 dev i out at none.0 done.1 in
    let rest = calls_stay_out done.0 next cs dev one.0 out one.2 none.1 done.2 in
    (rest.0, omega (arith, one.1, rest.1), rest.2)
