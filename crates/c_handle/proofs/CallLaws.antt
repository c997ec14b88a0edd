-- The laws of the calls of disks outside.
use Rattle.std.proofs.Common.{◌≡◌, ◌/◌, ◌-◌, ◌^◌, ◌∙◌, ◌≤◌, ◌&&◌, arith, length, min, not, ℕ, zero, suc, Bool, true, false, List, [], refl, sym, subst, inl, inr, slice_get, replicate}
use Rattle.std.specs.Prelude.{Option, Some, None, if◌then◌else◌}
use Rattle.std.specs.List.{list_any}
use Rattle.std.proofs.lemmas.Option.{slice_get_within}
use Rattle.blk.specs.declared.outside.DiskCall.{DiskCall}
use Rattle.disk_calls.proofs.Numbers.{handed_are_from, none_is_below, none_out_are_from, removed_are_from, there_by_call}
use Rattle.disk_calls.specs.Calls.{AllCalls, CallsState, call_of_device, has_out, is_any_out}
use Rattle.disk_calls.specs.Lost.{makes_durable}
use Rattle.disk_calls.specs.Machines.{asked_of}
use Rattle.disk_calls.specs.Numbers.{AreFrom}
use Rattle.disk_calls.specs.declared.calls.Place.{Place}
use Rattle.machine.specs.Outside.{call_with}
use Rattle.machine.specs.Seen.{state_of}
use Rattle.machine.specs.State.{DeviceState, MachineState}
use Rattle.machine.specs.declared.event.DiskAnswer.{DiskAnswer}
use Rattle.machine.specs.declared.event.DiskAnswer.TheVariants as answers
use Rattle.sender.specs.declared.mig_error.MigError.TheVariants.{AlreadyStopped}
use Rattle.c_machine.specs.Made.{block_size}
use Rattle.c_handle.specs.CallLaws.{AnswersStayFrom, FirstCallsAreFrom, ForeignIsNotOut, HandsStayFrom, LostAnswersFail, NextCallIsHandedOut, StopFindsNoneOut, StoppedHandsNone, UnusedIsNotOut}
use Rattle.c_handle.specs.DiskCalls.{HandsFrom, HandsUnless, HasHandedNone, IsNotOut, counted_as, counts_in, handing_refusal}
use Rattle.c_handle.specs.Kept.{KeptSeen, State, Still, Moving, Arriving, Lent, first_calls, is_lost}
use Rattle.c_handle.specs.OnHandle.{Unless}
use Rattle.c_handle.specs.Outside.{AnswersIf, HasAnswered, HasNotAnswered, devices_of, unfit}
use Rattle.c_handle.specs.Mirror.{is_closed}
use Rattle.c_handle.specs.Resetting.{state_refusal, stop_refusal}
use Rattle.c_handle.specs.SendStatus.{mig_status}
use Rattle.c_handle.specs.declared.outside.Call.{Call}

-- Numbers.
hands_unless : (from : ℕ) (refusal : Option ℕ) (m : MachineState) (calls after : AllCalls) (status : ℕ) (call old_call : Call) (buf new_buf : List ℕ) → AreFrom from calls
    → Unless refusal (HasHandedNone calls status call old_call buf new_buf after) (HandsFrom m calls status call old_call buf new_buf after) → AreFrom from after
hands_unless from (Some reason) m calls after status call old_call buf new_buf are h = subst (AreFrom from) (sym h.calls_same) are
hands_unless from None m calls after status call old_call buf new_buf are (inl h) = (handed_are_from from _ (asked_of m) calls after h.handed are h.next).0
hands_unless from None m calls after status call old_call buf new_buf are (inr h) = subst (AreFrom from) (sym h.1.calls_same) are

pub hands_stay_from : HandsStayFrom
hands_stay_from from (Still m) calls after status call old_call buf new_buf are h = hands_unless from (handing_refusal None (length buf)) (state_of m) calls after status call old_call buf new_buf are h
hands_stay_from from (Moving l) calls after status call old_call buf new_buf are h = hands_unless from (handing_refusal (stop_refusal l.phase) (length buf)) (state_of l.machine) calls after status call old_call buf new_buf are h
hands_stay_from from (Arriving r) calls after status call old_call buf new_buf are h = subst (AreFrom from) (sym h.calls_same) are
hands_stay_from from (Lent x) calls after status call old_call buf new_buf are h = subst (AreFrom from) (sym h.calls_same) are

answers_fit : (from : ℕ) (refusal : Option ℕ) (k : KeptSeen) (place : Place) (answer : DiskAnswer) (status : ℕ) (next : State) (log : Option (List Bool)) (calls : AllCalls) → AreFrom from k.calls
    → Unless refusal (HasNotAnswered k status next log calls) (HasAnswered k place answer status next log calls) → AreFrom from calls
answers_fit from (Some reason) k place answer status next log calls are h = subst (AreFrom from) (sym h.calls_same) are
answers_fit from None k place answer status next log calls are h = subst (AreFrom from) (sym h.calls_are) (removed_are_from from place.dev place.i k.calls are)

answers_unless : (from : ℕ) (refusal : Option ℕ) (k : KeptSeen) (number : ℕ) (fits : DiskCall → Bool) (answer : DiskCall → DiskAnswer) (status : ℕ) (next : State) (log : Option (List Bool)) (calls : AllCalls) → AreFrom from k.calls
    → Unless refusal (HasNotAnswered k status next log calls) (AnswersIf k number fits answer status next log calls) → AreFrom from calls
answers_unless from (Some reason) k number fits answer status next log calls are h = subst (AreFrom from) (sym h.calls_same) are
answers_unless from None k number fits answer status next log calls are (inl h) =
    answers_fit from (unfit k.state (answer h.place.call) (fits h.place.call)) k h.place (answer h.place.call) status next log calls are h.answered
answers_unless from None k number fits answer status next log calls are (inr h) = subst (AreFrom from) (sym h.1.calls_same) are

pub answers_stay_from : AnswersStayFrom
answers_stay_from from k number fits answer status next log calls are h = answers_unless from (state_refusal k.state) k number fits answer status next log calls are h

not_out_if : (k : KeptSeen) (number : ℕ) (fits : DiskCall → Bool) (answer : DiskCall → DiskAnswer) (status : ℕ) (next : State) (log : Option (List Bool)) (calls : AllCalls) → IsNotOut k.calls number
    → AnswersIf k number fits answer status next log calls → HasNotAnswered k status next log calls 28
not_out_if k number fits answer status next log calls none (inl h) = absurd (none h.place.dev h.place.i (record { number = number; call = h.place.call }) h.is_out refl)
not_out_if k number fits answer status next log calls none (inr h) = h.1

pub foreign_is_not_out : ForeignIsNotOut
foreign_is_not_out from k number fits answer status next log calls are less goes h =
    not_out_if k number fits answer status next log calls (λ dev i out at. none_is_below from number dev i k.calls out are less at)
    (subst (λ (o : Option ℕ). Unless o (HasNotAnswered k status next log calls) (AnswersIf k number fits answer status next log calls)) goes h)

pub unused_is_not_out : UnusedIsNotOut
unused_is_not_out k number fits answer status next log calls numbered later goes h =
    not_out_if k number fits answer status next log calls (λ dev i out at same. let below = numbered.below dev i out at in omega (arith, below, later, same))
    (subst (λ (o : Option ℕ). Unless o (HasNotAnswered k status next log calls) (AnswersIf k number fits answer status next log calls)) goes h)

none_any : (n : ℕ) (s : CallsState) → has_out s ≡ false → list_any has_out (replicate n s) ≡ false
none_any zero s none = refl
none_any (suc n) s none = rw none (none_any n s none)

pub first_calls_are_from : FirstCallsAreFrom
first_calls_are_from mapped flags places block from k new =
    let none : is_any_out (first_calls block from) ≡ false = none_any 16 (record { size = block_size block; outs = [] }) refl in
    subst (AreFrom from) (sym new.none_out) (none_out_are_from from (first_calls block from) none (omega arith))

-- What waits is handed out.
pub next_call_is_handed_out : NextCallIsHandedOut
next_call_is_handed_out m calls after dev status call old_call buf new_buf next long (inl h) = h.status_is
next_call_is_handed_out m calls after dev status call old_call buf new_buf next long (inr h) =
    let size : 1 ≤ length buf / 512 = omega (arith, long) in
    let most = min (length buf / 512) (2 ^ 32 - 1) in
    let some : 1 ≤ most = omega (arith, size) in
    let few : most ≤ 2 ^ 32 - 1 = omega arith in
    let k = next.part.0 in
    let part = next.part.1 most some few in
    let there = there_by_call most calls (asked_of m) dev k part.0 part.1 in
    let none : call_of_device most calls (asked_of m) dev k ≡ None = h.0 dev k next.numbered (slice_get_within calls.devices dev there.0 there.1) in
    let both : ◌≡◌ {A = Option DiskCall} (Some part.0) None = sym part.1 ∙ none in
    absurd cc

-- Lost disks.
fails_if : (lost makes : Bool) (answer : DiskAnswer) → lost ≡ true → makes ≡ true → counted_as (not (lost && makes)) answer ≡ answers.Failed
fails_if true true answer is makes = refl
fails_if true false answer is makes = cc
fails_if false makes_so answer is makes = cc

counts_lost : (lost : Bool) (found : Option DeviceState) (d : DeviceState) (call : DiskCall) (answer : DiskAnswer) → found ≡ Some d → lost ≡ true → makes_durable (call_with d.registers.common.features call) ≡ true → counted_as (counts_in lost found call) answer ≡ answers.Failed
counts_lost lost found d call answer there is makes =
    subst (λ (o : Option DeviceState). counted_as (counts_in lost o call) answer ≡ answers.Failed) (sym there) (fails_if lost (makes_durable (call_with d.registers.common.features call)) answer is makes)

pub lost_answers_fail : LostAnswersFail
lost_answers_fail k place d answer there is makes = counts_lost (is_lost k place.dev) (slice_get (devices_of k.state) place.dev) d place.call answer there is makes

-- Stopped machines.
pub stop_finds_none_out : StopFindsNoneOut
stop_finds_none_out false k next status pages old_pages sectors old_sectors h fine = refl
stop_finds_none_out true (Still m) (Still next) status pages old_pages sectors old_sectors h fine = absurd (omega (arith, h.0.0, fine))
stop_finds_none_out true (Moving l) (Moving next) status pages old_pages sectors old_sectors h fine = absurd (omega (arith, h.0.0, fine))
stop_finds_none_out true (Arriving r) (Arriving next) status pages old_pages sectors old_sectors h fine = absurd (omega (arith, h.0.0, fine))
stop_finds_none_out true (Lent x) (Lent next) status pages old_pages sectors old_sectors h fine = absurd (omega (arith, h.0.0, fine))
stop_finds_none_out true _ _ status pages old_pages sectors old_sectors h fine = absurd h

handed_none : (closed : Bool) (m : MachineState) (calls after : AllCalls) (status : ℕ) (call old_call : Call) (buf new_buf : List ℕ) → closed ≡ true
    → HandsUnless (if closed then Some (mig_status AlreadyStopped) else None) m calls status call old_call buf new_buf after → after ≡ calls
handed_none true m calls after status call old_call buf new_buf is h = h.calls_same
handed_none false m calls after status call old_call buf new_buf is h = absurd cc

pub stopped_hands_none : StoppedHandsNone
stopped_hands_none l calls after status call old_call buf new_buf stopped h = handed_none (is_closed l.phase) (state_of l.machine) calls after status call old_call buf new_buf stopped h
