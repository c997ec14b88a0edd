-- Calls of disks outside, by cases on the state of what a handle has.
use Rattle.std.proofs.Common.{◌≡◌, ◌≤◌, ◌<◌, arith, length, ℕ, Bool, true, false, List, refl, sym, ◌∙◌, subst, inl, inr}
use Rattle.std.specs.Prelude.{Option, Some, None, ◌&&◌, if◌then◌else◌, slice_get}
use Rattle.blk.specs.declared.outside.DiskCall.{DiskCall}
use Rattle.disk_calls.specs.Calls.{AllCalls, without}
use Rattle.disk_calls.specs.declared.calls.Place.{Place}
use Rattle.machine.specs.Seen.{Seen, state_of}
use Rattle.machine.specs.declared.event.DiskAnswer.{DiskAnswer}
use Rattle.machine.specs.declared.event.DiskAnswer.TheVariants as answers
use Rattle.sender.specs.LiveState.{LiveSeen}
use Rattle.c_handle.specs.DiskCalls.{HandsFrom, HandsUnless, HasHandedNone, IsOut, MeetsStill, asker_of, counted_as, counts_in, done_with, fits_done, handing_refusal, puts_bytes}
use Rattle.machine.specs.State.{MachineState}
use Rattle.c_handle.specs.Kept.{KeptSeen, LoanSeen, State, Still, Moving, Arriving, Lent, is_lost}
use Rattle.c_handle.specs.Outside as outside
use Rattle.c_handle.specs.Outside.{Answers, AnswersIf, AnswersKept, HandsCall, HandsKept, HasAnswered, HasNotAnswered, Meets, MeetsLent, MeetsMoving, RefusedAnswersNothing, RefusedHandsNothing, Unfound, counted_answer, devices_of, is_lent, unfit}
use Rattle.c_handle.specs.OnHandle.{Unless}
use Rattle.c_handle.specs.Resetting.{loan_refusal, state_refusal, stop_refusal}
use Rattle.c_handle.specs.declared.outside.Call.{Call}

-- By the state.
pub hands_still : (k : State) (m : Seen) (calls after : AllCalls) (status : ℕ) (call old_call : Call) (buf new_buf : List ℕ) → k ≡ Still m → HandsUnless None (state_of m) calls status call old_call buf new_buf after → HandsKept k calls status call old_call buf new_buf after
hands_still k m calls after status call old_call buf new_buf is hands = subst (λ (x : State). HandsKept x calls status call old_call buf new_buf after) (sym is) hands

pub hands_moving : (k : State) (l : LiveSeen) (calls after : AllCalls) (stopped : Option ℕ) (status : ℕ) (call old_call : Call) (buf new_buf : List ℕ) → k ≡ Moving l → stopped ≡ stop_refusal l.phase
    → HandsUnless stopped (state_of l.machine) calls status call old_call buf new_buf after → HandsKept k calls status call old_call buf new_buf after
hands_moving k l calls after stopped status call old_call buf new_buf is why hands =
    subst (λ (x : State). HandsKept x calls status call old_call buf new_buf after) (sym is) (subst (λ (o : Option ℕ). HandsUnless o (state_of l.machine) calls status call old_call buf new_buf after) why hands)

pub meets_still : (place : Place) (answer : DiskAnswer) (k : State) (m next : Seen) (log new_log : Option (List Bool)) (found : Option ℕ) → k ≡ Still m → found ≡ asker_of (state_of m) place → MeetsStill found answer m log place.dev next new_log
    → Meets place answer k log (Still next) new_log
meets_still place answer k m next log new_log found is asks meets =
    subst (λ (x : State). Meets place answer x log (Still next) new_log) (sym is) (subst (λ (o : Option ℕ). MeetsStill o answer m log place.dev next new_log) asks meets)

pub meets_moving : (place : Place) (answer : DiskAnswer) (k : State) (l next : LiveSeen) (log new_log : Option (List Bool)) (found : Option ℕ) → k ≡ Moving l → found ≡ asker_of (state_of l.machine) place → MeetsMoving found answer l log place.dev next new_log
    → Meets place answer k log (Moving next) new_log
meets_moving place answer k l next log new_log found is asks meets =
    subst (λ (x : State). Meets place answer x log (Moving next) new_log) (sym is) (subst (λ (o : Option ℕ). MeetsMoving o answer l log place.dev next new_log) asks meets)

pub meets_lent : (place : Place) (answer : DiskAnswer) (k : State) (x next : LoanSeen) (log : Option (List Bool)) → k ≡ Lent x → MeetsLent place answer x next → Meets place answer k log (Lent next) log
meets_lent place answer k x next log is meets = subst (λ (s : State). Meets place answer s log (Lent next) log) (sym is) (meets, refl)

-- While RAM is lent no bytes are put into it.
pub puts_none : (k : State) (x : LoanSeen) (answer : DiskAnswer) → k ≡ Lent x → unfit k answer true ≡ None → puts_bytes answer ≡ false
puts_none k x (answers.Gave bytes) is fits = let here : unfit (Lent x) (answers.Gave bytes) true ≡ None = subst (λ (s : State). unfit s (answers.Gave bytes) true ≡ None) is fits in absurd cc
puts_none k x (answers.Did count) is fits = refl
puts_none k x answers.Failed is fits = refl

pub goes_lent : (k : State) (x : LoanSeen) → k ≡ Lent x → state_refusal k ≡ None → loan_refusal x ≡ None
goes_lent k x is goes = subst (λ (s : State). state_refusal s ≡ None) is goes

-- What counts as a failure fits as the answer did.
no_bytes : (lent : Bool) → (lent && false) ≡ false
no_bytes true = refl
no_bytes false = refl

failure_taken : (k : State) → unfit k answers.Failed true ≡ None
failure_taken k = rw (no_bytes (is_lent k)) refl

taken_whole : (lent puts fits : Bool) → (if lent && puts then Some 23 else outside.misfit fits) ≡ None → (if lent && puts then Some 23 else outside.misfit true) ≡ None
taken_whole true true fits none = none
taken_whole true false fits none = refl
taken_whole false puts fits none = refl

counted_fits : (counts : Bool) (k : State) (answer : DiskAnswer) (fits : Bool) → unfit k answer fits ≡ None → unfit k (counted_as counts answer) true ≡ None
counted_fits true k answer fits none = taken_whole (is_lent k) (puts_bytes answer) fits none
counted_fits false k answer fits none = failure_taken k

pub fits_as_counted : (k : KeptSeen) (place : Place) (answer counted : DiskAnswer) (fits : Bool) → counted ≡ counted_answer k place answer → unfit k.state answer fits ≡ None → unfit k.state counted true ≡ None
fits_as_counted k place answer counted fits is none =
    subst (λ (a : DiskAnswer). unfit k.state a true ≡ None) (sym is) (counted_fits (counts_in (is_lost k place.dev) (slice_get (devices_of k.state) place.dev) place.call) k.state answer fits none)

pub failure_fits : (k : State) (answer : DiskAnswer) → answer ≡ answers.Failed → unfit k answer true ≡ None
failure_fits k answer is = subst (λ (a : DiskAnswer). unfit k a true ≡ None) (sym is) (failure_taken k)

failed_counts : (counts : Bool) → counted_as counts answers.Failed ≡ answers.Failed
failed_counts true = refl
failed_counts false = refl

-- By whether the call is out, and the answer is one to it.
pub answered : (k : KeptSeen) (number : ℕ) (fits : DiskCall → Bool) (answer : DiskCall → DiskAnswer) (place : Place) (next : State) (log : Option (List Bool)) (calls : AllCalls) → state_refusal k.state ≡ None → IsOut k.calls number place
    → unfit k.state (answer place.call) (fits place.call) ≡ None → Meets place (counted_answer k place (answer place.call)) k.state k.written next log → calls ≡ without k.calls place.dev place.i → AnswersKept k number fits answer 0 next log calls
answered k number fits answer place next log calls none out fit meets are =
    rw none (inl (record { place = place; is_out = out; answered = rw fit (record { status_is = refl; meets = meets; calls_are = are }) }))

pub answered_as : (k : KeptSeen) (number count : ℕ) (bytes : List ℕ) (fits : Bool) (given counted : DiskAnswer) (place : Place) (next : State) (log : Option (List Bool)) (calls : AllCalls) → state_refusal k.state ≡ None → IsOut k.calls number place
    → given ≡ done_with count bytes place.call → fits ≡ fits_done count bytes place.call → unfit k.state given fits ≡ None → counted ≡ counted_answer k place given → Meets place counted k.state k.written next log
    → calls ≡ without k.calls place.dev place.i → AnswersKept k number (fits_done count bytes) (done_with count bytes) 0 next log calls
answered_as k number count bytes fits given counted place next log calls none out gives fit taken is meets are =
    let taken_so : unfit k.state (done_with count bytes place.call) (fits_done count bytes place.call) ≡ None = subst (λ (a : DiskAnswer). unfit k.state a (fits_done count bytes place.call) ≡ None) gives (subst (λ (b : Bool). unfit k.state given b ≡ None) fit taken) in
    let counted_so : counted ≡ counted_answer k place (done_with count bytes place.call) = subst (λ (a : DiskAnswer). counted ≡ counted_answer k place a) gives is in
    answered k number (fits_done count bytes) (done_with count bytes) place next log calls none out taken_so (subst (λ (a : DiskAnswer). Meets place a k.state k.written next log) counted_so meets) are

pub failed_as : (k : KeptSeen) (number : ℕ) (given : DiskAnswer) (place : Place) (next : State) (log : Option (List Bool)) (calls : AllCalls) → state_refusal k.state ≡ None → IsOut k.calls number place → given ≡ answers.Failed
    → Meets place given k.state k.written next log → calls ≡ without k.calls place.dev place.i → AnswersKept k number (λ call. true) (λ call. answers.Failed) 0 next log calls
failed_as k number given place next log calls none out is meets are =
    let counts = counts_in (is_lost k place.dev) (slice_get (devices_of k.state) place.dev) place.call in
    let counted : given ≡ counted_as counts answers.Failed = is ∙ sym (failed_counts counts) in
    answered k number (λ call. true) (λ call. answers.Failed) place next log calls none out (failure_taken k.state) (subst (λ (a : DiskAnswer). Meets place a k.state k.written next log) counted meets) are

pub misfit : (k : KeptSeen) (number count : ℕ) (bytes : List ℕ) (fits : Bool) (given : DiskAnswer) (place : Place) (status : ℕ) → state_refusal k.state ≡ None → IsOut k.calls number place → given ≡ done_with count bytes place.call
    → fits ≡ fits_done count bytes place.call → unfit k.state given fits ≡ Some status → AnswersKept k number (fits_done count bytes) (done_with count bytes) status k.state k.written k.calls
misfit k number count bytes fits given place status none out gives fit why =
    let so : unfit k.state (done_with count bytes place.call) (fits_done count bytes place.call) ≡ Some status = subst (λ (a : DiskAnswer). unfit k.state a (fits_done count bytes place.call) ≡ Some status) gives (subst (λ (b : Bool). unfit k.state given b ≡ Some status) fit why) in
    rw none (inl (record { place = place; is_out = out; answered = rw so (record { status_is = refl; state_same = refl; log_same = refl; calls_same = refl }) }))

unfound_by : (refusal : Option ℕ) (k : KeptSeen) (number : ℕ) (fits : DiskCall → Bool) (answer : DiskCall → DiskAnswer) (status : ℕ) → Unfound refusal k.calls number status
    → Unless refusal (HasNotAnswered k status k.state k.written k.calls) (AnswersIf k number fits answer status k.state k.written k.calls)
unfound_by (Some reason) k number fits answer status why = record { status_is = why; state_same = refl; log_same = refl; calls_same = refl }
unfound_by None k number fits answer status why = inr (why.1, record { status_is = why.0; state_same = refl; log_same = refl; calls_same = refl })

pub unfound : (k : KeptSeen) (number : ℕ) (fits : DiskCall → Bool) (answer : DiskCall → DiskAnswer) (status : ℕ) → Unfound (state_refusal k.state) k.calls number status → AnswersKept k number fits answer status k.state k.written k.calls
unfound k number fits answer status why = unfound_by (state_refusal k.state) k number fits answer status why

-- Why it is not found.
pub refused_by : (refusal found : Option ℕ) (calls : AllCalls) (number status : ℕ) → found ≡ refusal → found ≡ Some status → Unfound refusal calls number status
refused_by (Some reason) found calls number status is why = cc
refused_by None found calls number status is why = cc

-- What is refused changes nothing.
same_none : (calls after : AllCalls) (status reason : ℕ) (call old_call : Call) (buf new_buf : List ℕ) → HasHandedNone calls status call old_call buf new_buf after reason → (after ≡ calls) × (call ≡ old_call) × (new_buf ≡ buf)
same_none calls after status reason call old_call buf new_buf h = (h.calls_same, h.call_same, h.buf_same)

same_unless : (refusal : Option ℕ) (m : MachineState) (calls after : AllCalls) (status : ℕ) (call old_call : Call) (buf new_buf : List ℕ) → status < 64
    → Unless refusal (HasHandedNone calls status call old_call buf new_buf after) (HandsFrom m calls status call old_call buf new_buf after) → (after ≡ calls) × (call ≡ old_call) × (new_buf ≡ buf)
same_unless (Some reason) m calls after status call old_call buf new_buf few h = same_none calls after status reason call old_call buf new_buf h
same_unless None m calls after status call old_call buf new_buf few (inl h) = absurd (omega (arith, h.status_is, few))
same_unless None m calls after status call old_call buf new_buf few (inr h) = same_none calls after status 65 call old_call buf new_buf h.1

pub refused_hands_nothing : RefusedHandsNothing
refused_hands_nothing (Still m) calls after status call old_call buf new_buf h some few = same_unless (handing_refusal None (length buf)) (state_of m) calls after status call old_call buf new_buf few h
refused_hands_nothing (Moving l) calls after status call old_call buf new_buf h some few = same_unless (handing_refusal (stop_refusal l.phase) (length buf)) (state_of l.machine) calls after status call old_call buf new_buf few h
refused_hands_nothing (Arriving r) calls after status call old_call buf new_buf h some few = same_none calls after status 8 call old_call buf new_buf h
refused_hands_nothing (Lent x) calls after status call old_call buf new_buf h some few = same_none calls after status 23 call old_call buf new_buf h

same_not : (k : KeptSeen) (status reason : ℕ) (next : State) (log : Option (List Bool)) (calls : AllCalls) → HasNotAnswered k status next log calls reason → (next ≡ k.state) × (log ≡ k.written) × (calls ≡ k.calls)
same_not k status reason next log calls h = (h.state_same, h.log_same, h.calls_same)

same_misfit : (refusal : Option ℕ) (k : KeptSeen) (place : Place) (answer : DiskAnswer) (status : ℕ) (next : State) (log : Option (List Bool)) (calls : AllCalls) → 1 ≤ status
    → Unless refusal (HasNotAnswered k status next log calls) (HasAnswered k place answer status next log calls) → (next ≡ k.state) × (log ≡ k.written) × (calls ≡ k.calls)
same_misfit (Some reason) k place answer status next log calls some h = same_not k status reason next log calls h
same_misfit None k place answer status next log calls some h = absurd (omega (arith, h.status_is, some))

same_answers : (refusal : Option ℕ) (k : KeptSeen) (number : ℕ) (fits : DiskCall → Bool) (answer : DiskCall → DiskAnswer) (status : ℕ) (next : State) (log : Option (List Bool)) (calls : AllCalls) → 1 ≤ status
    → Unless refusal (HasNotAnswered k status next log calls) (AnswersIf k number fits answer status next log calls) → (next ≡ k.state) × (log ≡ k.written) × (calls ≡ k.calls)
same_answers (Some reason) k number fits answer status next log calls some h = same_not k status reason next log calls h
same_answers None k number fits answer status next log calls some (inl h) = same_misfit (unfit k.state (answer h.place.call) (fits h.place.call)) k h.place (answer h.place.call) status next log calls some h.answered
same_answers None k number fits answer status next log calls some (inr h) = same_not k status 28 next log calls h.1

pub refused_answers_nothing : RefusedAnswersNothing
refused_answers_nothing k number fits answer status next log calls h some = same_answers (state_refusal k.state) k number fits answer status next log calls some h
