-- The arrival of what lies behind a handle.
use Rattle.std.proofs.Common.{◌≡◌, ◌∙◌, ◌==◌, ℕ, Bool, true, false, List, refl, ap, sym, subst, inl, inr}
use Rattle.std.specs.Prelude.{Option, None, Some, if◌then◌else◌}
use Rattle.receiver.specs.declared.recv_error.RecvError.{RecvError}
use Rattle.c_handle.specs.Admission.{Admits, first_refusal}
use Rattle.c_handle.specs.AdmissionSeen.{AdmissionSeen, Denied}
use Rattle.c_handle.specs.ArrivalSeen.{ArrivalSeen}
use Rattle.c_handle.specs.Arriving.{Fed, FeedsKept, FeedsWithin, FinishesKept, FinishesState, IsArriving, after_finish, fed_after, feed_refusal, finish_refusal, or_else, outgrows, refused_before, taken_status, telling_finished}
use Rattle.c_handle.specs.Awaited.{IsClosed, IsFed, RefusesUntouched, TellsOf, TellsWhole, stream_status}
use Rattle.c_handle.specs.Kept.{KeptSeen, State, Still, Moving, Arriving, Lent}
use Rattle.c_handle.specs.declared.told_feeding.Telling.{Telling}
use Rattle.c_machine.proofs.Imaging.{eq_of}

pub fed : (k : State) (r next : ArrivalSeen) (before after : AdmissionSeen) (piece : List ℕ) (status : ℕ) → k ≡ Arriving r → FeedsWithin before r piece status after next → FeedsKept before k piece status after (Arriving next)
fed k r next before after piece status is feeds = subst (λ (x : State). FeedsKept before x piece status after (Arriving next)) (sym is) feeds

-- A piece of a stream whose host tells its digest, and of another one.
pub fed_refused : (k : KeptSeen) (piece : List ℕ) (status : ℕ) (answer : Option ℕ) → answer ≡ feed_refusal k.telling k.admission → answer ≡ Some status → Fed (Some k) piece status (Some k)
fed_refused k piece status answer asked why = rw (sym asked ∙ why) (refl, refl)

pub fed_through : (k next : KeptSeen) (piece : List ℕ) (status : ℕ) (answer : Option ℕ) → answer ≡ feed_refusal k.telling k.admission → answer ≡ None → FeedsKept k.admission k.state piece status next.admission next.state
    → next ≡ record k { state = next.state; admission = next.admission; fed = fed_after status k.fed piece } → Fed (Some k) piece status (Some next)
fed_through k next piece status answer asked none feeds is = rw (sym asked ∙ none) (record { next = next.state; admission = next.admission; is_next = ap Some is; does = feeds })

never_none : (o : Option ℕ) (reason : ℕ) → ¬ (or_else (refused_before o) (Some reason) ≡ None)
never_none (Some first) reason is = cc
never_none None reason is = cc

pub not_telling : (telling : Option Telling) (admission : AdmissionSeen) → feed_refusal telling admission ≡ None → telling ≡ None
not_telling None admission none = refl
not_telling (Some telling) admission none = absurd (never_none (first_refusal admission) 31 none)

pub was_denied : (r : ArrivalSeen) (before after : AdmissionSeen) (piece : List ℕ) (status : ℕ) → Admits before piece (Some status) after → FeedsWithin before r piece status after r
was_denied r before after piece status denied = inr (inr (record { denied = denied; same = refl }))

pub was_fed : (r next : ArrivalSeen) (before after : AdmissionSeen) (piece : List ℕ) (ended : Bool) (status : ℕ) → Admits before piece None after → IsFed r piece next → TellsWhole next ended → status ≡ taken_status ended → FeedsWithin before r piece status after next
was_fed r next before after piece ended status admitted is_fed tells is = inl (record { admitted = admitted; fed = is_fed; ended = ended; tells = tells; status_is = is })

pub was_not_fed : (r next : ArrivalSeen) (before let_in after : AdmissionSeen) (piece : List ℕ) (error : RecvError) (status : ℕ) → Admits before piece None let_in → TellsOf r piece error → RefusesUntouched r piece error next → status ≡ stream_status error → IsClosed r next
    → after ≡ Denied status → FeedsWithin before r piece status after next
was_not_fed r next before let_in after piece error status admitted why untouched is failed denied =
    inr (inl (record { let_in = let_in; admitted = admitted; error = error; why = why; untouched = untouched; status_is = is; failed = failed; denied = denied }))

-- An end that is not refused before.
pub is_arriving : (admission : AdmissionSeen) (k : State) (answer : Option ℕ) → answer ≡ finish_refusal admission k → answer ≡ None → IsArriving k
is_arriving admission (Arriving r) answer asked none = tt
is_arriving admission (Still m) answer asked none = cc
is_arriving admission (Moving l) answer asked none = cc
is_arriving admission (Lent x) answer asked none = cc

pub end_refused : (places : ℕ) (admission : AdmissionSeen) (k : State) (status : ℕ) (answer : Option ℕ) → answer ≡ finish_refusal admission k → answer ≡ Some status → FinishesKept places admission k status admission k
end_refused places admission k status answer asked why = rw (sym asked ∙ why) ((refl, refl), refl)

-- No refusal is as if it were done.
not_done : (o : Option ℕ) (status : ℕ) → refused_before o ≡ Some status → ¬ (status ≡ 0)
not_done (Some first) status is none = cc
not_done None status is none = cc

pub refused_end : (admission : AdmissionSeen) (k : State) (status : ℕ) (answer : Option ℕ) → answer ≡ finish_refusal admission k → answer ≡ Some status → ¬ (status ≡ 0)
refused_end admission (Arriving r) status answer asked why = not_done (first_refusal admission) status (sym asked ∙ why)
refused_end admission (Still m) status answer asked why = λ none. cc
refused_end admission (Moving l) status answer asked why = λ none. cc
refused_end admission (Lent x) status answer asked why = λ none. cc

tell_by : (is_done : Bool) (telling : Option Telling) → (is_done ≡ true → ⊥) → telling ≡ (if is_done then None else telling)
tell_by true telling fails = absurd (fails refl)
tell_by false telling fails = refl

pub same_telling : (status : ℕ) (telling : Option Telling) → (status ≡ 0 → ⊥) → telling ≡ telling_finished status telling
same_telling status telling fails = tell_by (status == 0) telling (λ done. fails (eq_of status 0 done))

pub too_large : (places : ℕ) (admission : AdmissionSeen) (k : State) (answer : Option ℕ) → answer ≡ finish_refusal admission k → answer ≡ None → outgrows places k ≡ true → FinishesKept places admission k 49 (Denied 49) k
too_large places admission k answer asked none more = rw (sym asked ∙ none, more) (record { status_is = refl; admission_is = refl; same = refl })

ended : (places : ℕ) (admission after : AdmissionSeen) (k : State) (status : ℕ) (next : State) (answer : Option ℕ) → answer ≡ finish_refusal admission k → answer ≡ None → outgrows places k ≡ false → FinishesState k status next → after ≡ after_finish status admission
    → FinishesKept places admission k status after next
ended places admission after k status next answer asked none fine ends are = rw (sym asked ∙ none, fine) (record { ends = ends; admission_is = are })

pub ended_well : (places : ℕ) (admission : AdmissionSeen) (k : State) (status : ℕ) (next : State) (answer : Option ℕ) → answer ≡ finish_refusal admission k → answer ≡ None → outgrows places k ≡ false → FinishesState k status next → status ≡ 0
    → FinishesKept places admission k status admission next
ended_well places admission k status next answer asked none fine ends done = ended places admission admission k status next answer asked none fine ends (rw done refl)

denied_by : (is_done : Bool) (status : ℕ) (admission : AdmissionSeen) → (is_done ≡ true → ⊥) → Denied status ≡ (if is_done then admission else Denied status)
denied_by true status admission fails = absurd (fails refl)
denied_by false status admission fails = refl

pub ended_badly : (places : ℕ) (admission : AdmissionSeen) (k : State) (status : ℕ) (next : State) (answer : Option ℕ) → answer ≡ finish_refusal admission k → answer ≡ None → outgrows places k ≡ false → FinishesState k status next → (status ≡ 0 → ⊥)
    → FinishesKept places admission k status (Denied status) next
ended_badly places admission k status next answer asked none fine ends fails =
    ended places admission (Denied status) k status next answer asked none fine ends (denied_by (status == 0) status admission (λ done. fails (eq_of status 0 done)))
