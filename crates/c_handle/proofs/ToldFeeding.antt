-- A stream whose host tells its digest, part by part.
use Rattle.std.proofs.Common.{◌≡◌, ◌≤◌, ◌+◌, ◌∙◌, ℕ, Bool, true, false, List, [], ◌∷◌, ◌++◌, length, take, drop, refl, sym, ap, subst, append_assoc, arith, inl, inr}
use Rattle.std.specs.Prelude.{Option, Some, None, Err}
use Rattle.sha2.specs.Sha256.{sha256}
use Rattle.std.proofs.Math.Seq.{take-add}
use Rattle.std.proofs.lemmas.List.{append-nil, drop-drop, length-drop, take-append-drop}
use Rattle.receiver.specs.declared.receiver.Fed.{Fed}
use Rattle.receiver.specs.declared.recv_error.RecvError.{RecvError}
use Rattle.receiver.specs.declared.recv_error.RecvError.TheVariants.{AlreadyFailed}
use Rattle.c_handle.specs.Admission.{Admits, IsPending, first_refusal}
use Rattle.c_handle.specs.AdmissionSeen.{AdmissionSeen, Granted, Pending, Denied}
use Rattle.c_handle.specs.ArrivalSeen.{ArrivalSeen, AtHead, AtBody, Refused, Over}
use Rattle.c_handle.specs.Arriving.{refused_before, taken_status}
use Rattle.c_handle.specs.Awaited.{HasCome, IsClosed, RefusesUntouched, TellsOf, TellsWhole, stream_status}
use Rattle.c_handle.specs.ToldArrival.{ClosesRight, DueAfter, IsBefore, IsDueAt, MeetsRecordAt, digested}
use Rattle.c_handle.specs.ToldFeeding.{ClosesTold, FeedsFront, IsPast, RefusesPart, TakesFirst, TakesPart, TakesParts, TakingsCome, joined}

-- Parts, one after another.
both : (ps qs : List (List ℕ)) (admission let_in after : AdmissionSeen) (r mid next : ArrivalSeen) → TakesParts ps admission r let_in mid → TakesParts qs let_in mid after next → TakesParts (ps ++ qs) admission r after next
both [] qs admission let_in after r mid next first second =
    subst (λ (a : AdmissionSeen). TakesParts qs a r after next) first.0 (subst (λ (x : ArrivalSeen). TakesParts qs let_in x after next) first.1 second)
both (p ∷ ps) qs admission let_in after r mid next first second =
    record { let_in = first.let_in; mid = first.mid; takes = first.takes; goes_on = both ps qs first.let_in let_in after first.mid mid next first.goes_on second }

joined_both : (ps qs : List (List ℕ)) → joined (ps ++ qs) ≡ joined ps ++ joined qs
joined_both [] qs = refl
joined_both (p ∷ ps) qs = ap (λ (x : List ℕ). p ++ x) (joined_both ps qs) ∙ sym (append_assoc p (joined ps) (joined qs))

pub none_first : (admission : AdmissionSeen) (r : ArrivalSeen) (piece : List ℕ) → TakesFirst 0 admission r piece admission r
none_first admission r piece = record { within = omega arith; parts = []; bytes = refl; takes = (refl, refl) }

one_first : (count : ℕ) (admission after : AdmissionSeen) (r next : ArrivalSeen) (piece : List ℕ) → count ≤ length piece → TakesPart admission r (take count piece) after next → TakesFirst count admission r piece after next
one_first count admission after r next piece le takes =
    record { within = le; parts = take count piece ∷ []; bytes = append-nil (take count piece); takes = record { let_in = after; mid = next; takes = takes; goes_on = (refl, refl) } }

first_both : (used count : ℕ) (admission let_in after : AdmissionSeen) (r mid next : ArrivalSeen) (piece : List ℕ) → TakesFirst used admission r piece let_in mid → TakesFirst count let_in mid (drop used piece) after next → TakesFirst (used + count) admission r piece after next
first_both used count admission let_in after r mid next piece first second = record {
  within = omega (arith, first.within, second.within, length-drop used piece);
  parts = first.parts ++ second.parts;
  bytes = joined_both first.parts second.parts ∙ ap (λ (x : List ℕ). x ++ joined second.parts) first.bytes ∙ ap (λ (x : List ℕ). take used piece ++ x) second.bytes ∙ sym (take-add used count piece);
  takes = both first.parts second.parts admission let_in after r mid next first.takes second.takes;
}

pub more_first : (used : ℕ) (admission let_in after : AdmissionSeen) (r mid next : ArrivalSeen) (piece byte : List ℕ) → TakesFirst used admission r piece let_in mid → used + 1 ≤ length piece → byte ≡ take 1 (drop used piece) → TakesPart let_in mid byte after next
    → TakesFirst (used + 1) admission r piece after next
more_first used admission let_in after r mid next piece byte first le is takes =
    first_both used 1 admission let_in after r mid next piece first (one_first 1 let_in after mid next (drop used piece) (omega (arith, le, length-drop used piece)) (subst (λ (x : List ℕ). TakesPart let_in mid x after next) is takes))

-- They come after what came before.
parts_come : (ps : List (List ℕ)) (admission after : AdmissionSeen) (r next : ArrivalSeen) (b : List ℕ) → TakesParts ps admission r after next → HasCome r b → IsBefore r → HasCome next (b ++ joined ps) × IsBefore next
parts_come [] admission after r next b takes come before =
    (subst (λ (x : ArrivalSeen). HasCome x (b ++ [])) (sym takes.1) (subst (λ (l : List ℕ). HasCome r l) (sym (append-nil b)) come), subst (λ (x : ArrivalSeen). IsBefore x) (sym takes.1) before)
parts_come (p ∷ ps) admission after r next b takes come before =
    let mid = parts_come ps takes.let_in after takes.mid next (b ++ p) takes.goes_on (takes.takes.fed.goes_on b come).come (takes.takes.before b come before) in
    (subst (λ (l : List ℕ). HasCome next l) (append_assoc b p (joined ps)) mid.0, mid.1)

pub takings_come : TakingsCome
takings_come used admission after r next piece b first come before =
    let all = parts_come first.parts admission after r next b first.takes come before in
    (subst (λ (l : List ℕ). HasCome next (b ++ l)) first.bytes all.0, all.1)

-- What comes after the first bytes.
pub joins : (used status count : ℕ) (admission let_in after : AdmissionSeen) (r mid next : ArrivalSeen) (piece : List ℕ) → TakesFirst used admission r piece let_in mid → FeedsFront let_in mid (drop used piece) status count after next → FeedsFront admission r piece status (used + count) after next
joins used status count admission let_in after r mid next piece first (inl h) = inl (record {
  takes = first_both used count admission let_in after r mid next piece first h.takes;
  all = omega (arith, h.all, first.within, length-drop used piece);
  ended = h.ended;
  tells = h.tells;
  status_is = h.status_is;
})
joins used status count admission let_in after r mid next piece first (inr (inl h)) = inr (inl (record {
  takes = first_both used count admission let_in after r mid next piece first h.takes;
  due = subst (λ (x : List ℕ). IsDueAt next x) (drop-drop count used piece) h.due;
  digests = λ b come before.
      let here = takings_come used admission let_in r mid piece b first come before in
      h.digests (b ++ take used piece) here.0 here.1 ∙ append_assoc b (take used piece) (take count (drop used piece)) ∙ ap (λ (x : List ℕ). b ++ x) (sym (take-add used count piece));
  status_is = h.status_is;
}))
joins used status count admission let_in after r mid next piece first (inr (inr h)) = inr (inr (record {
  before = used + h.before;
  let_in = h.let_in;
  mid = h.mid;
  takes = first_both used h.before admission let_in h.let_in r mid h.mid piece first h.takes;
  part = h.part;
  more = h.more;
  rest = sym (drop-drop h.before used piece) ∙ h.rest;
  refuses = h.refuses;
}))

-- A stream that was refused before.
denied_first : (o : Option ℕ) (status : ℕ) → refused_before o ≡ Some status → (first : ℕ) × (o ≡ Some first) × (Some (stream_status AlreadyFailed) ≡ Some status)
denied_first (Some first) status is = (first, refl, is)
denied_first None status is = cc

pub was_refused : (admission : AdmissionSeen) (r : ArrivalSeen) (piece : List ℕ) (status used : ℕ) → refused_before (first_refusal admission) ≡ Some status → FeedsFront admission r piece status used admission r
was_refused (Denied first) r piece status used is = inr (inr (record {
  before = 0;
  let_in = Denied first;
  mid = r;
  takes = none_first (Denied first) r piece;
  part = piece;
  more = [];
  rest = sym (append-nil piece);
  refuses = inr (record { denied = (sym is, refl); same = refl });
}))
was_refused (Granted pages shapes) r piece status used is = cc
was_refused (Pending allowed expected held) r piece status used is = cc

-- A part that is refused after the first bytes.
pub refused_after : (used status count : ℕ) (admission let_in after : AdmissionSeen) (r mid next : ArrivalSeen) (piece part more : List ℕ) → TakesFirst used admission r piece let_in mid → drop used piece ≡ part ++ more → RefusesPart let_in mid part status after next → FeedsFront admission r piece status count after next
refused_after used status count admission let_in after r mid next piece part more first rest refuses =
    inr (inr (record { before = used; let_in = let_in; mid = mid; takes = first; part = part; more = more; rest = rest; refuses = refuses }))

-- The record of the digest begins with the first of more bytes.
due_longer : (a : ArrivalSeen) (bytes more : List ℕ) → IsDueAt a bytes → IsDueAt a (bytes ++ more)
due_longer (AtHead ram place held) bytes more due = due
due_longer (AtBody r) bytes more due = record { reads = due.reads; goes_on = due.goes_on; more = due.more ++ more; begins = sym (append_assoc r.held bytes more) ∙ ap (λ (x : List ℕ). x ++ more) due.begins }
due_longer Refused bytes more due = due
due_longer (Over r) bytes more due = record { reads = due.reads; goes_on = due.goes_on; more = due.more ++ more; begins = sym (append_assoc r.held bytes more) ∙ ap (λ (x : List ℕ). x ++ more) due.begins }

pub due_after : (used : ℕ) (admission after : AdmissionSeen) (r next : ArrivalSeen) (piece byte : List ℕ) → TakesFirst used admission r piece after next → byte ≡ take 1 (drop used piece) → IsDueAt next byte
    → ((b : List ℕ) → HasCome next b → IsBefore next → digested next ≡ b) → FeedsFront admission r piece 83 used after next
due_after used admission after r next piece byte first is due digests =
    let longer : IsDueAt next (take 1 (drop used piece) ++ drop 1 (drop used piece)) = due_longer next (take 1 (drop used piece)) (drop 1 (drop used piece)) (subst (λ (x : List ℕ). IsDueAt next x) is due) in
    inr (inl (record { takes = first; due = subst (λ (x : List ℕ). IsDueAt next x) (take-append-drop 1 (drop used piece)) longer; digests = λ b come before. (let here = takings_come used admission after r next piece b first come before in digests (b ++ take used piece) here.0 here.1); status_is = refl }))

-- After the header.
pub at_once : (admission : AdmissionSeen) (r : ArrivalSeen) (rest : List ℕ) → IsDueAt r rest → ((b : List ℕ) → HasCome r b → IsBefore r → digested r ≡ b) → FeedsFront admission r rest 83 0 admission r
at_once admission r rest due digests = inr (inl (record { takes = none_first admission r rest; due = due; digests = λ b come before. digests b come before ∙ sym (append-nil b); status_is = refl }))

pub none_left : (admission : AdmissionSeen) (r : ArrivalSeen) (rest : List ℕ) (ended : Bool) (status : ℕ) → rest ≡ [] → TellsWhole r ended → status ≡ taken_status ended → FeedsFront admission r rest status 0 admission r
none_left admission r rest ended status none tells is = inl (record { takes = none_first admission r rest; all = sym (ap (λ (x : List ℕ). length x) none); ended = ended; tells = tells; status_is = is })

granted : (admission : AdmissionSeen) (rest part : List ℕ) → first_refusal admission ≡ None → (IsPending admission → rest ≡ []) → ¬ (rest ≡ []) → Admits admission part None admission
granted (Granted pages shapes) rest part fine pending some = (refl, refl)
granted (Pending allowed expected held) rest part fine pending some = absurd (some (pending tt))
granted (Denied first) rest part fine pending some = cc

pub some_taken : (admission : AdmissionSeen) (r next : ArrivalSeen) (rest : List ℕ) (fed : Fed) → IsPast admission r rest → ¬ (rest ≡ []) → DueAfter r rest fed next → TakesFirst fed.used admission r rest admission next
some_taken admission r next rest fed past some h =
    one_first fed.used admission admission r next rest h.within (record { admitted = granted admission rest (take fed.used rest) past.fine past.granted some; fed = h.is_fed; before = h.before })

pub to_digest : (admission : AdmissionSeen) (r next : ArrivalSeen) (rest : List ℕ) (fed : Fed) → IsPast admission r rest → ¬ (rest ≡ []) → DueAfter r rest fed next → fed.is_due ≡ true → FeedsFront admission r rest 83 fed.used admission next
to_digest admission r next rest fed past some h due = inr (inl (record { takes = some_taken admission r next rest fed past some h; due = h.due due; digests = h.digests due; status_is = refl }))

pub to_end : (admission : AdmissionSeen) (r next : ArrivalSeen) (rest : List ℕ) (fed : Fed) (ended : Bool) (status : ℕ) → IsPast admission r rest → ¬ (rest ≡ []) → DueAfter r rest fed next → fed.is_due ≡ false → TellsWhole next ended → status ≡ taken_status ended
    → FeedsFront admission r rest status fed.used admission next
to_end admission r next rest fed ended status past some h not tells is = inl (record { takes = some_taken admission r next rest fed past some h; all = h.all not; ended = ended; tells = tells; status_is = is })

pub to_refusal : (admission after : AdmissionSeen) (r next : ArrivalSeen) (rest : List ℕ) (error : RecvError) (status count : ℕ) → IsPast admission r rest → ¬ (rest ≡ []) → TellsOf r rest error × IsClosed r next → RefusesUntouched r rest error next → status ≡ stream_status error → after ≡ Denied status
    → FeedsFront admission r rest status count after next
to_refusal admission after r next rest error status count past some why untouched is denied =
    refused_after 0 status count admission admission after r r next rest rest [] (none_first admission r rest) (sym (append-nil rest))
    (inl (record { let_in = admission; admitted = granted admission rest rest past.fine past.granted some; error = error; why = why.0; untouched = untouched; status_is = is; failed = why.1; denied = denied }))

pub some_left : (l : List ℕ) → ¬ (length l ≡ 0) → ¬ (l ≡ [])
some_left l some none = some (ap (λ (x : List ℕ). length x) none)

-- What was let in was not refused.
pub admitted_fine : (admission after : AdmissionSeen) (part : List ℕ) → Admits admission part None after → first_refusal after ≡ None
admitted_fine (Granted pages shapes) after part h = ap first_refusal h.1
admitted_fine (Denied first) after part h = cc
admitted_fine (Pending allowed expected held) (Granted pages shapes) part h = refl
admitted_fine (Pending allowed expected held) (Pending kept shapes bytes) part h = refl
admitted_fine (Pending allowed expected held) (Denied first) part h = absurd h

-- The record that closes the stream was refused.
pub closed_badly : (admission let_in after : AdmissionSeen) (r next : ArrivalSeen) (digest piece : List ℕ) (status : ℕ) (error : RecvError) (told : Option ℕ) → told ≡ None → Admits admission piece told let_in → MeetsRecordAt r digest piece (Err error)
    → (digest ≡ sha256 (digested r) → ClosesRight r piece (Err error) next) → IsClosed r next → status ≡ stream_status error → after ≡ Denied status → ClosesTold admission r digest piece status after next
closed_badly admission let_in after r next digest piece status error told none admits meets right closed is denied =
    let admitted : Admits admission piece None let_in = subst (λ (o : Option ℕ). Admits admission piece o let_in) none admits in
    record {
      right = λ same.
          let c : ClosesRight r piece (Err error) next = right same in
          inr (inl (record { let_in = let_in; admitted = admitted; error = error; why = c.refused.0; untouched = c.untouched; status_is = is; failed = closed; denied = denied }));
      any = inl (record { let_in = let_in; admitted = admitted; compared = inr (record { error = error; meets = meets; status_is = is; closed = closed; denied = denied }) });
    }
