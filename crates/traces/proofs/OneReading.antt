-- Each text is read in one way.
use Rattle.std.proofs.Common.{◌≡◌, ◌≤◌, ℕ, List, ◌++◌, zero, suc, [], ◌∷◌, take, drop, map, Option, None, Some, inl, inr, refl, sym, ap, ◌∙◌, arith, append_assoc}
use Rattle.std.proofs.lemmas.List.{take-append-drop}
use Rattle.machine.specs.declared.event.Event.{Event}
use Rattle.traces.specs.Lines.{lines_of}
use Rattle.traces.specs.Trace.{Contents, AreSomeTrace, AreSomeEvents, AreBeginning, IsFirstBad, guest_line}
use Rattle.traces.specs.Reading.{Said}
use Rattle.traces.specs.Laws.{HoldsOneTrace, IsTraceOrRefused, HasOneFirstBad, HoldsOneList, AreEventsOrRefused, HasOneFirstBadEvent}
use Rattle.traces.proofs.Whole.{reads}

known : Option ℕ → ℕ
known None = 0
known (Some pages) = pages

contents : ℕ → Said → Contents
contents begin_line said = record { pages = known said.pages; shapes = said.shapes; events = said.events; begin_line = begin_line }

same_said : (x y : Said) → Some x ≡ Some y → x ≡ y
same_said x y h = cc

pub one_trace : (text : List ℕ) → HoldsOneTrace text
unfolding contents known
one_trace text a b h k =
    let both = sym (reads (lines_of text) a h) ∙ reads (lines_of text) b k in
    let begins : a.begin_line ≡ b.begin_line = h.begins_there ∙ sym k.begins_there in
    ap (contents a.begin_line) (same_said _ _ both) ∙ ap (λ (n : ℕ). record b { begin_line = n }) begins

same_events : (xs ys : List Event) → map guest_line xs ≡ map guest_line ys → xs ≡ ys
same_events [] [] e = refl
same_events [] (y ∷ ys) e = cc
same_events (x ∷ xs) [] e = cc
same_events (x ∷ xs) (y ∷ ys) e =
    let first : x ≡ y = cc in
    let others : map guest_line xs ≡ map guest_line ys = cc in
    rw (first, same_events xs ys others) refl

pub one_list : (text : List ℕ) → HoldsOneList text
one_list text a b h k = same_events a b (let both = sym h ∙ k in cc)

-- what good lines begin with, also begins good lines
begins_good : (AreGood : List (List ℕ) → Type 0) (lines : List (List ℕ)) (n : ℕ) → AreGood lines → AreBeginning AreGood (take n lines)
begins_good AreGood lines n h = record { others = drop n lines; good = rw take-append-drop h }

begins_beginning : (AreGood : List (List ℕ) → Type 0) (lines : List (List ℕ)) (n : ℕ) → AreBeginning AreGood lines → AreBeginning AreGood (take n lines)
begins_beginning AreGood lines n h =
    let same : take n lines ++ (drop n lines ++ h.others) ≡ lines ++ h.others = rw (← append_assoc (take n lines) (drop n lines) h.others, take-append-drop) refl in
    record { others = drop n lines ++ h.others; good = rw same h.good }

pub no_bad_line : (text : List ℕ) → IsTraceOrRefused text
no_bad_line text c n h (inl bad) = bad.bad (begins_good AreSomeTrace (lines_of text) n (c, h))
no_bad_line text c n h (inr missing) = missing.part c h

pub no_other_line : (text : List ℕ) → AreEventsOrRefused text
no_other_line text events n h bad = bad.bad (begins_good AreSomeEvents (lines_of text) n (events, h))

takes : {A : Type 0} (n m : ℕ) (xs : List A) → n ≤ m → take n (take m xs) ≡ take n xs
takes zero m xs le = refl
takes (suc n) zero xs le = absurd (omega arith)
takes (suc n) (suc m) [] le = refl
takes (suc n) (suc m) (x ∷ xs) le = rw (takes n m xs (omega arith)) refl

none_before : (AreGood : List (List ℕ) → Type 0) (lines : List (List ℕ)) (n m : ℕ) → IsFirstBad AreGood lines n → AreBeginning AreGood (take m lines) → n ≤ m → ⊥
none_before AreGood lines n m bad h le = bad.bad (rw (takes n m lines le) at (begins_beginning AreGood (take m lines) n h))

one_first : (AreGood : List (List ℕ) → Type 0) (lines : List (List ℕ)) (n m : ℕ) → IsFirstBad AreGood lines n → IsFirstBad AreGood lines m → n ≡ m
one_first AreGood lines n m h k =
    let first : n ≤ k.before → ⊥ = none_before AreGood lines n k.before h k.good in
    let second : m ≤ h.before → ⊥ = none_before AreGood lines m h.before k h.good in
    omega (arith, first, second, h.number, k.number)

pub one_line : (text : List ℕ) → HasOneFirstBad text
one_line text n m (inl h) (inl k) = one_first AreSomeTrace (lines_of text) n m h k
one_line text n m (inl h) (inr k) = absurd (h.bad (begins_beginning AreSomeTrace (lines_of text) n k.good))
one_line text n m (inr h) (inl k) = absurd (k.bad (begins_beginning AreSomeTrace (lines_of text) m h.good))
one_line text n m (inr h) (inr k) = h.number ∙ sym k.number

pub one_other_line : (text : List ℕ) → HasOneFirstBadEvent text
one_other_line text n m h k = one_first AreSomeEvents (lines_of text) n m h k
