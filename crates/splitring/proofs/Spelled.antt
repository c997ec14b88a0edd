-- Lists whose last descriptor may be replaced.
use Rattle.std.proofs.Common.{Bool, true, false, ◌≡◌, ℕ, ◌/◌, ◌<◌, ◌≤◌, List, [], ◌∷◌, ◌++◌, length, get_or, inl, inr, ◌⊎◌, refl, ap, sym, ◌∙◌, arith, append_assoc, length-append}
use Rattle.std.specs.Bool.{MatchBool}
use Rattle.std.proofs.lemmas.List.{get_or_at, get_or_append_left}
use Rattle.std.proofs.lemmas.List.Elements.{All-same}
use Rattle.guestmem.specs.Address.{index_of}
use Rattle.chains.specs.declared.descriptor.Descriptor.{Descriptor}
use Rattle.chains.specs.Whole.{ArePlain}
use Rattle.chains.specs.SplitChain.{IsFromTable, IsReplaced}
use Rattle.chains.proofs.SplitLaws.{linked_some}
use Rattle.splitring.specs.Walk.{IsSpelled}

parts_more : (f x : Descriptor) (front ds : List Descriptor) (last d : Descriptor) (rest : List Descriptor) → f ≡ x
    → ((more : List Descriptor) × (front ≡ ds ++ d ∷ more)) ⊎ ((front ≡ ds) × (last ≡ d) × (rest ≡ []))
    → ((more : List Descriptor) × (f ∷ front ≡ x ∷ ds ++ d ∷ more)) ⊎ ((f ∷ front ≡ x ∷ ds) × (last ≡ d) × (rest ≡ []))
parts_more f x front ds last d rest same (inl (more, e)) = inl (more, cc)
parts_more f x front ds last d rest same (inr (e, is, none)) = inr (cc, is, none)

-- A list that ends with `last`, and begins with others and `d`: `d` is before the last, or it is the last.
parts_at : (front ds : List Descriptor) (last d : Descriptor) (rest : List Descriptor) → front ++ last ∷ [] ≡ ds ++ d ∷ rest
    → ((more : List Descriptor) × (front ≡ ds ++ d ∷ more)) ⊎ ((front ≡ ds) × (last ≡ d) × (rest ≡ []))
parts_at [] [] last d rest e = inr (refl, cc, cc)
parts_at [] (x ∷ xs) last d rest e = absurd (omega (arith, ap length e, length-append xs (d ∷ rest)))
parts_at (f ∷ front) [] last d rest e = let first : f ≡ d = cc in inl (front, ap (λ (y : Descriptor). y ∷ front) first)
parts_at (f ∷ front) (x ∷ xs) last d rest e = parts_more f x front xs last d rest (cc) (parts_at front xs last d rest (cc))

spelled_by : (direct all ds : List Descriptor) (d : Descriptor) (rest : List Descriptor) (s : IsSpelled direct all) → d.is_indirect ≡ false
    → ((more : List Descriptor) × (s.front ≡ ds ++ d ∷ more)) ⊎ ((s.front ≡ ds) × (s.last ≡ d) × (rest ≡ [])) → (more : List Descriptor) × (all ≡ ds ++ d ∷ more)
spelled_by direct all ds d rest s plain (inl (more, e)) = (more ++ s.tail, s.is ∙ ap (λ (ys : List Descriptor). ys ++ s.tail) e ∙ append_assoc ds (d ∷ more) s.tail)
spelled_by direct all ds d rest s plain (inr (e, is, none)) =
    let tail : s.tail ≡ d ∷ [] = s.same (rw is plain) ∙ ap (λ (y : Descriptor). y ∷ []) is in
    ([], s.is ∙ cc)

-- What is replaced begins as the list, up to one that is not indirect.
pub spelled_at : (direct all ds : List Descriptor) (d : Descriptor) (rest : List Descriptor) → IsSpelled direct all → direct ≡ ds ++ d ∷ rest → d.is_indirect ≡ false
    → (more : List Descriptor) × (all ≡ ds ++ d ∷ more)
spelled_at direct all ds d rest s parts plain = spelled_by direct all ds d rest s plain (parts_at s.front ds s.last d rest (sym s.parts ∙ parts))

next_by : (direct all ds : List Descriptor) (d : Descriptor) (rest : List Descriptor) (s : IsSpelled direct all) → 1 ≤ length rest
    → ((more : List Descriptor) × (s.front ≡ ds ++ d ∷ more)) ⊎ ((s.front ≡ ds) × (s.last ≡ d) × (rest ≡ [])) → d.is_indirect ≡ false
next_by direct all ds d rest s some (inl (more, e)) =
    let below : length ds < length (ds ++ d ∷ more) = omega (arith, length-append ds (d ∷ more)) in
    let plain : ArePlain (ds ++ d ∷ more) = rw e at s.plain in
    rw (get_or_at ds d more d (length ds) refl) at (plain (length ds) d below)
next_by direct all ds d rest s some (inr (e, is, none)) = absurd (omega (arith, ap length none))

-- None of them but the last is indirect.
pub spelled_next : (direct all ds : List Descriptor) (d : Descriptor) (rest : List Descriptor) → IsSpelled direct all → direct ≡ ds ++ d ∷ rest → 1 ≤ length rest → d.is_indirect ≡ false
spelled_next direct all ds d rest s parts some = next_by direct all ds d rest s some (parts_at s.front ds s.last d rest (sym s.parts ∙ parts))

-- What is replaced is no shorter.
pub spelled_longer : (direct all : List Descriptor) → IsSpelled direct all → length direct ≤ length all
spelled_longer direct all s = omega (arith, ap length s.parts, length-append s.front (s.last ∷ []), ap length s.is, length-append s.front s.tail, s.some)

replaced_by : (base : ℕ) (ram : List ℕ) (has_indirect named : Bool) (direct all front : List Descriptor) (last : Descriptor) → last.is_indirect ≡ named → direct ≡ front ++ last ∷ [] → ArePlain front
    → MatchBool named ((has_indirect ≡ true) × IsFromTable base ram front last all) (all ≡ direct) → IsSpelled direct all
replaced_by base ram has_indirect true direct all front last named parts plain (p, t) = record {
  front = front;
  last = last;
  tail = t.inner;
  parts = parts;
  plain = plain;
  is = t.parts;
  some = linked_some ram (index_of base last.addr) (last.len / 16) 0 t.inner t.linked;
  same = λ r. absurd (cc);
}
replaced_by base ram has_indirect false direct all front last named parts plain same = record {
  front = front;
  last = last;
  tail = last ∷ [];
  parts = parts;
  plain = plain;
  is = same ∙ parts;
  some = omega arith;
  same = λ r. refl;
}

-- A list with its table in it.
pub spelled_replaced : (base : ℕ) (ram : List ℕ) (has_indirect : Bool) (direct all : List Descriptor) → IsReplaced base ram has_indirect direct all → IsSpelled direct all
spelled_replaced base ram has_indirect direct all r = replaced_by base ram has_indirect r.last.is_indirect direct all r.front r.last refl r.parts r.plain r.whole

last_of : (d : Descriptor) (ds : List Descriptor) → (front : List Descriptor) × (last : Descriptor) × (d ∷ ds ≡ front ++ last ∷ [])
last_of d [] = ([], d, refl)
last_of d (e ∷ es) = let r = last_of e es in (d ∷ r.0, r.1, ap (λ (ys : List Descriptor). d ∷ ys) r.2)

plain_front : (front : List Descriptor) (last : Descriptor) → ArePlain (front ++ last ∷ []) → (k : ℕ) (e : Descriptor) → k < length front → (get_or front k e).is_indirect ≡ false
plain_front front last all k e below = rw (get_or_append_left front (last ∷ []) e k below) at (all k e (omega (arith, length-append front (last ∷ []))))

-- A list of which none is indirect stands for itself.
pub spelled_plain : (ds : List Descriptor) → 1 ≤ length ds → ArePlain ds → IsSpelled ds ds
spelled_plain [] some plain = absurd (omega arith)
spelled_plain (d ∷ ds) some plain =
    let r = last_of d ds in
    let all : ArePlain (r.0 ++ r.1 ∷ []) = All-same (λ (x : Descriptor). x.is_indirect ≡ false) (r.0 ++ r.1 ∷ []) (d ∷ ds) (sym r.2) plain in
    record {
      front = r.0;
      last = r.1;
      tail = r.1 ∷ [];
      parts = r.2;
      plain = λ k e below. plain_front r.0 r.1 all k e below;
      is = r.2;
      some = omega arith;
      same = λ p. refl;
    }
