-- The segments of a chain while descriptors are added one by one.
use Rattle.std.proofs.Common.{Bool, true, false, ◌≡◌, ℕ, zero, suc, ◌+◌, ◌<◌, List, [], ◌∷◌, ◌++◌, length, get_or, map, refl, ap, sym, ◌∙◌, arith, length-append, append-nil}
use Rattle.std.specs.Prelude.{filter, not, sum}
use Rattle.std.proofs.lemmas.Bool.{true_from_ne_false}
use Rattle.std.proofs.lemmas.List.{map-append, nil_from_length}
use Rattle.std.proofs.lemmas.List.Elements.{All-push, filter-append}
use Rattle.std.proofs.lemmas.List.Sums.{sum_by_push, sum-map}
use Rattle.guestmem.specs.Address.{IsWithin}
use Rattle.chains.specs.declared.descriptor.Descriptor.{Descriptor}
use Rattle.chains.specs.declared.chain.Chain.{Chain}
use Rattle.chains.proofs.PlaceLaws.{length_places_push}
use Rattle.chains.specs.Whole.{IsInOrder, segment, readable_of, writable_of}
use Rattle.chains.specs.Held.{AreSound, AreHeld}

readable_push : (ds : List Descriptor) (d : Descriptor) → readable_of (ds ++ d ∷ []) ≡ readable_of ds ++ readable_of (d ∷ [])
readable_push ds d = ap (map segment) (filter-append (λ (x : Descriptor). not x.is_writable) ds (d ∷ [])) ∙ map-append segment (filter (λ (x : Descriptor). not x.is_writable) ds) (filter (λ (x : Descriptor). not x.is_writable) (d ∷ []))

writable_push : (ds : List Descriptor) (d : Descriptor) → writable_of (ds ++ d ∷ []) ≡ writable_of ds ++ writable_of (d ∷ [])
writable_push ds d = ap (map segment) (filter-append (λ (x : Descriptor). x.is_writable) ds (d ∷ [])) ∙ map-append segment (filter (λ (x : Descriptor). x.is_writable) ds) (filter (λ (x : Descriptor). x.is_writable) (d ∷ []))

total_push : (ds : List Descriptor) (d : Descriptor) → sum (map (λ (x : Descriptor). x.len) (ds ++ d ∷ [])) ≡ sum (map (λ (x : Descriptor). x.len) ds) + d.len
total_push ds d =
    let e = sum-map (λ (x : Descriptor). x.len) (ds ++ d ∷ []) in
    let f = sum-map (λ (x : Descriptor). x.len) ds in
    let g = sum_by_push (λ (x : Descriptor). x.len) ds d in
    omega arith

-- Behind a writable descriptor there are segments to write.
none_writable : (d : Descriptor) (ds : List Descriptor) → writable_of (d ∷ ds) ≡ [] → d.is_writable ≡ true → ⊥
none_writable d ds none is =
    let some : length (writable_of (d ∷ ds)) ≡ suc (length (writable_of ds)) = rw is refl in
    omega (arith, ap length none)

none_behind_by : (wants : Bool) (d : Descriptor) (ds : List Descriptor) → d.is_writable ≡ wants → writable_of (d ∷ ds) ≡ [] → writable_of ds ≡ []
none_behind_by true d ds is none = absurd (none_writable d ds none is)
none_behind_by false d ds is none = rw is at none

none_behind : (d : Descriptor) (ds : List Descriptor) → writable_of (d ∷ ds) ≡ [] → writable_of ds ≡ []
none_behind d ds none = none_behind_by d.is_writable d ds refl none

order_behind : (d : Descriptor) (ds : List Descriptor) → IsInOrder (d ∷ ds) → IsInOrder ds
order_behind d ds h = λ k e below w. let s : suc k + 1 ≡ suc (k + 1) = omega arith in rw s at (h (suc k) e (omega arith) w)

first_more : (x : Descriptor) (xs : List Descriptor) (d e : Descriptor) → IsInOrder (x ∷ xs) → (d.is_writable ≡ false → writable_of (x ∷ xs) ≡ []) → x.is_writable ≡ true
    → (get_or (xs ++ d ∷ []) 0 e).is_writable ≡ true
first_more x [] d e h after w = true_from_ne_false d.is_writable (λ r. none_writable x [] (after r) w)
first_more x (y ∷ ys) d e h after w = h 0 e (omega arith) w

-- One more descriptor is in order if it is writable, or there are none to write before it.
order_more : (ds : List Descriptor) (d : Descriptor) → IsInOrder ds → (d.is_writable ≡ false → writable_of ds ≡ []) → (k : ℕ) (e : Descriptor) → k + 1 < length (ds ++ d ∷ [])
    → (get_or (ds ++ d ∷ []) k e).is_writable ≡ true → (get_or (ds ++ d ∷ []) (k + 1) e).is_writable ≡ true
order_more [] d h after k e below w = absurd (omega arith)
order_more (x ∷ xs) d h after zero e below w = first_more x xs d e h after w
order_more (x ∷ xs) d h after (suc k) e below w =
    let s : suc k + 1 ≡ suc (k + 1) = omega arith in
    rw s (order_more xs d (order_behind x xs h) (λ r. none_behind x xs (after r)) k e (omega arith) w)

next_writable : (x : Descriptor) (xs : List Descriptor) (d : Descriptor) (rest : List Descriptor) → IsInOrder (x ∷ (xs ++ d ∷ rest)) → x.is_writable ≡ true → d.is_writable ≡ false → writable_of xs ≡ [] → ⊥
next_writable x [] d rest h w r none = let here : d.is_writable ≡ true = h 0 x (omega arith) w in absurd (cc)
next_writable x (y ∷ ys) d rest h w r none = none_writable y ys none (h 0 x (omega arith) w)

none_here : (x : Descriptor) (xs : List Descriptor) (d : Descriptor) (rest : List Descriptor) (wants : Bool) → x.is_writable ≡ wants → IsInOrder (x ∷ (xs ++ d ∷ rest)) → d.is_writable ≡ false → writable_of xs ≡ []
    → writable_of (x ∷ xs) ≡ []
none_here x xs d rest true is h r none = absurd (next_writable x xs d rest h is r none)
none_here x xs d rest false is h r none = rw is none

-- Before a readable descriptor there are none to write.
none_before : (ds : List Descriptor) (d : Descriptor) (rest : List Descriptor) → IsInOrder (ds ++ d ∷ rest) → d.is_writable ≡ false → writable_of ds ≡ []
none_before [] d rest h r = refl
none_before (x ∷ xs) d rest h r = none_here x xs d rest x.is_writable refl h r (none_before xs d rest (order_behind x (xs ++ d ∷ rest) h) r)

sound_more : (base len : ℕ) (ds : List Descriptor) (d : Descriptor) → AreSound base len ds → IsWithin base len d.addr d.len → (d.is_writable ≡ false → writable_of ds ≡ []) → AreSound base len (ds ++ d ∷ [])
sound_more base len ds d s inside after = record {
  inside = All-push (λ (x : Descriptor). IsWithin base len x.addr x.len) ds d s.inside inside;
  in_order = λ k e below w. order_more ds d s.in_order after k e below w;
}

-- A writable descriptor more.
pub held_writable : (base len : ℕ) (ds : List Descriptor) (d : Descriptor) (old new : Chain) → AreHeld base len ds old → IsWithin base len d.addr d.len → d.is_writable ≡ true
    → new.readable ≡ old.readable → new.writable ≡ old.writable ++ segment d ∷ [] → AreHeld base len (ds ++ d ∷ []) new
held_writable base len ds d old new h inside is readable writable =
    let push = length_places_push old.writable (segment d) in
    record {
      sound = sound_more base len ds d h.sound inside (λ r. absurd (cc));
      readable = readable ∙ h.readable ∙ rw (readable_push, is, append-nil) refl;
      writable = writable ∙ rw (writable_push, is, h.writable) refl;
      count = rw (readable, writable) (omega (arith, length-append old.writable (segment d ∷ []), length-append ds (d ∷ []), h.count));
      total = rw (readable, writable) (omega (arith, push, total_push ds d, h.total));
    }

-- A readable one more, where there are none to write.
pub held_readable : (base len : ℕ) (ds : List Descriptor) (d : Descriptor) (old new : Chain) → AreHeld base len ds old → IsWithin base len d.addr d.len → d.is_writable ≡ false → length old.writable ≡ 0
    → new.readable ≡ old.readable ++ segment d ∷ [] → new.writable ≡ old.writable → AreHeld base len (ds ++ d ∷ []) new
held_readable base len ds d old new h inside is none readable writable =
    let push = length_places_push old.readable (segment d) in
    record {
      sound = sound_more base len ds d h.sound inside (λ r. sym h.writable ∙ nil_from_length old.writable none);
      readable = readable ∙ rw (readable_push, is, h.readable) refl;
      writable = writable ∙ h.writable ∙ rw (writable_push, is, append-nil) refl;
      count = rw (readable, writable) (omega (arith, length-append old.readable (segment d ∷ []), length-append ds (d ∷ []), h.count));
      total = rw (readable, writable) (omega (arith, push, total_push ds d, h.total));
    }

-- What begins with a readable descriptor behind one to write breaks a rule.
pub out_of_order : (base len : ℕ) (ds : List Descriptor) (d : Descriptor) (old : Chain) → AreHeld base len ds old → d.is_writable ≡ false → (length old.writable ≡ 0 → ⊥)
    → (rest : List Descriptor) → AreSound base len (ds ++ d ∷ rest) → ⊥
out_of_order base len ds d old h is some rest s = some (ap length (h.writable ∙ none_before ds d rest s.in_order is))
