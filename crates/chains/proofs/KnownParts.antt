-- Parts of the bytes of segments, that are read one by one.
use Rattle.std.specs.Prelude.{◌≡◌, ℕ, zero, suc, ◌+◌, ◌-◌, ◌<◌, ◌≤◌, ◌⊎◌, min, List, [], ◌∷◌, ◌++◌, length, take, drop, refl}
use Rattle.std.proofs.Common.{ap, sym, subst, ◌∙◌, arith, append_assoc, inl, inr}
use Rattle.std.proofs.lemmas.Bool.{cases_lt}
use Rattle.std.proofs.lemmas.List.{append-nil}
use Rattle.std.proofs.Math.Seq.{drop-append-add, take-append-add}
use Rattle.guestmem.specs.Address.{index_of}
use Rattle.chains.specs.declared.lacking.Piece.{Piece}
use Rattle.chains.specs.declared.segs.Seg.{Seg}
use Rattle.chains.specs.Footprint.{AgreeAt, AgreeOn, Knows, KnowsPiece, place_pieces}
use Rattle.chains.specs.Places.{addresses, places}
use Rattle.chains.proofs.PlaceLaws.{addresses_add, length_addresses}

-- The bytes at places that are read one by one.
pub places_agree : (base : ℕ) (a b : List ℕ) (address count : ℕ) → base ≤ address → AgreeAt a b (record { at = index_of base address; count = count }) → AgreeOn a b (place_pieces base (addresses address count))
places_agree base a b address zero above h = tt
places_agree base a b address (suc count) above h =
    let here : AgreeAt a b (record { at = index_of base address; count = 1 }) = λ k below. h k (omega (arith, below)) in
    let shifted : AgreeAt a b (record { at = index_of base (address + 1); count = count }) = λ k below.
    let at : index_of base address + suc k ≡ index_of base (address + 1) + k = omega (arith, above) in
    rw at at (h (suc k) (omega (arith, below))) in
    (here, places_agree base a b (address + 1) count (omega (arith, above)) shifted)

places_both : (base : ℕ) (a b xs ys : List ℕ) → AgreeOn a b (place_pieces base xs) → AgreeOn a b (place_pieces base ys) → AgreeOn a b (place_pieces base (xs ++ ys))
places_both base a b [] ys h k = k
places_both base a b (x ∷ xs) ys h k = (h.0, places_both base a b xs ys h.1 k)

-- The first bytes of a list behind others.
past : (a n skip : ℕ) (ys : List ℕ) → n ≤ skip → drop skip (addresses a n ++ ys) ≡ drop (skip - n) ys
past a n skip ys more =
    let long = length_addresses a n in
    let is : skip ≡ length (addresses a n) + (skip - n) = omega (arith, more, long) in
    subst (λ (s : ℕ). drop s (addresses a n ++ ys) ≡ drop (skip - n) ys) (sym is) (drop-append-add (addresses a n) ys (skip - n))

within : (a n skip : ℕ) (ys : List ℕ) → skip ≤ n → drop skip (addresses a n ++ ys) ≡ addresses (a + skip) (n - skip) ++ ys
within a n skip ys few =
    let is : n ≡ skip + (n - skip) = omega (arith, few) in
    let long = length_addresses a skip in
    let same : skip ≡ length (addresses a skip) + 0 = omega (arith, long) in
    let split : addresses a n ≡ addresses a skip ++ addresses (a + skip) (n - skip) = ap (addresses a) is ∙ addresses_add a skip (n - skip) in
    let spread : addresses a n ++ ys ≡ addresses a skip ++ (addresses (a + skip) (n - skip) ++ ys) = ap (λ (xs : List ℕ). xs ++ ys) split ∙ append_assoc (addresses a skip) (addresses (a + skip) (n - skip)) ys in
    ap (drop skip) spread ∙ subst (λ (s : ℕ). drop s (addresses a skip ++ (addresses (a + skip) (n - skip) ++ ys)) ≡ addresses (a + skip) (n - skip) ++ ys) (sym same) (drop-append-add (addresses a skip) (addresses (a + skip) (n - skip) ++ ys) 0)

front : (a n left : ℕ) (ys : List ℕ) → left ≤ n → take left (addresses a n ++ ys) ≡ addresses a left
front a n left ys few =
    let is : n ≡ left + (n - left) = omega (arith, few) in
    let long = length_addresses a left in
    let same : left ≡ length (addresses a left) + 0 = omega (arith, long) in
    let split : addresses a n ≡ addresses a left ++ addresses (a + left) (n - left) = ap (addresses a) is ∙ addresses_add a left (n - left) in
    let spread : addresses a n ++ ys ≡ addresses a left ++ (addresses (a + left) (n - left) ++ ys) = ap (λ (xs : List ℕ). xs ++ ys) split ∙ append_assoc (addresses a left) (addresses (a + left) (n - left)) ys in
    let taken = subst (λ (s : ℕ). take s (addresses a left ++ (addresses (a + left) (n - left) ++ ys)) ≡ addresses a left ++ []) (sym same) (take-append-add (addresses a left) (addresses (a + left) (n - left) ++ ys) 0) in
    ap (take left) spread ∙ taken ∙ append-nil (addresses a left)

whole : (a n left : ℕ) (ys : List ℕ) → n ≤ left → take left (addresses a n ++ ys) ≡ addresses a n ++ take (left - n) ys
whole a n left ys more =
    let long = length_addresses a n in
    let is : left ≡ length (addresses a n) + (left - n) = omega (arith, more, long) in
    subst (λ (s : ℕ). take s (addresses a n ++ ys) ≡ addresses a n ++ take (left - n) ys) (sym is) (take-append-add (addresses a n) ys (left - n))

cases_from : (m n : ℕ) → (m ≤ n) ⊎ (n < m)
cases_from m n = elim (cases_lt n m) as (λ _. (m ≤ n) ⊎ (n < m)) [ inl more ↦ inr more | inr few ↦ inl few ]

-- What is left of a part behind one segment, and the part of it in that segment.
part_by : (base : ℕ) (a b : List ℕ) (seg : Seg) (rest : List Seg) (skip left : ℕ) (behind : (seg.len ≤ skip) ⊎ (skip < seg.len)) (short : (left ≤ seg.len - skip) ⊎ (seg.len - skip < left)) → base ≤ seg.addr
    → AgreeAt a b (record { at = index_of base seg.addr + min skip seg.len; count = min left (seg.len - skip) })
    → AgreeOn a b (place_pieces base (take (left - min left (seg.len - skip)) (drop (skip - seg.len) (places rest)))) → AgreeOn a b (place_pieces base (take left (drop skip (places (seg ∷ rest)))))
part_by base a b seg rest skip left (inl past_it) short above here rest_known =
    let is = past seg.addr seg.len skip (places rest) past_it in
    let count : left - min left (seg.len - skip) ≡ left = omega (arith, past_it) in
    let known : AgreeOn a b (place_pieces base (take left (drop (skip - seg.len) (places rest)))) = rw count at rest_known in
    rw is known
part_by base a b seg rest skip left (inr inside) (inl few) above here rest_known =
    let is = within seg.addr seg.len skip (places rest) (omega (arith, inside)) in
    let taken = front (seg.addr + skip) (seg.len - skip) left (places rest) few in
    let at : index_of base seg.addr + min skip seg.len ≡ index_of base (seg.addr + skip) = omega (arith, above, inside) in
    let count : min left (seg.len - skip) ≡ left = omega (arith, few) in
    let known : AgreeAt a b (record { at = index_of base (seg.addr + skip); count = left }) = rw (at, count) at here in
    rw (is, taken) (places_agree base a b (seg.addr + skip) left (omega (arith, above)) known)
part_by base a b seg rest skip left (inr inside) (inr more) above here rest_known =
    let is = within seg.addr seg.len skip (places rest) (omega (arith, inside)) in
    let taken = whole (seg.addr + skip) (seg.len - skip) left (places rest) (omega (arith, more)) in
    let at : index_of base seg.addr + min skip seg.len ≡ index_of base (seg.addr + skip) = omega (arith, above, inside) in
    let count : min left (seg.len - skip) ≡ seg.len - skip = omega (arith, more) in
    let none : skip - seg.len ≡ 0 = omega (arith, inside) in
    let known : AgreeAt a b (record { at = index_of base (seg.addr + skip); count = seg.len - skip }) = rw (at, count) at here in
    let behind : AgreeOn a b (place_pieces base (take (left - (seg.len - skip)) (places rest))) = rw (count, none) at rest_known in
    rw (is, taken) (places_both base a b (addresses (seg.addr + skip) (seg.len - skip)) (take (left - (seg.len - skip)) (places rest)) (places_agree base a b (seg.addr + skip) (seg.len - skip) (omega (arith, above)) known) behind)

pub part_known : (held : List Piece) (ram : List ℕ) (base : ℕ) (seg : Seg) (rest : List Seg) (skip left : ℕ) (piece : Piece) → base ≤ seg.addr → piece.at ≡ index_of base seg.addr + min skip seg.len → piece.count ≡ min left (seg.len - skip) → KnowsPiece held piece
    → Knows held ram (place_pieces base (take (left - piece.count) (drop (skip - seg.len) (places rest)))) → Knows held ram (place_pieces base (take left (drop skip (places (seg ∷ rest)))))
part_known held ram base seg rest skip left piece above at count known rest_known b h =
    let here : AgreeAt ram b (record { at = index_of base seg.addr + min skip seg.len; count = min left (seg.len - skip) }) = rw (at, count) at (known ram b h) in
    part_by base ram b seg rest skip left (cases_from seg.len skip) (cases_from left (seg.len - skip)) above here (rw count at (rest_known b h))

none_behind : (i : ℕ) (segs : List Seg) → length segs ≤ i → drop i segs ≡ []
none_behind zero [] few = refl
none_behind (suc i) [] few = refl
none_behind zero (s ∷ segs) few = absurd (omega (arith, few))
none_behind (suc i) (s ∷ segs) few = none_behind i segs (omega (arith, few))

no_places : (skip left : ℕ) → take left (drop skip (places [])) ≡ []
no_places zero zero = refl
no_places zero (suc left) = refl
no_places (suc skip) zero = refl
no_places (suc skip) (suc left) = refl

pub none_left : (held : List Piece) (ram : List ℕ) (base skip left i : ℕ) (segs : List Seg) → length segs ≤ i → Knows held ram (place_pieces base (take left (drop skip (places (drop i segs)))))
none_left held ram base skip left i segs few = λ b h.
    let none = none_behind i segs few in
    let empty = no_places skip left in
    rw (none, empty) tt
