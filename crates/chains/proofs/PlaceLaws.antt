use Rattle.std.specs.Prelude.{◌≡◌, ℕ, zero, suc, ◌+◌, ◌≤◌, ◌<◌, List, [], ◌∷◌, ◌++◌, length, take, drop, sum_by, refl}
use Rattle.std.proofs.Common.{ap, sym, arith, length-append, append_assoc, add-zero, zero-add}
use Rattle.std.proofs.lemmas.List.{drop_more}
use Rattle.std.proofs.lemmas.List.Sums.{sum_by-cons}
use Rattle.guestmem.specs.Address.{index_of}
use Rattle.guestmem.specs.Writes.{Write, byte_writes}
use Rattle.chains.specs.declared.segs.Seg.{Seg}
use Rattle.chains.specs.Places.{addresses, places, read_places, place_writes}

-- `addresses` gives as many addresses as its count says.
pub length_addresses : (address count : ℕ) → length (addresses address count) ≡ count
length_addresses address zero = refl
length_addresses address (suc count) = ap suc (length_addresses (address + 1) count)

-- `front + back` addresses are the first `front` ones, followed by the other `back` ones.
pub addresses_add : (address front back : ℕ) → addresses address (front + back) ≡ addresses address front ++ addresses (address + front) back
addresses_add address zero back = rw (zero-add, add-zero) refl
addresses_add address (suc front) back =
    let e : suc front + back ≡ suc (front + back) = omega arith in
    let f : address + 1 + front ≡ address + suc front = omega arith in
    rw (e, addresses_add (address + 1) front back, f) refl

-- The places of two lists of segments, appended, are those of the first and then those of the second.
pub places_append : (xs ys : List Seg) → places (xs ++ ys) ≡ places xs ++ places ys
places_append [] ys = refl
places_append (x ∷ xs) ys = rw (places_append xs ys) (sym (append_assoc (addresses x.addr x.len) (places xs) (places ys)))

-- A segment more has its bytes more places.
pub length_places_push : (segs : List Seg) (seg : Seg) → length (places (segs ++ seg ∷ [])) ≡ length (places segs) + seg.len
length_places_push segs seg =
    let e = length-append (places segs) (addresses seg.addr seg.len ++ []) in
    let f = length-append (addresses seg.addr seg.len) (places []) in
    rw places_append (omega (arith, length_addresses seg.addr seg.len))

-- Segments have as many places as bytes.
pub length_places : (segs : List Seg) → length (places segs) ≡ sum_by (λ seg. seg.len) segs
length_places [] = refl
length_places (seg ∷ segs) =
    let e = length-append (addresses seg.addr seg.len) (places segs) in
    let f = length_addresses seg.addr seg.len in
    let g = sum_by-cons (λ (s : Seg). s.len) seg segs in
    omega (arith, length_places segs)

-- Reading consecutive addresses, inside RAM, is reading one contiguous run of bytes.
pub read_addresses : (base : ℕ) (ram : List ℕ) (address count : ℕ) → base ≤ address → address + count ≤ base + length ram → read_places base ram (addresses address count) ≡ take count (drop (index_of base address) ram)
read_addresses base ram address zero above inside = refl
read_addresses base ram address (suc count) above inside =
    let here : index_of base address < length ram = omega arith in
    let next : index_of base (address + 1) ≡ index_of base address + 1 = omega arith in
    let more = read_addresses base ram (address + 1) count (omega arith) (omega arith) in
    rw (drop_more ram (index_of base address) 0 here, more, next) refl

-- Writing bytes uses no more places than there are bytes.
pub place_writes_take : (base : ℕ) (at bytes : List ℕ) → place_writes base (take (length bytes) at) bytes ≡ place_writes base at bytes
place_writes_take base [] [] = refl
place_writes_take base [] (byte ∷ bytes) = refl
place_writes_take base (place ∷ at) [] = refl
place_writes_take base (place ∷ at) (byte ∷ bytes) = ap (λ (ws : List Write). record { index = index_of base place; byte = byte } ∷ ws) (place_writes_take base at bytes)

pub no_bytes : (base : ℕ) (at : List ℕ) → place_writes base at [] ≡ []
no_bytes base [] = refl
no_bytes base (place ∷ at) = refl

-- Bytes that are written to consecutive addresses are one run of writes; the bytes that are left go to the places that
-- follow.
pub run_writes : (base address count : ℕ) (at front back : List ℕ) → base ≤ address → length front ≤ count → (length front < count → back ≡ [])
    → place_writes base (addresses address count ++ at) (front ++ back) ≡ byte_writes (index_of base address) front ++ place_writes base at back
run_writes base address zero at [] back above few none = refl
run_writes base address zero at (b ∷ front) back above few none = absurd (omega arith)
run_writes base address (suc count) at [] back above few none =
    let e : back ≡ [] = none (omega arith) in
    rw (e, no_bytes base at) refl
run_writes base address (suc count) at (b ∷ front) back above few none =
    let next : index_of base (address + 1) ≡ index_of base address + 1 = omega arith in
    let more = run_writes base (address + 1) count at front back (omega arith) (omega arith) (λ h. none (omega arith)) in
    ap (λ (ws : List Write). record { index = index_of base address; byte = b } ∷ ws) (rw next at more)
