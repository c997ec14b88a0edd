use Rattle.std.proofs.Common.{◌≡◌, ℕ, ◌+◌, ◌-◌, ◌≤◌, ◌<◌, List, [], ◌∷◌, ◌++◌, length, take, drop, min, get_or, slice_index, refl, ap, sym, ◌∙◌, arith, inl, inr, length-append, length-drop, length-take-le, append-nil, append_assoc}
use Rattle.std.proofs.lemmas.Bool.{cases_lt}
use Rattle.std.proofs.lemmas.List.{drop_more, take_more, take-take, take-append-le, map-append}
use Rattle.std.specs.List.{drop-map}
use Rattle.std.proofs.lemmas.Slice.{take-put_mid}
use Rattle.std.proofs.Math.Seq.{drop-append_seam, drop-append-add, take-append-add}
use borrow.Rule.Slice.PartMut.{put_mid, same_len_mid}
use Rattle.guestmem.specs.Address.{IsWithin, index_of}
use Rattle.guestmem.specs.Writes.{byte_writes}
use Rattle.chains.specs.declared.segs.Seg.{Seg}
use Rattle.chains.specs.Places.{addresses, places, last_place, read_places, place_writes}
use Rattle.chains.proofs.PlaceLaws.{length_addresses, addresses_add, places_append, read_addresses, place_writes_take, no_bytes, run_writes}

-- The places from a segment on are its own, and then those of the segments behind it.
places_here : (segs : List Seg) (i : ℕ) (d : Seg) → i < length segs → places (drop i segs) ≡ addresses (get_or segs i d).addr (get_or segs i d).len ++ places (drop (i + 1) segs)
places_here segs i d below = ap places (drop_more segs i d below)

pub length_here : (segs : List Seg) (i : ℕ) (d : Seg) → i < length segs → length (places (drop i segs)) ≡ (get_or segs i d).len + length (places (drop (i + 1) segs))
length_here segs i d below =
    rw (places_here segs i d below, length-append (addresses (get_or segs i d).addr (get_or segs i d).len) (places (drop (i + 1) segs)), length_addresses) refl

drop_past : (address count skip : ℕ) (more : List ℕ) → count ≤ skip → drop skip (addresses address count ++ more) ≡ drop (skip - count) more
drop_past address count skip more past =
    let e : skip ≡ length (addresses address count) + (skip - count) = rw length_addresses (omega arith) in
    ap (λ n. drop n (addresses address count ++ more)) e ∙ drop-append-add (addresses address count) more (skip - count)

drop_within : (address count skip : ℕ) (more : List ℕ) → skip ≤ count → drop skip (addresses address count ++ more) ≡ addresses (address + skip) (count - skip) ++ more
drop_within address count skip more within =
    let e : count ≡ skip + (count - skip) = omega arith in
    let parts : addresses address count ≡ addresses address skip ++ addresses (address + skip) (count - skip) = ap (addresses address) e ∙ addresses_add address skip (count - skip) in
    let whole : addresses address count ++ more ≡ addresses address skip ++ (addresses (address + skip) (count - skip) ++ more) =
    ap (λ (xs : List ℕ). xs ++ more) parts ∙ append_assoc (addresses address skip) (addresses (address + skip) (count - skip)) more in
    let seam : drop (length (addresses address skip)) (addresses address skip ++ (addresses (address + skip) (count - skip) ++ more)) ≡ addresses (address + skip) (count - skip) ++ more =
    drop-append_seam (addresses address skip) (addresses (address + skip) (count - skip) ++ more) in
    ap (drop skip) whole ∙ (rw length_addresses at seam)

-- Where a segment is passed over, the places are those behind it.
pub passed : (segs : List Seg) (i skip : ℕ) (d : Seg) → i < length segs → (get_or segs i d).len ≤ skip → drop skip (places (drop i segs)) ≡ drop (skip - (get_or segs i d).len) (places (drop (i + 1) segs))
passed segs i skip d below past = ap (drop skip) (places_here segs i d below) ∙ drop_past (get_or segs i d).addr (get_or segs i d).len skip (places (drop (i + 1) segs)) past

-- Else they are a run in that segment, and then those behind it.
pub reached : (segs : List Seg) (i skip : ℕ) (d : Seg) → i < length segs → skip ≤ (get_or segs i d).len
    → drop skip (places (drop i segs)) ≡ addresses ((get_or segs i d).addr + skip) ((get_or segs i d).len - skip) ++ places (drop (i + 1) segs)
reached segs i skip d below within = ap (drop skip) (places_here segs i d below) ∙ drop_within (get_or segs i d).addr (get_or segs i d).len skip (places (drop (i + 1) segs)) within

-- The bytes that go into one segment are one run of writes.
pub segment_writes : (base : ℕ) (segs : List Seg) (i skip : ℕ) (d : Seg) (rest front back : List ℕ) → i < length segs → base ≤ (get_or segs i d).addr → skip ≤ (get_or segs i d).len → rest ≡ front ++ back
    → length front ≤ (get_or segs i d).len - skip → (length front < (get_or segs i d).len - skip → back ≡ [])
    → place_writes base (drop skip (places (drop i segs))) rest ≡ byte_writes (index_of base (get_or segs i d).addr + skip) front ++ place_writes base (places (drop (i + 1) segs)) back
segment_writes base segs i skip d rest front back below above within parts few none =
    let at : index_of base ((get_or segs i d).addr + skip) ≡ index_of base (get_or segs i d).addr + skip = omega arith in
    let run = run_writes base ((get_or segs i d).addr + skip) ((get_or segs i d).len - skip) (places (drop (i + 1) segs)) front back (omega arith) few none in
    rw (parts, reached segs i skip d below within) (rw at at run)

-- The first bytes of a run and of what stands behind it.
first_of : (count m : ℕ) (run more : List ℕ) → count ≤ length run → take m (take count run ++ more) ≡ take (min m count) run ++ take (m - min m count) more
first_of count m run more fits =
    elim (cases_lt m count) as (λ _. take m (take count run ++ more) ≡ take (min m count) run ++ take (m - min m count) more) [
      | inl some ↦
          let n : min m count ≡ m = omega arith in
          let zero : m - m ≡ 0 = omega arith in
          let len : length (take count run) ≡ count = length-take-le count run fits in
          let long : m ≤ length (take count run) = omega arith in
          rw (n, zero, take-append-le m (take count run) more long, take-take m count run (omega arith), append-nil) refl
      | inr all ↦
          let n : min m count ≡ count = omega arith in
          let len : length (take count run) ≡ count = length-take-le count run fits in
          let e : m ≡ length (take count run) + (m - count) = omega arith in
          rw n (ap (λ k. take k (take count run ++ more)) e ∙ take-append-add (take count run) more (m - count))
    ]

-- The byte of RAM at a place.
byte_at : ℕ → List ℕ → ℕ → ℕ
byte_at base ram place = slice_index ram (index_of base place)

pub segment_bytes : (base : ℕ) (ram : List ℕ) (segs : List Seg) (i skip m : ℕ) (d : Seg) → i < length segs → skip ≤ (get_or segs i d).len → IsWithin base (length ram) (get_or segs i d).addr (get_or segs i d).len
    → take m (drop skip (read_places base ram (places (drop i segs))))
    ≡ take (min m ((get_or segs i d).len - skip)) (drop (index_of base (get_or segs i d).addr + skip) ram) ++ take (m - min m ((get_or segs i d).len - skip)) (read_places base ram (places (drop (i + 1) segs)))
unfolding byte_at
segment_bytes base ram segs i skip m d below within inside =
    let seg = get_or segs i d in
    let more = places (drop (i + 1) segs) in
    let above : base ≤ seg.addr = inside.above in
    let at : index_of base (seg.addr + skip) ≡ index_of base seg.addr + skip = omega arith in
    let run : read_places base ram (addresses (seg.addr + skip) (seg.len - skip)) ≡ take (seg.len - skip) (drop (index_of base seg.addr + skip) ram) =
    rw at at (read_addresses base ram (seg.addr + skip) (seg.len - skip) (omega arith) (omega (arith, inside.below))) in
    let all : drop skip (read_places base ram (places (drop i segs))) ≡ take (seg.len - skip) (drop (index_of base seg.addr + skip) ram) ++ read_places base ram more =
    drop-map (byte_at base ram) skip (places (drop i segs)) ∙ ap (read_places base ram) (reached segs i skip d below within)
    ∙ map-append (byte_at base ram) (addresses (seg.addr + skip) (seg.len - skip)) more ∙ ap (λ (xs : List ℕ). xs ++ read_places base ram more) run in
    ap (take m) all ∙ first_of (seg.len - skip) m (drop (index_of base seg.addr + skip) ram) (read_places base ram more) (rw length-drop (omega (arith, inside.below)))

pub passed_bytes : (base : ℕ) (ram : List ℕ) (segs : List Seg) (i skip : ℕ) (d : Seg) → i < length segs → (get_or segs i d).len ≤ skip
    → drop skip (read_places base ram (places (drop i segs))) ≡ drop (skip - (get_or segs i d).len) (read_places base ram (places (drop (i + 1) segs)))
unfolding byte_at
passed_bytes base ram segs i skip d below past =
    drop-map (byte_at base ram) skip (places (drop i segs)) ∙ ap (read_places base ram) (passed segs i skip d below past)
    ∙ sym (drop-map (byte_at base ram) (skip - (get_or segs i d).len) (places (drop (i + 1) segs)))

-- A part of a buffer that is written keeps the length of the buffer.
pub length-put_mid : (start count : ℕ) (buf piece : List ℕ) → start + count ≤ length buf → length piece ≡ count → length (put_mid start count buf piece) ≡ length buf
length-put_mid start count buf piece fits size = same_len_mid start count buf piece (size ∙ sym (length-take-le count (drop start buf) (rw length-drop (omega arith))))

-- A buffer that is filled from one segment on, once that segment gave its bytes.
pub read_more : (base : ℕ) (ram buf piece wanted : List ℕ) (segs : List Seg) (i skip filled count : ℕ) (d : Seg) → i < length segs → skip ≤ (get_or segs i d).len
    → IsWithin base (length ram) (get_or segs i d).addr (get_or segs i d).len → filled ≤ length buf → count ≡ min (length buf - filled) ((get_or segs i d).len - skip)
    → length piece ≡ count → piece ≡ take count (drop (index_of base (get_or segs i d).addr + skip) ram)
    → take filled buf ++ take (length buf - filled) (drop skip (read_places base ram (places (drop i segs)))) ≡ wanted
    → take (filled + count) (put_mid filled count buf piece) ++ take (length buf - (filled + count)) (read_places base ram (places (drop (i + 1) segs))) ≡ wanted
read_more base ram buf piece wanted segs i skip filled count d below within inside fits is size read so_far =
    let front : take (filled + count) (put_mid filled count buf piece) ≡ take filled buf ++ piece = take-put_mid filled count buf piece (filled + count) (omega arith) fits in
    let left : length buf - (filled + count) ≡ length buf - filled - count = omega arith in
    let parts = segment_bytes base ram segs i skip (length buf - filled) d below within inside in
    rw (front, left, append_assoc, read, is) (ap (λ (xs : List ℕ). take filled buf ++ xs) (sym parts) ∙ so_far)

-- Bytes that the first segment holds are one run of writes.
pub first_writes : (base : ℕ) (segs : List Seg) (at : ℕ) (d : Seg) (bytes : List ℕ) → 0 < length segs → base ≤ (get_or segs 0 d).addr → at + length bytes ≤ (get_or segs 0 d).len
    → place_writes base (take (length bytes) (drop at (places segs))) bytes ≡ byte_writes (index_of base (get_or segs 0 d).addr + at) bytes
first_writes base segs at d bytes some above few =
    let whole : bytes ≡ bytes ++ [] = rw append-nil refl in
    let run = segment_writes base segs 0 at d bytes bytes [] some above (omega (arith, few)) whole (omega (arith, few)) (λ _. refl) in
    place_writes_take base (drop at (places segs)) bytes ∙ (rw (no_bytes, append-nil) at run)

-- Bytes that the first segment has are one run.
pub first_bytes : (base : ℕ) (ram : List ℕ) (segs : List Seg) (at : ℕ) (d : Seg) (m : ℕ) → 0 < length segs → at + m ≤ (get_or segs 0 d).len → IsWithin base (length ram) (get_or segs 0 d).addr (get_or segs 0 d).len
    → take m (drop at (read_places base ram (places segs))) ≡ take m (drop (index_of base (get_or segs 0 d).addr + at) ram)
first_bytes base ram segs at d m some few inside =
    let parts = segment_bytes base ram segs 0 at m d some (omega (arith, few)) inside in
    let all : min m ((get_or segs 0 d).len - at) ≡ m = omega (arith, few) in
    let none : m - m ≡ 0 = omega arith in
    rw (all, none, append-nil) at parts

-- The places of the segments before one and its own are those of all up to it.
places_up_to : (segs : List Seg) (i : ℕ) (d : Seg) → i < length segs → places (take (i + 1) segs) ≡ places (take i segs) ++ (addresses (get_or segs i d).addr (get_or segs i d).len ++ [])
places_up_to segs i d below = ap places (take_more segs i d below) ∙ places_append (take i segs) (get_or segs i d ∷ [])

-- An empty segment has no place.
pub empty_last : (segs : List Seg) (i : ℕ) (d : Seg) → i < length segs → (get_or segs i d).len ≡ 0 → places (take i segs) ≡ places (take (i + 1) segs)
empty_last segs i d below none = sym (places_up_to segs i d below ∙ rw none (append-nil (places (take i segs))))

-- Where the segments behind one have no place, the last place is its last byte.
pub last_is : (segs : List Seg) (i : ℕ) (d : Seg) → i < length segs → places (take (i + 1) segs) ≡ places segs → 1 ≤ (get_or segs i d).len → last_place segs ≡ ((get_or segs i d).addr + ((get_or segs i d).len - 1)) ∷ []
last_is segs i d below same some =
    let seg = get_or segs i d in
    let front = places (take i segs) in
    let own = addresses seg.addr seg.len ++ [] in
    let all : places segs ≡ front ++ own = sym same ∙ places_up_to segs i d below in
    let long : length (places segs) - 1 ≡ length front + (seg.len - 1) = rw (all, length-append front own, append-nil, length_addresses) (omega (arith, some)) in
    let one : seg.len - (seg.len - 1) ≡ 1 = omega (arith, some) in
    let rest : drop (length (places segs) - 1) (places segs) ≡ addresses (seg.addr + (seg.len - 1)) 1 ++ [] =
    rw (long, all) (drop-append-add front own (seg.len - 1) ∙ drop_within seg.addr seg.len (seg.len - 1) [] (omega arith) ∙ rw one refl) in
    ap (take 1) rest

-- So a byte that is written there is one run of writes.
pub last_writes : (base : ℕ) (segs : List Seg) (i : ℕ) (d : Seg) → i < length segs → places (take (i + 1) segs) ≡ places segs → 1 ≤ (get_or segs i d).len → base ≤ (get_or segs i d).addr
    → (byte : ℕ) → place_writes base (last_place segs) (byte ∷ []) ≡ byte_writes (index_of base (get_or segs i d).addr + ((get_or segs i d).len - 1)) (byte ∷ [])
last_writes base segs i d below same some above byte =
    let at : index_of base ((get_or segs i d).addr + ((get_or segs i d).len - 1)) ≡ index_of base (get_or segs i d).addr + ((get_or segs i d).len - 1) = omega (arith, above) in
    rw (last_is segs i d below same some, at) refl
