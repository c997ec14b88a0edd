-- Frames that are kept, each in its room.
use Rattle.std.proofs.Common.{◌≡◌, ℕ, ◌+◌, ◌-◌, ◌<◌, ◌≤◌, ◌/◌, Bool, true, false, cond, ltb, List, [], ◌∷◌, ◌++◌, length, map, drop, get_or, slice_get, Some, None, option_map, refl, sym, ap, subst, ◌∙◌, arith, length-append}
use Rattle.std.specs.Prelude.{All}
use Rattle.std.proofs.lemmas.Bool.{ltb-true}
use Rattle.std.proofs.lemmas.List.{drop_at, length-map, map-append}
use Rattle.std.proofs.lemmas.List.Elements.{All-get_or, All-head, All-pop, All-push, All-tail}
use Rattle.std.proofs.lemmas.Nat.{div_below}
use Rattle.std.proofs.lemmas.Option.{get_or_from_slice_get, slice_get-get_or, slice_get-map, slice_get_within}
use Rattle.circular_buffer.specs.Buffer.{keep_last}
use Rattle.net.specs.Header.{header}
use Rattle.net.specs.Inbox.{IsFrame, most_waiting}
use Rattle.net.specs.Kept.{AreKept, HasRoom, Kept, bytes_of}

-- At most 64 frames wait.
few_by : (longest : ℕ) (long : Bool) → ltb 1514 longest ≡ long → cond long (96896 / longest) 64 ≤ 64
few_by longest true e =
    let more : 1514 < longest = ltb-true 1514 longest e in
    let below : 96896 / longest < 65 = div_below 96896 longest 65 (omega (arith, more)) (omega (arith, more)) in
    omega (arith, below)
few_by longest false e = omega arith

pub few_waiting : (longest : ℕ) → most_waiting longest ≤ 64
few_waiting longest = few_by longest (ltb 1514 longest) refl

-- What follows the header, and how long both are.
pub after_header : (room bytes : List ℕ) → room ≡ header ++ bytes → drop 12 room ≡ bytes
unfolding header
after_header room bytes is = ap (drop 12) is ∙ drop_at header bytes 12 refl

pub header_fits : (room bytes : List ℕ) → room ≡ header ++ bytes → 12 ≤ length room
unfolding header
header_fits room bytes is = subst (λ (x : List ℕ). 12 ≤ length x) (sym is) (omega (arith, length-append header bytes))

-- The frame of a number.
pub kept_at : (longest : ℕ) (frames : List Kept) (k : ℕ) (kept : Kept) → All (IsFrame longest) (map bytes_of frames) → slice_get frames k ≡ Some kept → IsFrame longest kept.bytes
kept_at longest frames k kept are here =
    let below : k < length (map bytes_of frames) = omega (arith, slice_get_within frames k kept here, length-map frames bytes_of) in
    let there : get_or (map bytes_of frames) k [] ≡ kept.bytes = get_or_from_slice_get (map bytes_of frames) k kept.bytes [] (slice_get-map bytes_of frames k ∙ ap (option_map bytes_of) here) in
    subst (λ (x : List ℕ). IsFrame longest x) there (All-get_or (IsFrame longest) (map bytes_of frames) k [] below are)

pub not_there : (frames : List Kept) (k : ℕ) → k < length (map bytes_of frames) → None ≡ slice_get frames k → ⊥
not_there frames k below none =
    let some = slice_get-get_or frames k (record { bytes = []; room = 0 }) (omega (arith, below, length-map frames bytes_of)) in
    absurd cc

-- A frame comes into the last spare room.
all_kept : (n : ℕ) (frames : List Kept) → length frames ≤ n → keep_last n frames ≡ frames
all_kept n frames few =
    let none : length frames - n ≡ 0 = omega (arith, few) in
    ap (λ k. drop k frames) none

pub pushed : (longest most : ℕ) (frames spare left : List Kept) (places : ℕ) (room kept : Kept) → AreKept longest most frames spare places → spare ≡ left ++ room ∷ [] → room.room ≤ kept.room → IsFrame longest kept.bytes
    → AreKept longest most (keep_last most (frames ++ kept ∷ [])) left places
pushed longest most frames spare left places room kept are spare_is roomy frame =
    let counted : length spare ≡ length left + 1 = ap length spare_is ∙ length-append left (room ∷ []) in
    let more : length (frames ++ kept ∷ []) ≡ length frames + 1 = length-append frames (kept ∷ []) in
    let each : length frames + length spare ≡ most = are.each in
    let spares = All-pop (HasRoom longest) spare left (Some room) spare_is are.spares in
    let here : longest ≤ kept.room = omega (arith, spares.1, roomy) in
    rw (all_kept most (frames ++ kept ∷ []) (omega (arith, counted, more, each))) (record {
      most_are = are.most_are;
      each = omega (arith, counted, more, each);
      placed = are.placed;
      rooms = All-push (HasRoom longest) frames kept are.rooms here;
      spares = spares.0;
      are = subst (λ (x : List (List ℕ)). All (IsFrame longest) x) (sym (map-append bytes_of frames (kept ∷ []))) (All-push (IsFrame longest) (map bytes_of frames) kept.bytes are.are frame);
    })

-- The oldest frame leaves its room.
pub removed : (longest most : ℕ) (frames spare : List Kept) (places : ℕ) (kept : Kept) → AreKept longest most frames spare places → Some kept ≡ slice_get frames 0 → AreKept longest most (drop 1 frames) (spare ++ kept ∷ []) places
removed longest most [] spare places kept are here = absurd cc
removed longest most (first ∷ frames) spare places kept are here =
    let same : first ≡ kept = cc in
    record {
      most_are = are.most_are;
      each = omega (arith, are.each, length-append spare (kept ∷ []));
      placed = are.placed;
      rooms = All-tail (HasRoom longest) first frames are.rooms;
      spares = All-push (HasRoom longest) spare kept are.spares (subst (HasRoom longest) same (All-head (HasRoom longest) first frames are.rooms));
      are = All-tail (IsFrame longest) first.bytes (map bytes_of frames) are.are;
    }
