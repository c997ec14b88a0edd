-- Bytes that are written in two parts and then published, and what is told of them.
use Rattle.std.proofs.Common.{◌≡◌, ℕ, ◌≤◌, List, [], ◌∷◌, ◌++◌, length, take, drop, refl, ap, ◌∙◌, arith}
use Rattle.guestmem.specs.Address.{index_of}
use Rattle.guestmem.specs.Item.{Item, after_all}
use Rattle.guestmem.specs.Writes.{Write, set_all, touched}
use Rattle.guestmem.proofs.WriteLaws.{set_all-append}
use Rattle.guestmem.specs.Memory.{Memory}
use Rattle.guestmem.specs.Rises.{Rises}
use Rattle.chains.proofs.EffectLaws.{after_touched, rises_touched}
use Rattle.chains.proofs.PlaceLaws.{place_writes_take}
use Rattle.chains.specs.Places.{place_writes}

-- Bytes in two parts go to the first places and to those behind.
in_parts : (base : ℕ) (at front back : List ℕ) → length front ≤ length at → place_writes base at (front ++ back) ≡ place_writes base at front ++ place_writes base (drop (length front) at) back
in_parts base [] [] back room = refl
in_parts base [] (b ∷ front) back room = absurd (omega arith)
in_parts base (p ∷ at) [] back room = refl
in_parts base (p ∷ at) (b ∷ front) back room =
    ap (λ (ws : List Write). record { index = index_of base p; byte = b } ∷ ws) (in_parts base at front back (omega arith))

-- The writes of two parts, as each part is written, and then others.
pub parts_then : (base : ℕ) (at front back : List ℕ) (last : List Write) → length front ≤ length at
    → place_writes base at (front ++ back) ++ last ≡ (place_writes base (take (length front) (drop 0 at)) front ++ place_writes base (take (length back) (drop (length front) at)) back) ++ last
parts_then base at front back last room =
    ap (λ (ws : List Write). ws ++ last) (in_parts base at front back room ∙ rw (place_writes_take base at front, place_writes_take base (drop (length front) at) back) refl)

-- RAM after three lists of writes in turn.
pub set_three : (ram : List ℕ) (us vs ws : List Write) → set_all (set_all (set_all ram us) vs) ws ≡ set_all ram ((us ++ vs) ++ ws)
set_three ram us vs ws = rw (set_all-append ram (us ++ vs) ws, set_all-append ram us vs) refl

-- A log that took in the pages of three lists of writes in turn.
pub told_three : {L : Type 0} (after : L → Item → L) (log : L) (us vs ws : List Write) → after_all after (after_all after (after_all after log (touched us)) (touched vs)) (touched ws) ≡ after_all after log (touched ((us ++ vs) ++ ws))
told_three after log us vs ws = rw (after_touched after log (us ++ vs) ws, after_touched after log us vs) refl

-- Versions that rise in exactly the pages of three lists of writes in turn.
pub rises_three : (us vs ws : List Write) (first second third last : Memory) → Rises (touched us) first second → Rises (touched vs) second third → Rises (touched ws) third last → Rises (touched ((us ++ vs) ++ ws)) first last
rises_three us vs ws first second third last h k l = rises_touched (us ++ vs) ws first third last (rises_touched us vs first second third h k) l
