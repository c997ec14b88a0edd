-- Words whose bits below a length are all set.
use Rattle.std.proofs.Common.{◌≡◌, ◌≢◌, ◌<◌, ◌≤◌, ℕ, ◌-◌, ◌*◌, ◌/◌, ◌%◌, ◌^◌, Bool, true, false, List, length, replicate, refl, ◌∙◌, arith}
use Rattle.std.specs.Prelude.{◌==◌, set}
use Rattle.std.specs.Int.{bit_at}
use Rattle.std.proofs.lemmas.List.{get_or-set_same, get_or-set_other, length-set, get_or-replicate, get_or_past, length-replicate}
use Rattle.std.proofs.lemmas.Bool.{eqb-true, eqb-false}
use Rattle.std.proofs.lemmas.Nat.Bits.{bit_at-zero, bit_at_ones, bit_at_ones_above, ones_shr}
use Rattle.dirtylog.specs.Words.{bit_in, AreAll, HasRoomFor}

-- a bit past the last word
pub past_words : (words : List ℕ) (k : ℕ) → 64 * length words ≤ k → bit_in words k ≡ 0
past_words words k h = let past : length words ≤ k / 64 = omega arith in rw (get_or_past words (k / 64) 0 past) (bit_at-zero (k % 64))

-- Words of ones.
abbrev pub full : ℕ → List ℕ
full count = replicate count (2 ^ 64 - 1)

bit_full : (count k : ℕ) → k < 64 * count → bit_in (full count) k ≡ 1
bit_full count k h =
    let inside : k / 64 < count = omega (arith, h) in
    rw (get_or-replicate count (k / 64) (2 ^ 64 - 1) 0 inside) (bit_at_ones 64 (k % 64) (omega arith))

pub all_full : (count len : ℕ) → HasRoomFor len count → len % 64 ≡ 0 → AreAll 1 (full count) len
all_full count len room whole = record {
  below = λ k h. bit_full count k (omega (arith, h, room.fit));
  above = λ k h. past_words (full count) k (omega (arith, length-replicate count (2 ^ 64 - 1), h, room.fit, room.tight, whole));
}

pub last_is : (used : ℕ) → used ≤ 64 → (2 ^ 64 - 1) / 2 ^ (64 - used) ≡ 2 ^ used - 1
last_is used h =
    let back : 64 - (64 - used) ≡ used = omega arith in
    ones_shr 64 (64 - used) (omega arith) ∙ rw back refl

-- Words of ones, of which the last has only so many bits set.
abbrev pub cut : ℕ → ℕ → List ℕ
cut count used = set (full count) (count - 1) ((2 ^ 64 - 1) / 2 ^ (64 - used))

cut_length : (count used : ℕ) → length (cut count used) ≡ count
cut_length count used = length-set (full count) (count - 1) _ ∙ length-replicate count (2 ^ 64 - 1)

in_last : (count used k : ℕ) → used ≤ 64 → 0 < count → k / 64 ≡ count - 1 → bit_in (cut count used) k ≡ bit_at (2 ^ used - 1) (k % 64)
in_last count used k h some e =
    let inside : count - 1 < length (full count) = omega (arith, length-replicate count (2 ^ 64 - 1)) in
    rw (e, get_or-set_same (full count) (count - 1) ((2 ^ 64 - 1) / 2 ^ (64 - used)) 0 inside, last_is used h) refl

before_last : (count used k : ℕ) → k / 64 ≢ count - 1 → bit_in (cut count used) k ≡ bit_in (full count) k
before_last count used k e = rw (get_or-set_other (full count) (count - 1) (k / 64) ((2 ^ 64 - 1) / 2 ^ (64 - used)) 0 e) refl

cut_below : (count len k : ℕ) (t : Bool) → (k / 64 == count - 1) ≡ t → HasRoomFor len count → len % 64 ≢ 0 → k < len → bit_in (cut count (len % 64)) k ≡ 1
cut_below count len k true e room some h =
    let same : k / 64 ≡ count - 1 = eqb-true _ _ e in
    let there : 0 < count = omega (arith, h, room.fit) in
    in_last count (len % 64) k (omega arith) there same ∙ bit_at_ones (len % 64) (k % 64) (omega (arith, same, room.fit, room.tight, h, some))
cut_below count len k false e room some h = before_last count (len % 64) k (eqb-false _ _ e) ∙ bit_full count k (omega (arith, h, room.fit))

cut_above : (count len k : ℕ) (t : Bool) → (k / 64 == count - 1) ≡ t → HasRoomFor len count → len % 64 ≢ 0 → len ≤ k → bit_in (cut count (len % 64)) k ≡ 0
cut_above count len k true e room some h =
    let same : k / 64 ≡ count - 1 = eqb-true _ _ e in
    let positive : 0 < len = omega (arith, some) in
    let there : 0 < count = omega (arith, positive, room.fit) in
    in_last count (len % 64) k (omega arith) there same ∙ bit_at_ones_above (len % 64) (k % 64) (omega (arith, same, room.fit, room.tight, h, some))
cut_above count len k false e room some h =
    past_words (cut count (len % 64)) k (omega (arith, cut_length count (len % 64), eqb-false _ _ e, h, room.fit, room.tight))

pub all_cut : (count len : ℕ) → HasRoomFor len count → len % 64 ≢ 0 → AreAll 1 (cut count (len % 64)) len
all_cut count len room some = record {
  below = λ k h. cut_below count len k (k / 64 == count - 1) refl room some h;
  above = λ k h. cut_above count len k (k / 64 == count - 1) refl room some h;
}
