-- The truth values of the numbers below a length, and the words that keep them.
use Rattle.std.proofs.Common.{◌≡◌, ◌≢◌, ◌<◌, ◌≤◌, ℕ, zero, suc, ◌+◌, ◌-◌, ◌^◌, Bool, true, false, List, length, get_or, replicate, refl, sym, ◌∙◌, arith}
use Rattle.std.specs.Prelude.{◌==◌, set, nat_lt, cond, Option, Some, None}
use Rattle.std.proofs.lemmas.List.{get_or-set_same, get_or-set_other, length-set, get_or-replicate, get_or_past, length-replicate}
use Rattle.std.proofs.lemmas.List.FromFn.{get_or-map-range_with_len, length-map-range_with_len, fill_by_all}
use Rattle.std.proofs.lemmas.List.Sums.{sum_by-set, sum_by-cons, count_by-le-length}
use Rattle.std.proofs.lemmas.Bool.{eqb-true, eqb-false}
use borrow.Author.Tests.{ltb-true, ltb-false}
use Rattle.dirtylog.specs.Members.{has, HasCount, IsLeastFrom, member_count}
use Rattle.dirtylog.proofs.Levels.{zeros, zero_bit}
use Rattle.dirtylog.specs.Words.{bit_in, flags_of, AreAll, IsWithBit, IsLeastBitFrom}

pub flag_at : (words : List ℕ) (len n : ℕ) → n < len → get_or (flags_of words len) n false ≡ (bit_in words n == 1)
flag_at words len n h = get_or-map-range_with_len (λ k. bit_in words k == 1) 0 len n n false h (omega arith)

pub flags_length : (words : List ℕ) (len : ℕ) → length (flags_of words len) ≡ len
flags_length words len = length-map-range_with_len (λ k. bit_in words k == 1) 0 len

test_is : (b : ℕ) (t : Bool) → (b == 1) ≡ t → b ≡ 0 → t ≡ false
test_is b true e off = absurd (omega (arith, eqb-true b 1 e, off))
test_is b false e off = refl

-- a number whose bit is clear is no member, and neither is one that is not below the length
unflagged_at : (words : List ℕ) (len n : ℕ) (t : Bool) → nat_lt n len ≡ t → bit_in words n ≡ 0 → has (flags_of words len) n ≡ false
unflagged_at words len n true e off = flag_at words len n (ltb-true n len e) ∙ test_is (bit_in words n) _ refl off
unflagged_at words len n false e off = get_or_past (flags_of words len) n false (omega (arith, flags_length words len, ltb-false n len e))

pub unflagged : (words : List ℕ) (len n : ℕ) → bit_in words n ≡ 0 → has (flags_of words len) n ≡ false
unflagged words len n off = unflagged_at words len n (nat_lt n len) refl off

-- the bit of a member is set
pub member_bit : (words : List ℕ) (len n : ℕ) → n < len → has (flags_of words len) n ≡ true → bit_in words n ≡ 1
member_bit words len n h inside = eqb-true (bit_in words n) 1 (sym (flag_at words len n h) ∙ inside)

inside_at : (words : List ℕ) (len n : ℕ) (t : Bool) → nat_lt n len ≡ t → ((k : ℕ) → len ≤ k → bit_in words k ≡ 0) → bit_in words n ≡ 1 → n < len
inside_at words len n true e tail one = ltb-true n len e
inside_at words len n false e tail one = let off : bit_in words n ≡ 0 = tail n (ltb-false n len e) in absurd (omega (arith, off, one))

-- The least bit is the least member.
pub least_member : (words : List ℕ) (len from : ℕ) (found : Option ℕ) → ((k : ℕ) → len ≤ k → bit_in words k ≡ 0) → IsLeastBitFrom words from found → IsLeastFrom (flags_of words len) from found
least_member words len from (Some n) tail h = record {
  reached = h.reached;
  member = flag_at words len n (inside_at words len n (nat_lt n len) refl tail h.one) ∙ rw h.one refl;
  least = λ k a b. unflagged words len k (h.least k a b);
}
least_member words len from None tail h = λ k a. unflagged words len k (h k a)

flag_of_set : (old new : List ℕ) (len n k b : ℕ) (t : Bool) → (k == n) ≡ t → n < len → k < len → IsWithBit old new n b → get_or (set (flags_of old len) n (b == 1)) k false ≡ (bit_in new k == 1)
flag_of_set old new len n k b true e h j w =
    let same : k ≡ n = eqb-true k n e in
    rw (same, get_or-set_same (flags_of old len) n (b == 1) false (rw flags_length h), w.here) refl
flag_of_set old new len n k b false e h j w =
    let other : k ≢ n = eqb-false k n e in
    rw (get_or-set_other (flags_of old len) n k (b == 1) false other, w.bits k other) (flag_at old len k j)

pub flag_set : (old new : List ℕ) (len n b : ℕ) → n < len → IsWithBit old new n b → flags_of new len ≡ set (flags_of old len) n (b == 1)
flag_set old new len n b h w =
    sym (fill_by_all (λ k. bit_in new k == 1) (set (flags_of old len) n (b == 1)) len false (rw (length-set, flags_length) refl) (λ k j. flag_of_set old new len n k b (k == n) refl h j w))

pub flags_all : (b : ℕ) (words : List ℕ) (len : ℕ) → AreAll b words len → flags_of words len ≡ replicate len (b == 1)
flags_all b words len all =
    sym (fill_by_all (λ k. bit_in words k == 1) (replicate len (b == 1)) len false (length-replicate len (b == 1)) (λ k j. get_or-replicate len k (b == 1) false j ∙ rw (all.below k j) refl))

count_none : (len : ℕ) → member_count (replicate len false) ≡ 0
count_none zero = refl
count_none (suc len) = count_none len

count_ones : (len : ℕ) → member_count (replicate len true) ≡ len
count_ones zero = refl
count_ones (suc len) = let e = count_ones len in omega (arith, e, sum_by-cons (λ (b : Bool). cond b 1 0) true (replicate len true))

-- One more member, or one less.
counted_set : (flags : List Bool) (n : ℕ) (b : Bool) → n < length flags → member_count (set flags n b) + cond (has flags n) 1 0 ≡ member_count flags + cond b 1 0
counted_set flags n b h = sum_by-set (λ (x : Bool). cond x 1 0) flags n b false h

pub one_more : (flags : List Bool) (n members : ℕ) → n < length flags → has flags n ≡ false → HasCount flags members → HasCount (set flags n true) (members + 1)
one_more flags n members h out count =
    let e = counted_set flags n true h in
    record { counted = omega (arith, count.counted, rw out at e); fits = rw length-set count.fits }

-- The count of members with one more fits 64 bits.
pub more_fits : (flags : List Bool) (n members : ℕ) → n < length flags → has flags n ≡ false → HasCount flags members → members + 1 < 2 ^ 64
more_fits flags n members h out count =
    let more = one_more flags n members h out count in
    omega (arith, more.counted, more.fits, count_by-le-length (λ (b : Bool). b) (set flags n true))

pub one_less : (flags : List Bool) (n members : ℕ) → n < length flags → has flags n ≡ true → HasCount flags members → HasCount (set flags n false) (members - 1)
one_less flags n members h inside count =
    let e = counted_set flags n false h in
    record { counted = omega (arith, count.counted, rw inside at e); fits = rw length-set count.fits }

-- No member, and all of them.
pub flags_zero : (count len : ℕ) → flags_of (zeros count) len ≡ replicate len false
flags_zero count len = flags_all 0 (zeros count) len (record { below = λ k h. zero_bit count k; above = λ k h. zero_bit count k })

pub count_zero : (count len : ℕ) → len < 2 ^ 64 → HasCount (flags_of (zeros count) len) 0
count_zero count len fits = rw flags_zero (record { counted = sym (count_none len); fits = rw length-replicate fits })

pub count_full : (len : ℕ) → len < 2 ^ 64 → HasCount (replicate len true) len
count_full len fits = record { counted = sym (count_ones len); fits = rw length-replicate fits }
