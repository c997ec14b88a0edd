-- Both levels of a set, after changes and as they are searched.
use Rattle.std.proofs.Common.{◌≡◌, ◌≢◌, ◌<◌, ℕ, ◌*◌, ◌/◌, ◌%◌, Bool, true, false, List, length, get_or, replicate, refl, sym, ◌∙◌, arith}
use Rattle.std.specs.Prelude.{◌==◌, nat_lt}
use Rattle.std.specs.Int.{bit_at}
use Rattle.std.proofs.lemmas.List.{get_or_past, get_or-replicate, length-replicate}
use Rattle.std.proofs.lemmas.Bool.{eqb-true, eqb-false}
use Rattle.std.proofs.lemmas.Nat.Bits.{bit_at-zero}
use borrow.Author.Tests.{ltb-true, ltb-false}
use Rattle.dirtylog.specs.Words.{bit_in, AreAll, AreLevels, HasRoomFor, IsUnmarked, IsWithBit}

-- The marks after the word at one place changed.
pub record AreMarked (marks new_marks new : List ℕ) (at : ℕ) : Type 0 where
  pub size : length new_marks ≡ length marks
  pub others : (i : ℕ) → i ≢ at → bit_in new_marks i ≡ bit_in marks i
  pub unmarked : bit_in new_marks at ≡ 0 → get_or new at 0 ≡ 0
  pub marked : bit_in new_marks at ≡ 1 → get_or new at 0 ≢ 0

unmarked_at : (words marks new new_marks : List ℕ) (len n b i : ℕ) (t : Bool) → (i == n / 64) ≡ t → AreLevels words marks len → IsWithBit words new n b → AreMarked marks new_marks new (n / 64)
    → i < length new → bit_in new_marks i ≡ 0 → get_or new i 0 ≡ 0
unmarked_at words marks new new_marks len n b i true e h w m k z = let same : i ≡ n / 64 = eqb-true i _ e in rw same (m.unmarked (rw same at z))
unmarked_at words marks new new_marks len n b i false e h w m k z = let other = eqb-false i _ e in w.words i other ∙ h.unmarked i (omega (arith, k, w.size)) (sym (m.others i other) ∙ z)

marked_at : (words marks new new_marks : List ℕ) (len n b i : ℕ) (t : Bool) → (i == n / 64) ≡ t → AreLevels words marks len → IsWithBit words new n b → AreMarked marks new_marks new (n / 64)
    → i < length new → bit_in new_marks i ≡ 1 → get_or new i 0 ≢ 0
marked_at words marks new new_marks len n b i true e h w m k z = let same : i ≡ n / 64 = eqb-true i _ e in rw same (m.marked (rw same at z))
marked_at words marks new new_marks len n b i false e h w m k z = let other = eqb-false i _ e in λ zero. h.marked i (omega (arith, k, w.size)) (sym (m.others i other) ∙ z) (sym (w.words i other) ∙ zero)

-- Both levels after one bit changed, and the mark of its word with it.
pub levels_kept : (words marks new new_marks : List ℕ) (len n b : ℕ) → AreLevels words marks len → n < len → IsWithBit words new n b → AreMarked marks new_marks new (n / 64) → AreLevels new new_marks len
levels_kept words marks new new_marks len n b h low w m = record {
  words_room = rw w.size h.words_room;
  marks_room = rw (w.size, m.size) h.marks_room;
  unmarked = λ i k e. unmarked_at words marks new new_marks len n b i (i == n / 64) refl h w m k e;
  marked = λ i k e. marked_at words marks new new_marks len n b i (i == n / 64) refl h w m k e;
  tail = λ k le. w.bits k (λ e. absurd (omega (arith, e, le, low))) ∙ h.tail k le;
  marks_tail = λ i le. m.others i (λ e. absurd (omega (arith, e, le, low, w.size, h.words_room.fit))) ∙ h.marks_tail i (omega (arith, le, w.size));
}

nonzero : (word k : ℕ) → bit_at word k ≡ 1 → word ≢ 0
nonzero word k h e = let zero_bit : bit_at word k ≡ 0 = rw e (bit_at-zero k) in absurd (omega (arith, h, zero_bit))

-- the mark is set with a bit of its word
pub mark_set : (marks new_marks words new : List ℕ) (n : ℕ) → IsWithBit words new n 1 → IsWithBit marks new_marks (n / 64) 1 → AreMarked marks new_marks new (n / 64)
mark_set marks new_marks words new n w m = record {
  size = m.size;
  others = m.bits;
  unmarked = λ z. absurd (omega (arith, z, m.here));
  marked = λ e. nonzero (get_or new (n / 64) 0) (n % 64) w.here;
}

-- the mark goes with the last bit of its word
pub mark_cleared : (marks new_marks new : List ℕ) (at : ℕ) → get_or new at 0 ≡ 0 → IsWithBit marks new_marks at 0 → AreMarked marks new_marks new at
mark_cleared marks new_marks new at zero m = record {
  size = m.size;
  others = m.bits;
  unmarked = λ z. zero;
  marked = λ e. absurd (omega (arith, e, m.here));
}

-- the mark stays where the word has another bit
pub mark_stays : (words marks new : List ℕ) (len n : ℕ) → AreLevels words marks len → n < len → bit_in words n ≡ 1 → get_or new (n / 64) 0 ≢ 0 → AreMarked marks marks new (n / 64)
mark_stays words marks new len n h low one other = record {
  size = refl;
  others = λ i e. refl;
  unmarked = λ z. absurd (nonzero (get_or words (n / 64) 0) (n % 64) one (h.unmarked (n / 64) (omega (arith, low, h.words_room.fit)) z));
  marked = λ e. other;
}

looked_at : (words marks new new_marks : List ℕ) (len n : ℕ) (t : Bool) → (get_or new (n / 64) 0 == 0) ≡ t → AreLevels words marks len → n < len → bit_in words n ≡ 1 → IsUnmarked (get_or new (n / 64) 0) marks new_marks (n / 64) → AreMarked marks new_marks new (n / 64)
looked_at words marks new new_marks len n true e h low one u = let empty = eqb-true _ _ e in mark_cleared marks new_marks new (n / 64) empty (u.empty empty)
looked_at words marks new new_marks len n false e h low one u = let other = eqb-false _ _ e in rw (u.other other) (mark_stays words marks new len n h low one other)

-- the mark of a word that lost a bit
pub mark_looked_at : (words marks new new_marks : List ℕ) (len n : ℕ) → AreLevels words marks len → n < len → bit_in words n ≡ 1 → IsUnmarked (get_or new (n / 64) 0) marks new_marks (n / 64) → AreMarked marks new_marks new (n / 64)
mark_looked_at words marks new new_marks len n h low one u = looked_at words marks new new_marks len n (get_or new (n / 64) 0 == 0) refl h low one u

-- All bits set.
full_word : (words : List ℕ) (len i : ℕ) → HasRoomFor len (length words) → AreAll 1 words len → i < length words → get_or words i 0 ≢ 0
full_word words len i room all h =
    let place : 64 * i / 64 ≡ i = omega arith in
    let first : 64 * i % 64 ≡ 0 = omega arith in
    let one : bit_in words (64 * i) ≡ 1 = all.below (64 * i) (omega (arith, h, room.tight)) in
    nonzero (get_or words i 0) 0 (rw (place, first) at one)

pub all_levels : (words marks : List ℕ) (len : ℕ) → HasRoomFor len (length words) → HasRoomFor (length words) (length marks) → AreAll 1 words len → AreAll 1 marks (length words) → AreLevels words marks len
all_levels words marks len room marks_room all marked = record {
  words_room = room;
  marks_room = marks_room;
  unmarked = λ i h z. absurd (omega (arith, marked.below i h, z));
  marked = λ i h e. full_word words len i room all h;
  tail = all.above;
  marks_tail = marked.above;
}

-- No bit set.
-- Words of zeros.
abbrev pub zeros : ℕ → List ℕ
zeros count = replicate count 0

zeros_length : (count : ℕ) → length (zeros count) ≡ count
zeros_length count = length-replicate {A = ℕ} count 0

zero_word_at : (count i : ℕ) (t : Bool) → nat_lt i count ≡ t → get_or (zeros count) i 0 ≡ 0
zero_word_at count i true e = get_or-replicate count i 0 0 (ltb-true i count e)
zero_word_at count i false e = get_or_past (zeros count) i 0 (omega (arith, zeros_length count, ltb-false i count e))

pub zero_bit : (count k : ℕ) → bit_in (zeros count) k ≡ 0
zero_bit count k = rw (zero_word_at count (k / 64) (nat_lt (k / 64) count) refl) (bit_at-zero (k % 64))

pub zero_levels : (len words marks : ℕ) → HasRoomFor len words → HasRoomFor words marks → AreLevels (zeros words) (zeros marks) len
zero_levels len words marks room marks_room = record {
  words_room = rw (zeros_length words) room;
  marks_room = rw (zeros_length words, zeros_length marks) marks_room;
  unmarked = λ i h z. zero_word_at words i (nat_lt i words) refl;
  marked = λ i h e. absurd (omega (arith, zero_bit marks i, e));
  tail = λ k le. zero_bit words k;
  marks_tail = λ i le. zero_bit marks i;
}
