-- Bits in words that are changed.
use Rattle.std.proofs.Common.{◌≡◌, ◌≢◌, zero, suc, [], ◌∷◌, ◌<◌, ℕ, ◌*◌, ◌/◌, ◌%◌, ◌^◌, Bool, true, false, List, length, get_or, refl, arith}
use Rattle.std.specs.Prelude.{◌==◌, set, bit_or, bit_and}
use Rattle.std.proofs.lemmas.List.{get_or-set_same, get_or-set_other, length-set}
use Rattle.std.proofs.lemmas.Bool.{eqb-true, eqb-false}
use Rattle.std.proofs.lemmas.Nat.Bits.{bit_at_set_same, bit_at_set_other, bit_at_clear_same, bit_at_clear_other}
use Rattle.std.specs.Int.{bit_at, bit_not}
use mir.Syntax.{w64}
use Rattle.dirtylog.specs.Words.{bit_in, IsWithBit}

apart : (k n : ℕ) → k ≢ n → k / 64 ≡ n / 64 → k % 64 ≢ n % 64
apart k n h e f = h (omega (arith, e, f))

-- A word is changed so that one bit of it becomes b, and no other changes.
pub record IsChanged (old new at b : ℕ) : Type 0 where
  pub here : bit_at new at ≡ b
  pub others : (k : ℕ) → k < 64 → k ≢ at → bit_at new k ≡ bit_at old k

other_bit : (words : List ℕ) (n k w b : ℕ) (t : Bool) → (k / 64 == n / 64) ≡ t → n / 64 < length words → k ≢ n → IsChanged (get_or words (n / 64) 0) w (n % 64) b → bit_in (set words (n / 64) w) k ≡ bit_in words k
other_bit words n k w b true e h other is =
    let same : k / 64 ≡ n / 64 = eqb-true _ _ e in
    rw (same, get_or-set_same words (n / 64) w 0 h) (is.others (k % 64) (omega arith) (apart k n other same))
other_bit words n k w b false e h other is = rw (get_or-set_other words (n / 64) (k / 64) w 0 (λ s. eqb-false _ _ e s)) refl

pub with_bit : (words : List ℕ) (n w b : ℕ) → n < 64 * length words → IsChanged (get_or words (n / 64) 0) w (n % 64) b → IsWithBit words (set words (n / 64) w) n b
with_bit words n w b h is =
    let low : n / 64 < length words = omega (arith, h) in record {
      size = length-set words (n / 64) w;
      here = rw (get_or-set_same words (n / 64) w 0 low) is.here;
      bits = λ k other. other_bit words n k w b (k / 64 == n / 64) refl low other is;
      words = λ i other. get_or-set_other words (n / 64) i w 0 other;
    }

pub is_set : (word w at : ℕ) → at < 64 → w ≡ bit_or word (1 * 2 ^ at % 2 ^ 64) → IsChanged word w at 1
is_set word w at h is = record { here = rw is (bit_at_set_same w64 word at h); others = λ k low other. rw is (bit_at_set_other w64 word at h k other) }

pub is_clear : (word w at : ℕ) → at < 64 → w ≡ bit_and word (bit_not w64 (1 * 2 ^ at % 2 ^ 64)) → IsChanged word w at 0
is_clear word w at h is = record { here = rw is (bit_at_clear_same w64 word at h); others = λ k low other. rw is (bit_at_clear_other w64 word at h k low other) }

pub any_default : (words : List ℕ) (i d e : ℕ) → i < length words → get_or words i d ≡ get_or words i e
any_default [] i d e h = absurd (omega arith)
any_default (x ∷ words) zero d e h = refl
any_default (x ∷ words) (suc i) d e h = any_default words i d e (omega arith)
