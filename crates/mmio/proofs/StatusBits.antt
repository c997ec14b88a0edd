-- A bit that is added to a status leaves the others alone.
use Rattle.std.specs.Prelude.{◌≡◌, ℕ, ◌+◌, ◌<◌, ◌^◌, ◌&&◌, Bool, true, false, if◌then◌else◌, bit_and, bit_or}
use Rattle.std.proofs.Common.{ap, ◌∙◌, ◌⊎◌, inl, inr, arith, refl}
use Rattle.std.proofs.lemmas.Bool.{and_parts, eqb-true}
use Rattle.std.proofs.lemmas.Nat.{and_comm, and_le_l, and_le_r, and_assoc, and_or_apart, and_or_self, and-not, or_lt}
use Rattle.std.specs.Int.Bits.{and_zero_r}
use Rattle.mmio.specs.Bits.{has, Has}
use Rattle.mmio.specs.Status.{is_accepted, with_free_bits, with_features_ok, status_after}
use Rattle.mmio.specs.Sound.{IsStatus}
use Rattle.mmio.specs.declared.common.Common.{Common}

-- bits that a mask shares with neither number nor addition
pub was_there : (s m n : ℕ) → bit_and m n ≡ 0 → Has (bit_or s m) n → Has s n
was_there s m n e h = rw (and_or_apart n s m e) at h

pub stays_there : (s m n : ℕ) → bit_and m n ≡ 0 → Has s n → Has (bit_or s m) n
stays_there s m n e h = rw (and_or_apart n s m e) h

-- a status has only known bits exactly where it has neither bit 16 nor bit 32
pub unknown_none : (s : ℕ) → Has 207 s → bit_and s 48 ≡ 0
unknown_none s h =
    let small : s < 2 ^ 8 = omega (arith, and_le_l 207 s, h) in
    let parts : bit_and 207 s + bit_and 48 s ≡ s = and-not 8 48 s (omega arith) small in
    let none : bit_and 48 s ≡ 0 = omega (arith, parts, h) in
    and_comm s 48 ∙ none

pub known_from_none : (s : ℕ) → s < 2 ^ 8 → bit_and s 48 ≡ 0 → Has 207 s
known_from_none s small e =
    let parts : bit_and 207 s + bit_and 48 s ≡ s = and-not 8 48 s (omega arith) small in
    let none : bit_and 48 s ≡ 0 = and_comm 48 s ∙ e in
    omega (arith, parts, none)

pub known_or : (s m : ℕ) → m < 2 ^ 8 → bit_and m 48 ≡ 0 → Has 207 s → Has 207 (bit_or s m)
known_or s m fits apart h =
    let small : s < 2 ^ 8 = omega (arith, and_le_l 207 s, h) in
    known_from_none (bit_or s m) (or_lt 8 s m small fits) (and_or_apart 48 s m apart ∙ unknown_none s h)

-- the free bits of a value share none with a mask that has none of them
pub free_apart : (v n : ℕ) → bit_and 131 n ≡ 0 → bit_and (bit_and v 131) n ≡ 0
free_apart v n e = and_assoc n v 131 ∙ (ap (λ k. bit_and v k) e ∙ and_zero_r v)

pub with_free : (v s : ℕ) → IsStatus s → IsStatus (with_free_bits v s)
with_free v s h = record {
  known = known_or s (bit_and v 131) (omega (arith, and_le_r v 131)) (free_apart v 48 refl) h.known;
  driver_ok = λ k. stays_there s (bit_and v 131) 8 (free_apart v 8 refl) (h.driver_ok (was_there s (bit_and v 131) 4 (free_apart v 4 refl) k));
  needs_reset = λ k. stays_there s (bit_and v 131) 4 (free_apart v 4 refl) (h.needs_reset (was_there s (bit_and v 131) 64 (free_apart v 64 refl) k));
}

pub with_features : (t : Bool) (s : ℕ) → IsStatus s → IsStatus (if t then bit_or s 8 else s)
with_features true s h = record {
  known = known_or s 8 (omega arith) refl h.known;
  driver_ok = λ k. and_or_self 8 s;
  needs_reset = λ k. stays_there s 8 4 refl (h.needs_reset (was_there s 8 64 refl k));
}
with_features false s h = h

pub with_driver : (t : Bool) (s : ℕ) → (t ≡ true → Has s 8) → IsStatus s → IsStatus (if t then bit_or s 4 else s)
with_driver true s p h = record {
  known = known_or s 4 (omega arith) refl h.known;
  driver_ok = λ k. stays_there s 4 8 refl (p refl);
  needs_reset = λ k. and_or_self 4 s;
}
with_driver false s p h = h

-- the status after a write is one
pub after_is_status : (offered : ℕ) (c : Common) (v : ℕ) → IsStatus c.status → IsStatus (status_after offered c v)
unfolding status_after
after_is_status offered c v h =
    let free = with_free_bits v c.status in
    let agreed = with_features_ok offered c.features v free in
    with_driver (has v 4 && has agreed 8) agreed
    (λ p. eqb-true (bit_and agreed 8) 8 (and_parts (has v 4) (has agreed 8) p).1)
    (with_features (has v 8 && is_accepted offered c.features) free (with_free v c.status h))

-- FEATURES_OK after a write was there, or the features were accepted
pub before_driver : (t : Bool) (s : ℕ) → Has (if t then bit_or s 4 else s) 8 → Has s 8
before_driver true s h = was_there s 4 8 refl h
before_driver false s h = h

pub before_features : (t : Bool) (s : ℕ) → Has (if t then bit_or s 8 else s) 8 → (t ≡ true) ⊎ Has s 8
before_features true s h = inl refl
before_features false s h = inr h

pub settled_before : (offered : ℕ) (c : Common) (v : ℕ) → Has (status_after offered c v) 8 → (is_accepted offered c.features ≡ true) ⊎ Has c.status 8
unfolding status_after
settled_before offered c v h =
    let free = with_free_bits v c.status in
    let agreed = with_features_ok offered c.features v free in
    elim (before_features (has v 8 && is_accepted offered c.features) free (before_driver (has v 4 && has agreed 8) agreed h)) [
      | inl accepted ↦ inl (and_parts (has v 8) (is_accepted offered c.features) accepted).1
      | inr there ↦ inr (was_there c.status (bit_and v 131) 8 (free_apart v 8 refl) there)
    ]

-- FEATURES_OK that was there stays there
pub after_driver : (t : Bool) (s : ℕ) → Has s 8 → Has (if t then bit_or s 4 else s) 8
after_driver true s h = stays_there s 4 8 refl h
after_driver false s h = h

pub after_features : (t : Bool) (s : ℕ) → Has s 8 → Has (if t then bit_or s 8 else s) 8
after_features true s h = and_or_self 8 s
after_features false s h = h

pub settled_after : (offered : ℕ) (c : Common) (v : ℕ) → Has c.status 8 → Has (status_after offered c v) 8
unfolding status_after
settled_after offered c v h =
    let free = with_free_bits v c.status in
    let agreed = with_features_ok offered c.features v free in
    after_driver (has v 4 && has agreed 8) agreed
    (after_features (has v 8 && is_accepted offered c.features) free
    (stays_there c.status (bit_and v 131) 8 (free_apart v 8 refl) h))

-- a driven device may ask for a reset
pub asked_is_status : (s : ℕ) → Has s 4 → IsStatus s → IsStatus (bit_or s 64)
asked_is_status s driven h = record {
  known = known_or s 64 (omega arith) refl h.known;
  driver_ok = λ k. stays_there s 64 8 refl (h.driver_ok driven);
  needs_reset = λ k. stays_there s 64 4 refl driven;
}
