-- A write makes a later RAM.
use Rattle.std.proofs.Common.{◌≡◌, ℕ, suc, ◌+◌, ◌-◌, ◌*◌, ◌/◌, ◌^◌, ◌≤◌, ◌<◌, ◌⊎◌, inl, inr, List, [], ◌∷◌, ◌++◌, length, take, drop, map, get_or, eqb, false, refl, arith, rules, length-append, add-zero}
use Rattle.std.specs.Prelude.{None}
use Rattle.std.proofs.lemmas.List.{places, length-map, length-take, length-drop, get_or-map, append-nil, take-append-drop}
use Rattle.std.proofs.lemmas.Bool.{cases_lt}
use Rattle.std.proofs.lemmas.Bool.Decides.{nat_tests}
use Rattle.guestmem.specs.declared.limits.TheConstants.{PAGE_SIZE}
use Rattle.guestmem.specs.Memory.{Memory}
use Rattle.guestmem.specs.Later.{IsLater}
use Rattle.guestmem.proofs.LaterLaws.{later_same}
use Rattle.guestmem.specs.Write.{put_at, raise, raised, written, refusal_of}

-- An access that is not refused lies inside RAM.
pub inside_of : (len at count : ℕ) → refusal_of len at count ≡ None → at + count ≤ len
inside_of len at count none = grind (arith, nat_tests)

pub put_at_below : (old bytes : List ℕ) (at a : ℕ) → at + length bytes ≤ length old → a < at → get_or (put_at old at bytes) a 0 ≡ get_or old a 0
put_at_below old bytes at a inside below = grind (arith, places)

pub put_at_above : (old bytes : List ℕ) (at a : ℕ) → at + length bytes ≤ length old → at + length bytes ≤ a → get_or (put_at old at bytes) a 0 ≡ get_or old a 0
put_at_above old bytes at a inside above = grind (arith, places)

pub raise_below : (versions : List ℕ) (first last n : ℕ) → first ≤ last → last < length versions → n < first → get_or (raise versions first last) n 0 ≡ get_or versions n 0
raise_below versions first last n order there below = grind (arith, places)

length_raised : (versions : List ℕ) (first last : ℕ) → first ≤ last → last < length versions → length (map raised (take (last + 1 - first) (drop first versions))) ≡ last + 1 - first
length_raised versions first last order there = simp (length-map, length-take, length-drop) (omega (arith, there, order))

pub raise_above : (versions : List ℕ) (first last n : ℕ) → first ≤ last → last < length versions → last < n → get_or (raise versions first last) n 0 ≡ get_or versions n 0
raise_above versions first last n order there above =
    let raised_len = length_raised versions first last order there in
    grind (arith, places, raised_len)

pub raise_inside : (versions : List ℕ) (first last n : ℕ) → first ≤ n → n ≤ last → last < length versions → get_or (raise versions first last) n 0 ≡ raised (get_or versions n 0)
raise_inside versions first last n low high there =
    let raised_len = length_raised versions first last (omega arith) there in
    let within : n - first < length (take (last + 1 - first) (drop first versions)) = simp (length-take, length-drop) (omega (arith, there, low, high)) in
    let at : get_or (map raised (take (last + 1 - first) (drop first versions))) (n - first) 0 ≡ raised (get_or (take (last + 1 - first) (drop first versions)) (n - first) 0) = get_or-map raised (take (last + 1 - first) (drop first versions)) (n - first) 0 0 within in
    let here : get_or (take (last + 1 - first) (drop first versions)) (n - first) 0 ≡ get_or versions n 0 = grind (arith, places) in
    grind (arith, places, raised_len, at, here)

raised_rises : (version : ℕ) → version ≤ raised version
raised_rises version = grind (arith, nat_tests)

raised_above : (version : ℕ) → version < 2 ^ 64 - 1 → version < raised version
raised_above version small = grind (arith, nat_tests)

-- No version falls.
raise_rises : (versions : List ℕ) (first last n : ℕ) → first ≤ last → last < length versions → get_or versions n 0 ≤ get_or (raise versions first last) n 0
raise_rises versions first last n order there =
    elim (cases_lt n first) as (λ _. get_or versions n 0 ≤ get_or (raise versions first last) n 0) [
      | inl below ↦ omega (arith, raise_below versions first last n order there below)
      | inr from ↦ elim (cases_lt last n) as (λ _. get_or versions n 0 ≤ get_or (raise versions first last) n 0) [
        | inl above ↦ omega (arith, raise_above versions first last n order there above)
        | inr to ↦ omega (arith, raise_inside versions first last n from to there, raised_rises (get_or versions n 0))
      ]
    ]

-- A version that stays, and is below the greatest, is that of a page outside.
outside : (versions : List ℕ) (first last n : ℕ) → first ≤ last → last < length versions → get_or (raise versions first last) n 0 ≡ get_or versions n 0 → get_or versions n 0 < 2 ^ 64 - 1 → (n < first) ⊎ (last < n)
outside versions first last n order there same small =
    elim (cases_lt n first) as (λ _. (n < first) ⊎ (last < n)) [
      | inl below ↦ inl below
      | inr from ↦ elim (cases_lt last n) as (λ _. (n < first) ⊎ (last < n)) [
        | inl above ↦ inr above
        | inr to ↦ absurd (omega (arith, raise_inside versions first last n from to there, same, small, raised_above (get_or versions n 0) small))
      ]
    ]

pub length-put_at : (old bytes : List ℕ) (at : ℕ) → at + length bytes ≤ length old → length (put_at old at bytes) ≡ length old
length-put_at old bytes at inside = simp (length-append, length-take, length-drop) (omega (arith, inside))

length-raise : (versions : List ℕ) (first last : ℕ) → first ≤ last → last < length versions → length (raise versions first last) ≡ length versions
length-raise versions first last order there = simp (length-append, length-map, length-take, length-drop) (omega (arith, order, there))

later_some : (m : Memory) (at : ℕ) (bytes : List ℕ) → 0 < length bytes → length m.bytes ≡ PAGE_SIZE * length m.versions → at + length bytes ≤ length m.bytes
    → IsLater m (record m { bytes = put_at m.bytes at bytes; versions = raise m.versions (at / PAGE_SIZE) ((at + length bytes - 1) / PAGE_SIZE) })
later_some m at bytes some pages inside =
    let first = at / PAGE_SIZE in
    let last = (at + length bytes - 1) / PAGE_SIZE in
    let order : first ≤ last = omega (arith, some) in
    let there : last < length m.versions = omega (arith, some, pages, inside) in
    record {
      bytes = length-put_at m.bytes bytes at inside;
      versions = length-raise m.versions first last order there;
      place = refl;
      rises = λ n. raise_rises m.versions first last n order there;
      stays = λ a same small.
          elim (outside m.versions first last (a / PAGE_SIZE) order there same small) as (λ _. get_or (put_at m.bytes at bytes) a 0 ≡ get_or m.bytes a 0) [
            | inl below ↦ (let h : a < at = omega (arith, below) in put_at_below m.bytes bytes at a inside h)
            | inr above ↦ (let h : at + length bytes ≤ a = omega (arith, above, some) in put_at_above m.bytes bytes at a inside h)
          ];
    }

pub later_written : (m : Memory) (at : ℕ) (bytes : List ℕ) → length m.bytes ≡ PAGE_SIZE * length m.versions → at + length bytes ≤ length m.bytes → IsLater m (written m at bytes)
later_written m at [] pages inside =
    let e : take at m.bytes ++ [] ++ drop (at + 0) m.bytes ≡ m.bytes = rw (append-nil, add-zero, take-append-drop) refl in
    rw e (later_same m)
later_written m at (byte ∷ bytes) pages inside =
    let some : eqb (suc (length bytes)) 0 ≡ false = search rules in
    rw some (later_some m at (byte ∷ bytes) (omega arith) pages inside)
