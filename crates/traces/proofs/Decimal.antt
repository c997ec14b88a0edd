-- Decimal digits, written from the last to the first.
use Rattle.std.proofs.Common.{◌≡◌, ℕ, zero, suc, ◌+◌, ◌-◌, ◌*◌, ◌/◌, ◌%◌, ◌^◌, ◌<◌, ◌≤◌, List, [], ◌∷◌, ◌++◌, length, set, take, drop, decimal, refl, sym, ◌∙◌, arith, append_assoc}
use Rattle.std.proofs.Math.Nat.{pow-succ'}
use Rattle.std.proofs.lemmas.Fmt.{decimal_digit, decimal_step}
use Rattle.std.proofs.lemmas.List.{drop-set, drop-append-le, length-drop, length-append}
use Rattle.std.proofs.Math.Seq.{take-length}

-- a number with a digit to spare needs a place to the left
pub room_left : (n at : ℕ) → 1 ≤ at → 10 ≤ n → n < 10 ^ at → (2 ≤ at) × (n / 10 < 10 ^ (at - 1))
room_left n zero some h k = absurd (omega arith)
room_left n (suc zero) some h k = absurd (omega arith)
room_left n (suc (suc places)) some h k =
    let power : 10 ^ suc (suc places) ≡ 10 * 10 ^ suc places = pow-succ' 10 (suc places) in
    let here : suc (suc places) - 1 ≡ suc places = omega arith in
    (omega arith, rw here (omega (arith, power)))

pub digit_more : (number rest at : ℕ) (room : List ℕ) → 10 ≤ rest → rest < 2 ^ 64 → 1 ≤ at → at ≤ length room → decimal number ≡ decimal rest ++ drop at room
    → decimal number ≡ decimal (rest / 10) ++ drop (at - 1) (set room (at - 1) (48 + rest % 10))
digit_more number rest at room big fits some within so_far =
    let here : at - 1 + 1 ≡ at = omega arith in
    let set_there : drop (at - 1) (set room (at - 1) (48 + rest % 10)) ≡ (48 + rest % 10) ∷ drop (at - 1 + 1) room = drop-set room (at - 1) (48 + rest % 10) (omega arith) in
    so_far ∙ rw (decimal_step rest big fits, set_there, here) (append_assoc (decimal (rest / 10)) ((48 + rest % 10) ∷ []) (drop at room))

pub first_digit : (number rest at : ℕ) (room : List ℕ) → rest < 10 → 1 ≤ at → at ≤ length room → decimal number ≡ decimal rest ++ drop at room
    → drop (at - 1) (set room (at - 1) (48 + rest)) ≡ decimal number
first_digit number rest at room small some within so_far =
    let here : at - 1 + 1 ≡ at = omega arith in
    let set_there : drop (at - 1) (set room (at - 1) (48 + rest)) ≡ (48 + rest) ∷ drop (at - 1 + 1) room = drop-set room (at - 1) (48 + rest) (omega arith) in
    rw (set_there, here) (sym (so_far ∙ rw (decimal_digit rest small) refl))

-- the digits and the LF behind them
pub digits_and_end : (word room text : List ℕ) (at : ℕ) → length room ≡ 20 → at ≤ 20 → drop at room ≡ text
    → word ++ take (21 - at) (drop at (room ++ 10 ∷ [])) ≡ word ++ text ++ 10 ∷ []
digits_and_end word room text at size within is =
    let cut : drop at (room ++ 10 ∷ []) ≡ drop at room ++ 10 ∷ [] = drop-append-le at room (10 ∷ []) (omega arith) in
    let count : 21 - at ≡ length (drop at room ++ 10 ∷ []) = omega (arith, length-append (drop at room) (10 ∷ []), length-drop at room) in
    rw (cut, count, take-length, is) (sym (append_assoc word text (10 ∷ [])))
