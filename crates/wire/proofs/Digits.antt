-- Numbers of given widths and their bytes, in both directions.
use Rattle.std.proofs.Common.{◌≡◌, ℕ, zero, suc, ◌+◌, ◌^◌, ◌<◌, ◌≤◌, Bool, true, false, nat_eq, List, [], ◌∷◌, ◌++◌, length, take, drop, refl, sym, ap, ◌∙◌, append_assoc, drop-drop, arith}
use Rattle.std.proofs.lemmas.List.{append-nil, length-append, length-take, length-drop, drop_at, drop-append-le}
use Rattle.std.proofs.Math.ListN.{get_or-append}
use Rattle.std.proofs.Math.Seq.{take-add}
use Rattle.std.specs.Prelude.{slice_index}
use Rattle.byteorder.specs.Endian.{little_from, little_number}
use Rattle.byteorder.specs.Numbers.{little_from-cons, little_from-take, little_number-reads_back, little_from-lt, length-bytes_low_first}
use Rattle.guestmem.proofs.ByteLaws.{IsBytes-drop, IsBytes-take, IsBytes-low_first}
use Rattle.guestmem.specs.Number.{number_at, IsBytes}
use Rattle.wire.specs.Numbers.{digits, spelled, numbers, Fit, flag}

-- Two lists of as many bytes that are one number are one list.
same_bytes : (xs ys : List ℕ) → IsBytes xs → IsBytes ys → length xs ≡ length ys → little_from 0 (length xs) xs ≡ little_from 0 (length ys) ys → xs ≡ ys
same_bytes [] [] a b long same = refl
same_bytes [] (y ∷ ys) a b long same = absurd (omega (arith, long))
same_bytes (x ∷ xs) [] a b long same = absurd (omega (arith, long))
same_bytes (x ∷ xs) (y ∷ ys) a b long same =
    let x_low : x < 256 = a 0 in
    let y_low : y < 256 = b 0 in
    let x_on = little_from-cons 0 (length xs) x xs in
    let y_on = little_from-cons 0 (length ys) y ys in
    let shorter : length xs ≡ length ys = omega (arith, long) in
    let first : x ≡ y = omega (arith, same, x_on, y_on, x_low, y_low) in
    let rest : little_from 0 (length xs) xs ≡ little_from 0 (length ys) ys = omega (arith, same, x_on, y_on, x_low, y_low) in
    let others : xs ≡ ys = same_bytes xs ys (λ i. a (suc i)) (λ i. b (suc i)) shorter rest in
    cc

pub length-digits : (w n : ℕ) → length (digits w n) ≡ w
length-digits zero n = refl
length-digits (suc zero) n = refl
length-digits (suc (suc w)) n = length-bytes_low_first 0 (suc (suc w)) n

-- The number that a spelled number reads as.
pub digits_read : (w n : ℕ) (rest : List ℕ) → n < 256 ^ w → little_from 0 w (digits w n ++ rest) ≡ n
digits_read zero n rest fits = omega arith
digits_read (suc zero) n rest fits = omega arith
digits_read (suc (suc w)) n rest fits = little_number-reads_back (suc (suc w)) n rest fits

pub IsBytes-digits : (w n : ℕ) → n < 256 ^ w → IsBytes (digits w n)
IsBytes-digits zero n fits i = omega arith
IsBytes-digits (suc zero) n fits zero = omega arith
IsBytes-digits (suc zero) n fits (suc i) = omega arith
IsBytes-digits (suc (suc w)) n fits i = IsBytes-low_first (suc (suc w)) 0 n i

-- The bytes that a number was read from are the number's.
pub digits-number_at : (w : ℕ) (bytes : List ℕ) (at : ℕ) → IsBytes bytes → at + w ≤ length bytes → digits w (number_at bytes at w) ≡ take w (drop at bytes)
unfolding number_at
digits-number_at w bytes at are within =
    let xs = drop at bytes in
    let n = little_from 0 w xs in
    let are_xs : IsBytes xs = IsBytes-drop at bytes are in
    let fits : n < 256 ^ w = little_from-lt 0 w xs are_xs in
    let long : length (take w xs) ≡ w = omega (arith, length-take w xs, length-drop at bytes) in
    let long_digits = length-digits w n in
    let back : little_from 0 w (digits w n ++ []) ≡ n = digits_read w n [] fits in
    let read : little_from 0 w (digits w n) ≡ n = rw append-nil at back in
    let taken : little_from 0 w (take w xs) ≡ n = little_from-take 0 w w xs (omega arith) in
    same_bytes (digits w n) (take w xs) (IsBytes-digits w n fits) (IsBytes-take w xs are_xs) (long_digits ∙ sym long)
    (ap (λ k. little_from 0 k (digits w n)) long_digits ∙ read ∙ sym taken ∙ ap (λ k. little_from 0 k (take w xs)) (sym long))

pub number_at-fits : (w at : ℕ) (bytes : List ℕ) → IsBytes bytes → number_at bytes at w < 256 ^ w
unfolding number_at
number_at-fits w at bytes are = little_from-lt 0 w (drop at bytes) (IsBytes-drop at bytes are)

-- The numbers that are read fit their widths.
pub numbers_fit : (ws : List ℕ) (at : ℕ) (bytes : List ℕ) → IsBytes bytes → Fit ws (numbers ws at bytes)
numbers_fit [] at bytes are = tt
numbers_fit (w ∷ ws) at bytes are = (number_at-fits w at bytes are, numbers_fit ws (at + w) bytes are)

-- The sum of these widths, in bytes.
abbrev pub total_width : List ℕ → ℕ
total_width [] = 0
total_width (w ∷ ws) = w + total_width ws

-- What is read is spelled as it stood.
pub spelled-numbers : (ws : List ℕ) (at : ℕ) (bytes : List ℕ) → IsBytes bytes → at + total_width ws ≤ length bytes → spelled ws (numbers ws at bytes) ≡ take (total_width ws) (drop at bytes)
spelled-numbers [] at bytes are within = refl
spelled-numbers (w ∷ ws) at bytes are within =
    let first : digits w (number_at bytes at w) ≡ take w (drop at bytes) = digits-number_at w bytes at are (omega arith) in
    let others : spelled ws (numbers ws (at + w) bytes) ≡ take (total_width ws) (drop (at + w) bytes) = spelled-numbers ws (at + w) bytes are (omega arith) in
    let on : drop w (drop at bytes) ≡ drop (at + w) bytes = drop-drop w at bytes in
    let both : take (w + total_width ws) (drop at bytes) ≡ take w (drop at bytes) ++ take (total_width ws) (drop w (drop at bytes)) = take-add w (total_width ws) (drop at bytes) in
    rw (both, on, first, others) refl

pub number_at-digits : (w n : ℕ) (front rest : List ℕ) → n < 256 ^ w → number_at (front ++ (digits w n ++ rest)) (length front) w ≡ n
unfolding number_at
number_at-digits w n front rest fits = rw (drop_at front (digits w n ++ rest) (length front) refl) (digits_read w n rest fits)

-- What is spelled is read as it was.
pub numbers-spelled : (ws ns front rest : List ℕ) → Fit ws ns → numbers ws (length front) (front ++ (spelled ws ns ++ rest)) ≡ ns
numbers-spelled [] [] front rest fits = refl
numbers-spelled [] (n ∷ ns) front rest fits = absurd fits
numbers-spelled (w ∷ ws) [] front rest fits = absurd fits
numbers-spelled (w ∷ ws) (n ∷ ns) front rest fits =
    let longer : length (front ++ digits w n) ≡ length front + w = omega (arith, length-append front (digits w n), length-digits w n) in
    let whole : front ++ ((digits w n ++ spelled ws ns) ++ rest) ≡ (front ++ digits w n) ++ (spelled ws ns ++ rest) = simp append_assoc in
    let first_whole : front ++ ((digits w n ++ spelled ws ns) ++ rest) ≡ front ++ (digits w n ++ (spelled ws ns ++ rest)) = simp append_assoc in
    let others = numbers-spelled ws ns (front ++ digits w n) rest fits.1 in
    let first : number_at (front ++ ((digits w n ++ spelled ws ns) ++ rest)) (length front) w ≡ n = rw first_whole (number_at-digits w n front (spelled ws ns ++ rest) fits.0) in
    let later : numbers ws (length front + w) (front ++ ((digits w n ++ spelled ws ns) ++ rest)) ≡ ns = rw (whole, ← longer) others in
    rw (first, later) refl

pub length-spelled : (ws ns : List ℕ) → Fit ws ns → length (spelled ws ns) ≡ total_width ws
length-spelled [] [] fits = refl
length-spelled [] (n ∷ ns) fits = absurd fits
length-spelled (w ∷ ws) [] fits = absurd fits
length-spelled (w ∷ ws) (n ∷ ns) fits = omega (arith, length-append (digits w n) (spelled ws ns), length-digits w n, length-spelled ws ns fits.1)

-- A number that is at most 1 is that of a truth value.
pub flag-number : (n : ℕ) → n ≤ 1 → flag (nat_eq n 1) ≡ n
flag-number zero few = refl
flag-number (suc zero) few = refl
flag-number (suc (suc n)) few = absurd (omega arith)

pub number-flag : (b : Bool) → nat_eq (flag b) 1 ≡ b
number-flag true = refl
number-flag false = refl

pub IsBytes-append : (xs ys : List ℕ) → IsBytes xs → IsBytes ys → IsBytes (xs ++ ys)
IsBytes-append [] ys a b i = b i
IsBytes-append (x ∷ xs) ys a b zero = a 0
IsBytes-append (x ∷ xs) ys a b (suc i) = IsBytes-append xs ys (λ k. a (suc k)) b i

-- Numbers that fit are spelled in bytes.
pub IsBytes-spelled : (ws ns : List ℕ) → Fit ws ns → IsBytes (spelled ws ns)
IsBytes-spelled [] ns fits i = omega arith
IsBytes-spelled (w ∷ ws) [] fits i = absurd fits
IsBytes-spelled (w ∷ ws) (n ∷ ns) fits i = IsBytes-append (digits w n) (spelled ws ns) (IsBytes-digits w n fits.0) (IsBytes-spelled ws ns fits.1) i

-- A number in a beginning of bytes is the same in all of them.
little_from-append : (i n : ℕ) (b c : List ℕ) → i + n ≤ length b → little_from i n (b ++ c) ≡ little_from i n b
little_from-append i zero b c le = refl
little_from-append i (suc n) b c le =
    let first : slice_index (b ++ c) i ≡ slice_index b i = get_or-append b c 0 i (omega (arith, le)) in
    let others : little_from (suc i) n (b ++ c) ≡ little_from (suc i) n b = little_from-append (suc i) n b c (omega (arith, le)) in
    rw (first, others) refl

pub number_at-append : (at w : ℕ) (b c : List ℕ) → at + w ≤ length b → number_at (b ++ c) at w ≡ number_at b at w
unfolding number_at
number_at-append at w b c le =
    ap (little_number w) (drop-append-le at b c (omega (arith, le))) ∙ little_from-append 0 w (drop at b) c (omega (arith, le, length-drop at b))
