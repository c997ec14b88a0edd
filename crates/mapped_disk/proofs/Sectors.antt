-- Bytes that are cut into sectors, and sectors side by side.
use Rattle.std.proofs.Common.{◌≡◌, ℕ, ◌+◌, ◌*◌, ◌<◌, List, [], ◌∷◌, ◌++◌, length, take, drop, get_or, set, refl, sym, ap, ◌∙◌, arith}
use Prim.Native.Nat.{zero, suc}
use native.Mathlib.Nat.{suc-le-suc_iff, zero-lt-suc}
use borrow.Rule.Slice.PartMut.{put_mid}
use Rattle.std.proofs.lemmas.List.{append_assoc, length-append, length-drop, length-take-le, take-append-drop, take-take, take_at, drop_at, drop-drop, drop-take}
use Rattle.blk.specs.Disk.{AreSectors}
use Rattle.mapped_disk.specs.Bytes.{bytes_of, cut}

pub length_cut : (n : ℕ) (xs : List ℕ) → length (cut n xs) ≡ n
length_cut zero xs = refl
length_cut (suc n) xs = ap suc (length_cut n (drop 512 xs))

rest_whole : (n : ℕ) (xs : List ℕ) → length xs ≡ suc n * 512 → length (drop 512 xs) ≡ n * 512
rest_whole n xs e = length-drop 512 xs ∙ omega (arith, e)

none_left : (xs : List ℕ) → length xs ≡ 0 → [] ≡ xs
none_left [] e = refl
none_left (x ∷ xs) e = absurd cc

-- Bytes that are cut and laid side by side again are as they were.
pub bytes_cut : (n : ℕ) (xs : List ℕ) → length xs ≡ n * 512 → bytes_of (cut n xs) ≡ xs
bytes_cut zero xs e = none_left xs e
bytes_cut (suc n) xs e = ap (λ (ys : List ℕ). take 512 xs ++ ys) (bytes_cut n (drop 512 xs) (rest_whole n xs e)) ∙ take-append-drop 512 xs

rest_are : (x : List ℕ) (xs : List (List ℕ)) → AreSectors (x ∷ xs) → AreSectors xs
rest_are x xs are k d within = are (suc k) d (suc-le-suc_iff.1 within)

first_size : (x : List ℕ) (xs : List (List ℕ)) → AreSectors (x ∷ xs) → length x ≡ 512
first_size x xs are = (are 0 [] (zero-lt-suc (length xs))).size

pub length_bytes : (xs : List (List ℕ)) → AreSectors xs → length (bytes_of xs) ≡ length xs * 512
length_bytes [] are = refl
length_bytes (x ∷ xs) are = omega (arith, length-append x (bytes_of xs), first_size x xs are, length_bytes xs (rest_are x xs are))

-- Sectors whose bytes are cut are as they were.
pub cut_bytes : (xs : List (List ℕ)) → AreSectors xs → cut (length xs) (bytes_of xs) ≡ xs
cut_bytes [] are = refl
cut_bytes (x ∷ xs) are =
    rw (take_at x (bytes_of xs) 512 (first_size x xs are), drop_at x (bytes_of xs) 512 (first_size x xs are), cut_bytes xs (rest_are x xs are)) refl

-- Sector k is the 512 bytes from k * 512 on.
pub at_cut : (n k : ℕ) (xs : List ℕ) (d : List ℕ) → k < n → get_or (cut n xs) k d ≡ take 512 (drop (k * 512) xs)
at_cut zero k xs d within = absurd (omega (arith, within))
at_cut (suc n) zero xs d within = refl
at_cut (suc n) (suc k) xs d within =
    let e : suc k * 512 ≡ 512 + k * 512 = omega arith in
    rw (e, ← drop-drop (k * 512) 512 xs) (at_cut n k (drop 512 xs) d (omega (arith, within)))

take_sum : (n m : ℕ) (xs : List ℕ) → take (n + m) xs ≡ take n xs ++ take m (drop n xs)
take_sum n m xs = rw (← take-take n (n + m) xs (omega arith), ← drop-take n m xs) (sym (take-append-drop n (take (n + m) xs)))

behind_first : (j : ℕ) (xs ys : List ℕ) → put_mid (512 + j) 512 xs ys ≡ take 512 xs ++ put_mid j 512 (drop 512 xs) ys
behind_first j xs ys = rw (take_sum 512 j xs, ← drop-drop j 512 xs) (append_assoc (take 512 xs) (take j (drop 512 xs)) (ys ++ drop 512 (drop j (drop 512 xs))))

-- A write over the bytes of a sector is a write of that sector.
pub cut_put : (n k : ℕ) (xs ys : List ℕ) → k < n → length xs ≡ n * 512 → length ys ≡ 512 → cut n (put_mid (k * 512) 512 xs ys) ≡ set (cut n xs) k ys
cut_put zero k xs ys within whole size = absurd (omega (arith, within))
cut_put (suc n) zero xs ys within whole size = rw (take_at ys (drop 512 xs) 512 size, drop_at ys (drop 512 xs) 512 size) refl
cut_put (suc n) (suc k) xs ys within whole size =
    let e : suc k * 512 ≡ 512 + k * 512 = omega arith in
    let first : length (take 512 xs) ≡ 512 = length-take-le 512 xs (omega (arith, whole)) in
    let rest : List ℕ = put_mid (k * 512) 512 (drop 512 xs) ys in
    rw (e, behind_first (k * 512) xs ys, take_at (take 512 xs) rest 512 first, drop_at (take 512 xs) rest 512 first, cut_put n k (drop 512 xs) ys (omega (arith, within)) (rest_whole n xs whole) size) refl
