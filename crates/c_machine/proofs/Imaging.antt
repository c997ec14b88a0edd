-- Disks that hold images.
use Rattle.std.proofs.Common.{◌≡◌, ◌≢◌, ◌≤◌, ◌<◌, ◌==◌, ◌*◌, ◌+◌, ◌-◌, ◌/◌, ◌%◌, ◌++◌, ℕ, Bool, true, false, nat_lt, List, [], ◌∷◌, refl, sym, ap, ◌∙◌, arith, length, drop, get_or, take, true≢false, eq-eqb}
use Rattle.std.specs.Prelude.{slice_set}
use Rattle.std.specs.List.{concat}
use Rattle.std.proofs.lemmas.Bool.Decides.{nat_tests}
use Rattle.std.proofs.lemmas.List.{append-nil, drop-take, drop_more, take-append-drop, take-take, take_more_set}
use Rattle.std.proofs.lemmas.List.Folds.{concat-append}
use Rattle.machine.specs.Shapes.{sector_count}
use Rattle.c_machine.specs.Images.{sectors_in}
use Rattle.c_machine.specs.Making.{shape_of, shapes_of}
use Rattle.c_machine.specs.declared.device_shape.DeviceShape.{DeviceShape}

-- Counting sectors off.
tests_same : (r s : Bool) → (r ≡ true → s ≡ true) → (s ≡ true → r ≡ true) → r ≡ s
tests_same true s to from = sym (to refl)
tests_same false true to from = from refl
tests_same false false to from = refl

pub eq_of : (a b : ℕ) → (a == b) ≡ true → a ≡ b
eq_of a b is = grind (arith, nat_tests)

pub same_numbers : (a b c d : ℕ) → (a ≡ b → c ≡ d) → (c ≡ d → a ≡ b) → (a == b) ≡ (c == d)
same_numbers a b c d to from = tests_same (a == b) (c == d) (λ is. eq-eqb c d (to (eq_of a b is))) (λ is. eq-eqb a b (from (eq_of c d is)))

pub not_whole : (bytes n : ℕ) → bytes % 512 ≢ 0 → false ≡ (bytes == 512 * n)
not_whole bytes n odd = tests_same false (bytes == 512 * n) (λ is. absurd (true≢false (sym is))) (λ is. absurd (odd (let e : bytes ≡ 512 * n = eq_of bytes (512 * n) is in omega (arith, e))))

pub whole_count : (bytes n : ℕ) → bytes % 512 ≡ 0 → (bytes / 512 == n) ≡ (bytes == 512 * n)
whole_count bytes n whole = same_numbers (bytes / 512) n bytes (512 * n) (λ e. omega (arith, e, whole)) (λ e. omega (arith, e))

at_shape : (left : ℕ) (shapes : List DeviceShape) (i : ℕ) (d : DeviceShape) → i < length shapes
    → (left == sectors_in (shapes_of (drop i shapes))) ≡ (left == sector_count (shape_of (get_or shapes i d)) + sectors_in (shapes_of (drop (i + 1) shapes)))
at_shape left shapes i d below = ap (λ (l : List DeviceShape). left == sectors_in (shapes_of l)) (drop_more shapes i d below)

pub too_many : (left s : ℕ) (shapes : List DeviceShape) (i : ℕ) (d : DeviceShape) (all : Bool) → i < length shapes → s ≡ sector_count (shape_of (get_or shapes i d)) → left < s
    → (left == sectors_in (shapes_of (drop i shapes))) ≡ all → false ≡ all
too_many left s shapes i d all below is less so_far =
    let rest = sectors_in (shapes_of (drop (i + 1) shapes)) in
    let size = sector_count (shape_of (get_or shapes i d)) in
    tests_same false (left == size + rest) (λ e. absurd (true≢false (sym e))) (λ e. absurd (let f : left ≡ size + rest = eq_of left (size + rest) e in omega (arith, f, is, less)))
    ∙ sym (at_shape left shapes i d below) ∙ so_far

pub counted_off : (left s : ℕ) (shapes : List DeviceShape) (i : ℕ) (d : DeviceShape) (all : Bool) → i < length shapes → s ≡ sector_count (shape_of (get_or shapes i d)) → s ≤ left
    → (left == sectors_in (shapes_of (drop i shapes))) ≡ all → (left - s == sectors_in (shapes_of (drop (i + 1) shapes))) ≡ all
counted_off left s shapes i d all below is fits so_far =
    let rest = sectors_in (shapes_of (drop (i + 1) shapes)) in
    let size = sector_count (shape_of (get_or shapes i d)) in
    same_numbers (left - s) rest left (size + rest) (λ e. omega (arith, e, is, fits)) (λ e. omega (arith, e, is, fits))
    ∙ sym (at_shape left shapes i d below) ∙ so_far

-- A disk of which one more sector is that of the image.
part_more : (xs : List ℕ) (m n : ℕ) → take m xs ++ take n (drop m xs) ≡ take (m + n) xs
part_more xs m n =
    rw (← drop-take m n xs, ← take-take m (m + n) xs (omega arith)) (take-append-drop m (take (m + n) xs))

pub sector_more : (disk next : List (List ℕ)) (image : List ℕ) (n sectors : ℕ) → length disk ≡ sectors → n < sectors → concat (take n disk) ≡ take (512 * n) image
    → next ≡ slice_set disk n (take 512 (drop (512 * n) image)) → concat (take (n + 1) next) ≡ take (512 * (n + 1)) image
sector_more disk next image n sectors size below so_far is =
    let piece = take 512 (drop (512 * n) image) in
    let more : take (n + 1) next ≡ take n disk ++ piece ∷ [] = ap (take (n + 1)) is ∙ take_more_set disk n piece (omega (arith, size, below)) in
    let end : 512 * (n + 1) ≡ 512 * n + 512 = omega arith in
    ap concat more
    ∙ concat-append (take n disk) (piece ∷ [])
    ∙ ap (λ (l : List ℕ). l ++ (piece ++ [])) so_far
    ∙ ap (λ (l : List ℕ). take (512 * n) image ++ l) (append-nil piece)
    ∙ part_more image (512 * n) 512
    ∙ ap (λ (i : ℕ). take i image) (sym end)

pub tested_from : (a b : ℕ) → nat_lt a b ≡ false → b ≤ a
tested_from a b is = grind (arith, nat_tests)
