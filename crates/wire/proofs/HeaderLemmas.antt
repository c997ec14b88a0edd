-- Shapes: what is spelled is read, and what is read was spelled. The first bytes of a header.
use Rattle.std.proofs.lemmas.Bool.{eqb-true, eqb-false, ne_eqb, ltb-false, ltb-true, le-ltb, lt-ltb}
use Rattle.std.proofs.lemmas.List.{drop-drop, drop_at, take_at, length-take, length-drop}
use Rattle.guestmem.proofs.ByteLaws.{IsBytes-drop, IsBytes-take}
use Rattle.guestmem.specs.Number.{number_at, IsBytes}
use Rattle.wire.specs.Numbers.{digits, spelled, Fit, flag}
use Rattle.wire.proofs.Digits.{digits-number_at, number_at-digits, spelled-numbers, numbers-spelled, length-digits, length-spelled, flag-number, number-flag, number_at-fits}
use Rattle.wire.proofs.Choices.{some, same_found, not_chosen, neither}
use Rattle.std.proofs.Common.{◌≡◌, ℕ, suc, ◌+◌, ◌-◌, ◌<◌, ◌≤◌, List, [], ◌∷◌, ◌++◌, length, drop, take, get_or, subst, ◌≢◌, nat_eq, nat_lt, Option, Some, None, Bool, true, false, cond, refl, sym, ap, ◌∙◌, length-append, append_assoc, take-append-drop, arith, eqb, not}
use Rattle.std.specs.Int.{byte_at}
use Rattle.std.specs.Prelude.{codes, ◌||◌, ◌%◌}
use Rattle.machine.specs.declared.shape.Shape.{Shape}
use Rattle.machine.specs.declared.shape.Shape.TheVariants.{Net, LongNet, Block, Outside, Console, Entropy}
use Rattle.blk.specs.Shape.{IsBlockShape, IsOutsideShape}
use Rattle.net.specs.Shape.{IsLongNet, IsMac}
use Rattle.machine.specs.Limits.{IsShapeWithin}
use Rattle.machine.specs.Sound.{IsSoundShape}
use Rattle.machine.specs.declared.limits.Limits.{Limits}
use Rattle.wire.specs.ShapeReading.{block_shape_of, long_net_shape_of, net_shape_of, outside_shape_of, shape_of}
use Rattle.wire.proofs.Lists.{WasSpelled}
use Rattle.wire.proofs.Versions.{late_within}
use Rattle.wire.specs.Header.{allow_late, spelled_shape, front, shape_length}

-- A shape that is spelled is read, and one that is read was spelled.
abbrev block_widths : List ℕ
block_widths = 8 ∷ 1 ∷ []

-- What the bytes behind its number say of a block device.
record SaysBlock (bytes : List ℕ) (sectors : ℕ) (read_only : Bool) (id rest : List ℕ) : Type 0 where
  pub long : 29 ≤ length bytes
  pub sectors_are : number_at bytes 0 8 ≡ sectors
  pub only : number_at bytes 8 1 ≡ flag read_only
  pub id_is : take 20 (drop 9 bytes) ≡ id
  pub rest_is : drop 20 (drop 9 bytes) ≡ rest

flag_fits : (b : Bool) → flag b < 256
flag_fits true = omega arith
flag_fits false = omega arith

flag_few : (b : Bool) → flag b ≤ 1
flag_few true = omega arith
flag_few false = omega arith

block_says : (sectors : ℕ) (read_only : Bool) (id rest : List ℕ) → sectors ≤ 18014398509481984 → length id ≡ 20 → SaysBlock ((digits 8 sectors ++ (flag read_only ∷ id)) ++ rest) sectors read_only id rest
block_says sectors read_only id rest few id_size =
    let fits : Fit block_widths (sectors ∷ flag read_only ∷ []) = (omega (arith, few), (flag_fits read_only, tt)) in
    let read = numbers-spelled block_widths (sectors ∷ flag read_only ∷ []) [] (id ++ rest) fits in
    let nth = λ (k : ℕ). ap (λ (ns : List ℕ). get_or ns k 0) read in
    record {
      long = omega (arith, length-append (digits 8 sectors ++ (flag read_only ∷ id)) rest, length-append (digits 8 sectors) (flag read_only ∷ id), length-digits 8 sectors, id_size);
      sectors_are = nth 0;
      only = nth 1;
      id_is = take_at id rest 20 id_size;
      rest_is = drop_at id rest 20 id_size;
    }

block_reads : (bytes : List ℕ) (sectors : ℕ) (read_only : Bool) (id rest : List ℕ) → IsBlockShape sectors id → SaysBlock bytes sectors read_only id rest → block_shape_of bytes ≡ Some (Block sectors read_only id, rest)
unfolding block_shape_of
block_reads bytes sectors read_only id rest good says =
    let long : nat_lt (length bytes) 29 ≡ false = le-ltb _ _ says.long in
    let one : nat_lt 1 (flag read_only) ≡ false = le-ltb _ _ (flag_few read_only) in
    let some : eqb sectors 0 ≡ false = ne_eqb _ _ (λ (z : sectors ≡ 0). omega (arith, good.some)) in
    let few : nat_lt 4294967295 sectors ≡ false = le-ltb _ _ good.few in
    rw (long, says.only, one, says.sectors_are, some, few, number-flag read_only, says.id_is, says.rest_is) refl

outside_reads : (bytes : List ℕ) (sectors : ℕ) (read_only : Bool) (id rest : List ℕ) → IsOutsideShape sectors id → SaysBlock bytes sectors read_only id rest → outside_shape_of bytes ≡ Some (Outside sectors read_only id, rest)
unfolding outside_shape_of
outside_reads bytes sectors read_only id rest good says =
    let long : nat_lt (length bytes) 29 ≡ false = le-ltb _ _ says.long in
    let one : nat_lt 1 (flag read_only) ≡ false = le-ltb _ _ (flag_few read_only) in
    let some : eqb sectors 0 ≡ false = ne_eqb _ _ (λ (z : sectors ≡ 0). omega (arith, good.some)) in
    let few : nat_lt 18014398509481984 sectors ≡ false = le-ltb _ _ good.few in
    rw (long, says.only, one, says.sectors_are, some, few, number-flag read_only, says.id_is, says.rest_is) refl

net_reads : (mac rest : List ℕ) → IsMac mac → net_shape_of (mac ++ rest) ≡ Some (Net mac, rest)
unfolding net_shape_of
net_reads mac rest good =
    let long : nat_lt (length (mac ++ rest)) 6 ≡ false = le-ltb _ _ (omega (arith, length-append mac rest, good.size)) in
    rw (long, take_at mac rest 6 good.size, drop_at mac rest 6 good.size) refl

long_reads : (mac rest : List ℕ) (longest : ℕ) → IsLongNet mac longest → long_net_shape_of ((mac ++ digits 2 longest) ++ rest) ≡ Some (LongNet mac longest, rest)
unfolding long_net_shape_of
long_reads mac rest longest good =
    let front = length-append mac (digits 2 longest) in
    let both : length (mac ++ digits 2 longest) ≡ 8 = omega (arith, front, length-digits 2 longest, good.address.size) in
    let grouped = append_assoc mac (digits 2 longest) rest in
    let long : nat_lt (length ((mac ++ digits 2 longest) ++ rest)) 8 ≡ false = le-ltb _ _ (omega (arith, length-append (mac ++ digits 2 longest) rest, both)) in
    let told : number_at ((mac ++ digits 2 longest) ++ rest) 6 2 ≡ longest = ap (λ (x : List ℕ). number_at x 6 2) grouped ∙ subst (λ (k : ℕ). number_at (mac ++ (digits 2 longest ++ rest)) k 2 ≡ longest) good.address.size (number_at-digits 2 longest mac rest (omega (arith, good.most))) in
    let more : nat_lt 1514 longest ≡ true = lt-ltb 1514 longest good.longer in
    let address : take 6 ((mac ++ digits 2 longest) ++ rest) ≡ mac = ap (take 6) grouped ∙ take_at mac (digits 2 longest ++ rest) 6 good.address.size in
    rw (long, told, more, address, drop_at (mac ++ digits 2 longest) rest 8 both) refl

pub shape_of-spelled : (s : Shape) (rest : List ℕ) → IsSoundShape s → shape_of (spelled_shape s ++ rest) ≡ Some (s, rest)
unfolding shape_of spelled_shape
shape_of-spelled (Net mac) rest good = net_reads mac rest good
shape_of-spelled (LongNet mac longest) rest good = long_reads mac rest longest good
shape_of-spelled (Block sectors read_only id) rest good =
    block_reads ((digits 8 sectors ++ (flag read_only ∷ id)) ++ rest) sectors read_only id rest good (block_says sectors read_only id rest (omega (arith, good.few)) good.id_size)
shape_of-spelled (Outside sectors read_only id) rest good =
    outside_reads ((digits 8 sectors ++ (flag read_only ∷ id)) ++ rest) sectors read_only id rest good (block_says sectors read_only id rest good.few good.id_size)
shape_of-spelled Console rest good = refl
shape_of-spelled Entropy rest good = refl

one_more_number : (sectors only : ℕ) (id rest : List ℕ) → spelled block_widths (sectors ∷ only ∷ []) ++ (id ++ rest) ≡ (digits 8 sectors ++ (only ∷ id)) ++ rest
one_more_number sectors only id rest = refl

block_written : (bytes : List ℕ) (sectors : ℕ) → IsBytes bytes → 29 ≤ length bytes → number_at bytes 0 8 ≡ sectors → number_at bytes 8 1 ≤ 1
    → bytes ≡ (digits 8 sectors ++ (flag (nat_eq (number_at bytes 8 1) 1) ∷ take 20 (drop 9 bytes))) ++ drop 20 (drop 9 bytes)
block_written bytes sectors are long sectors_are few =
    let taken : spelled block_widths (number_at bytes 0 8 ∷ number_at bytes 8 1 ∷ []) ≡ take 9 bytes = spelled-numbers block_widths 0 bytes are (omega (arith, long)) in
    sym (take-append-drop 9 bytes)
    ∙ ap (λ (x : List ℕ). x ++ drop 9 bytes) (sym taken)
    ∙ ap (λ (x : List ℕ). spelled block_widths (number_at bytes 0 8 ∷ number_at bytes 8 1 ∷ []) ++ x) (sym (take-append-drop 20 (drop 9 bytes)))
    ∙ one_more_number (number_at bytes 0 8) (number_at bytes 8 1) (take 20 (drop 9 bytes)) (drop 20 (drop 9 bytes))
    ∙ ap (λ (x : ℕ). (digits 8 x ++ (number_at bytes 8 1 ∷ take 20 (drop 9 bytes))) ++ drop 20 (drop 9 bytes)) sectors_are
    ∙ ap (λ (x : ℕ). (digits 8 sectors ++ (x ∷ take 20 (drop 9 bytes))) ++ drop 20 (drop 9 bytes)) (sym (flag-number (number_at bytes 8 1) few))

block_sound : (bytes : List ℕ) → IsBytes bytes → 29 ≤ length bytes → eqb (number_at bytes 0 8) 0 ≡ false → nat_lt 4294967295 (number_at bytes 0 8) ≡ false → IsBlockShape (number_at bytes 0 8) (take 20 (drop 9 bytes))
block_sound bytes are long some few =
    let is : number_at bytes 0 8 ≢ 0 = eqb-false (number_at bytes 0 8) 0 some in
    record {
      some = omega (arith, is);
      few = ltb-false 4294967295 (number_at bytes 0 8) few;
      id_size = omega (arith, long, length-take 20 (drop 9 bytes), length-drop 9 bytes);
      id_bytes = IsBytes-take 20 (drop 9 bytes) (IsBytes-drop 9 bytes are);
    }

outside_sound : (bytes : List ℕ) → IsBytes bytes → 29 ≤ length bytes → eqb (number_at bytes 0 8) 0 ≡ false → nat_lt 18014398509481984 (number_at bytes 0 8) ≡ false → IsOutsideShape (number_at bytes 0 8) (take 20 (drop 9 bytes))
outside_sound bytes are long some few =
    let is : number_at bytes 0 8 ≢ 0 = eqb-false (number_at bytes 0 8) 0 some in
    record {
      some = omega (arith, is);
      few = ltb-false 18014398509481984 (number_at bytes 0 8) few;
      id_size = omega (arith, long, length-take 20 (drop 9 bytes), length-drop 9 bytes);
      id_bytes = IsBytes-take 20 (drop 9 bytes) (IsBytes-drop 9 bytes are);
    }

abbrev ShapeRead : List ℕ → Shape × List ℕ → Type 0
ShapeRead bytes found = WasSpelled spelled_shape IsSoundShape bytes found

net_read : (n : ℕ) (bytes : List ℕ) (found : Shape × List ℕ) → IsBytes bytes → n ≡ 1 → net_shape_of bytes ≡ Some found → ShapeRead (n ∷ bytes) found
unfolding net_shape_of spelled_shape
net_read n bytes found are one e =
    let long = not_chosen (nat_lt (length bytes) 6) _ found e in
    let within = ltb-false (length bytes) 6 long.0 in
    subst (λ (y : Shape × List ℕ). ShapeRead (n ∷ bytes) y) (same_found _ found long.1) (record {
      good = record { size = omega (arith, within, length-take 6 bytes); bytes = IsBytes-take 6 bytes are };
      whole = ap (λ (k : ℕ). k ∷ bytes) one ∙ ap (λ (x : List ℕ). 1 ∷ x) (sym (take-append-drop 6 bytes));
    })

block_read : (n : ℕ) (bytes : List ℕ) (found : Shape × List ℕ) → IsBytes bytes → n ≡ 2 → block_shape_of bytes ≡ Some found → ShapeRead (n ∷ bytes) found
unfolding block_shape_of spelled_shape
block_read n bytes found are two e =
    let long = not_chosen (nat_lt (length bytes) 29 || nat_lt 1 (number_at bytes 8 1)) _ found e in
    let some = not_chosen (eqb (number_at bytes 0 8) 0 || nat_lt 4294967295 (number_at bytes 0 8)) _ found long.1 in
    let size = neither (nat_lt (length bytes) 29) (nat_lt 1 (number_at bytes 8 1)) long.0 in
    let limits = neither (eqb (number_at bytes 0 8) 0) (nat_lt 4294967295 (number_at bytes 0 8)) some.0 in
    let within = ltb-false (length bytes) 29 size.0 in
    subst (λ (y : Shape × List ℕ). ShapeRead (n ∷ bytes) y) (same_found _ found some.1) (record {
      good = block_sound bytes are within limits.0 limits.1;
      whole = ap (λ (k : ℕ). k ∷ bytes) two ∙ ap (λ (x : List ℕ). 2 ∷ x) (block_written bytes (number_at bytes 0 8) are within refl (ltb-false 1 (number_at bytes 8 1) size.1));
    })

outside_read : (n : ℕ) (bytes : List ℕ) (found : Shape × List ℕ) → IsBytes bytes → n ≡ 130 → outside_shape_of bytes ≡ Some found → ShapeRead (n ∷ bytes) found
unfolding outside_shape_of spelled_shape
outside_read n bytes found are is e =
    let long = not_chosen (nat_lt (length bytes) 29 || nat_lt 1 (number_at bytes 8 1)) _ found e in
    let some = not_chosen (eqb (number_at bytes 0 8) 0 || nat_lt 18014398509481984 (number_at bytes 0 8)) _ found long.1 in
    let size = neither (nat_lt (length bytes) 29) (nat_lt 1 (number_at bytes 8 1)) long.0 in
    let limits = neither (eqb (number_at bytes 0 8) 0) (nat_lt 18014398509481984 (number_at bytes 0 8)) some.0 in
    let within = ltb-false (length bytes) 29 size.0 in
    subst (λ (y : Shape × List ℕ). ShapeRead (n ∷ bytes) y) (same_found _ found some.1) (record {
      good = outside_sound bytes are within limits.0 limits.1;
      whole = ap (λ (k : ℕ). k ∷ bytes) is ∙ ap (λ (x : List ℕ). 130 ∷ x) (block_written bytes (number_at bytes 0 8) are within refl (ltb-false 1 (number_at bytes 8 1) size.1));
    })

long_written : (bytes : List ℕ) → IsBytes bytes → 8 ≤ length bytes → bytes ≡ (take 6 bytes ++ digits 2 (number_at bytes 6 2)) ++ drop 8 bytes
long_written bytes are long =
    let two : digits 2 (number_at bytes 6 2) ≡ take 2 (drop 6 bytes) = digits-number_at 2 bytes 6 are (omega (arith, long)) in
    let rest : drop 2 (drop 6 bytes) ≡ drop 8 bytes = drop-drop 2 6 bytes in
    sym (take-append-drop 6 bytes)
    ∙ ap (λ (x : List ℕ). take 6 bytes ++ x) (sym (take-append-drop 2 (drop 6 bytes)))
    ∙ ap (λ (x : List ℕ). take 6 bytes ++ (x ++ drop 2 (drop 6 bytes))) (sym two)
    ∙ ap (λ (x : List ℕ). take 6 bytes ++ (digits 2 (number_at bytes 6 2) ++ x)) rest
    ∙ sym (append_assoc (take 6 bytes) (digits 2 (number_at bytes 6 2)) (drop 8 bytes))

not_so : (b : Bool) → not b ≡ false → b ≡ true
not_so true e = refl
not_so false e = absurd cc

long_read : (n : ℕ) (bytes : List ℕ) (found : Shape × List ℕ) → IsBytes bytes → n ≡ 129 → long_net_shape_of bytes ≡ Some found → ShapeRead (n ∷ bytes) found
unfolding long_net_shape_of spelled_shape
long_read n bytes found are is e =
    let good = not_chosen (nat_lt (length bytes) 8 || not (nat_lt 1514 (number_at bytes 6 2))) _ found e in
    let both = neither (nat_lt (length bytes) 8) (not (nat_lt 1514 (number_at bytes 6 2))) good.0 in
    let within = ltb-false (length bytes) 8 both.0 in
    subst (λ (y : Shape × List ℕ). ShapeRead (n ∷ bytes) y) (same_found _ found good.1) (record {
      good = record { address = record { size = omega (arith, within, length-take 6 bytes); bytes = IsBytes-take 6 bytes are }; longer = ltb-true 1514 (number_at bytes 6 2) (not_so (nat_lt 1514 (number_at bytes 6 2)) both.1); most = omega (arith, number_at-fits 2 6 bytes are) };
      whole = ap (λ (k : ℕ). k ∷ bytes) is ∙ ap (λ (x : List ℕ). 129 ∷ x) (long_written bytes are within);
    })

last_read : (n : ℕ) (bytes : List ℕ) (found : Shape × List ℕ) (is : Bool) → IsBytes bytes → eqb n 130 ≡ is → cond is (outside_shape_of bytes) None ≡ Some found → ShapeRead (n ∷ bytes) found
last_read n bytes found true are outside e = outside_read n bytes found are (eqb-true n 130 outside) e
last_read n bytes found false are outside e = absurd cc

-- The shapes that are since version 3.
abbrev late_shape_of : ℕ → List ℕ → Option (Shape × List ℕ)
late_shape_of n bytes = cond (eqb n 129) (long_net_shape_of bytes) (cond (eqb n 130) (outside_shape_of bytes) None)

late_read : (n : ℕ) (bytes : List ℕ) (found : Shape × List ℕ) (is : Bool) → IsBytes bytes → eqb n 129 ≡ is → cond is (long_net_shape_of bytes) (cond (eqb n 130) (outside_shape_of bytes) None) ≡ Some found → ShapeRead (n ∷ bytes) found
late_read n bytes found true are long e = long_read n bytes found are (eqb-true n 129 long) e
late_read n bytes found false are long e = last_read n bytes found (eqb n 130) are refl e

entropy_read : (n : ℕ) (bytes : List ℕ) (found : Shape × List ℕ) (is : Bool) → IsBytes bytes → eqb n 4 ≡ is → cond is (Some (Entropy, bytes)) (late_shape_of n bytes) ≡ Some found → ShapeRead (n ∷ bytes) found
unfolding spelled_shape
entropy_read n bytes found true are four e =
    subst (λ (y : Shape × List ℕ). ShapeRead (n ∷ bytes) y) (same_found (Entropy, bytes) found e) (record { good = tt; whole = ap (λ (k : ℕ). k ∷ bytes) (eqb-true n 4 four) })
entropy_read n bytes found false are four e = late_read n bytes found (eqb n 129) are refl e

console_read : (n : ℕ) (bytes : List ℕ) (found : Shape × List ℕ) (is : Bool) → IsBytes bytes → eqb n 3 ≡ is → cond is (Some (Console, bytes)) (cond (eqb n 4) (Some (Entropy, bytes)) (late_shape_of n bytes)) ≡ Some found → ShapeRead (n ∷ bytes) found
unfolding spelled_shape
console_read n bytes found true are three e =
    subst (λ (y : Shape × List ℕ). ShapeRead (n ∷ bytes) y) (same_found (Console, bytes) found e) (record { good = tt; whole = ap (λ (k : ℕ). k ∷ bytes) (eqb-true n 3 three) })
console_read n bytes found false are three e = entropy_read n bytes found (eqb n 4) are refl e

from_block_read : (n : ℕ) (bytes : List ℕ) (found : Shape × List ℕ) (is : Bool) → IsBytes bytes → eqb n 2 ≡ is
    → cond is (block_shape_of bytes) (cond (eqb n 3) (Some (Console, bytes)) (cond (eqb n 4) (Some (Entropy, bytes)) (late_shape_of n bytes))) ≡ Some found → ShapeRead (n ∷ bytes) found
from_block_read n bytes found true are two e = block_read n bytes found are (eqb-true n 2 two) e
from_block_read n bytes found false are two e = console_read n bytes found (eqb n 3) are refl e

shape_read : (n : ℕ) (bytes : List ℕ) (found : Shape × List ℕ) (is : Bool) → IsBytes bytes → eqb n 1 ≡ is
    → cond is (net_shape_of bytes) (cond (eqb n 2) (block_shape_of bytes) (cond (eqb n 3) (Some (Console, bytes)) (cond (eqb n 4) (Some (Entropy, bytes)) (late_shape_of n bytes)))) ≡ Some found → ShapeRead (n ∷ bytes) found
shape_read n bytes found true are one e = net_read n bytes found are (eqb-true n 1 one) e
shape_read n bytes found false are one e = from_block_read n bytes found (eqb n 2) are refl e

pub spelled-shape_of : (bytes : List ℕ) (found : Shape × List ℕ) → IsBytes bytes → shape_of bytes ≡ Some found → ShapeRead bytes found
unfolding shape_of
spelled-shape_of [] found are e = absurd cc
spelled-shape_of (n ∷ bytes) found are e = shape_read n bytes found (eqb n 1) (λ i. are (suc i)) refl e

-- Where no shape is read, none is spelled.
pub no_shape : (bytes : List ℕ) → shape_of bytes ≡ None → (s : Shape) (rest : List ℕ) → IsSoundShape s → ¬ (bytes ≡ spelled_shape s ++ rest)
no_shape bytes none s rest good is = let read = ap shape_of is ∙ shape_of-spelled s rest good in cc

-- The number of a shape is known within these limits.
abbrev pub IsKnown : Limits → Shape → Type 0
IsKnown limits (LongNet mac longest) = allow_late limits ≡ true
IsKnown limits (Outside sectors read_only id) = allow_late limits ≡ true
IsKnown limits _ = Unit {0}

pub known_within : (limits : Limits) (s : Shape) → IsSoundShape s → IsShapeWithin limits s → IsKnown limits s
known_within limits (Net mac) good within = tt
known_within limits (LongNet mac longest) good within = late_within limits (LongNet mac longest) refl (record { sound = good; within = within })
known_within limits (Block sectors read_only id) good within = tt
known_within limits (Outside sectors read_only id) good within = late_within limits (Outside sectors read_only id) refl (record { sound = good; within = within })
known_within limits Console good within = tt
known_within limits Entropy good within = tt

-- A shape is as long as its first byte says.
pub record HasLength (limits : Limits) (s : Shape) : Type 0 where
  pub number : ℕ
  pub others : List ℕ
  pub is : spelled_shape s ≡ number ∷ others
  pub long : shape_length limits number ≡ Some (suc (length others))

pub length_shape : (limits : Limits) (s : Shape) → IsSoundShape s → IsKnown limits s → HasLength limits s
unfolding spelled_shape
length_shape limits (Net mac) good within = record { number = 1; others = mac; is = refl; long = ap (λ (n : ℕ). some (suc n)) (sym good.size) }
length_shape limits (LongNet mac longest) good within =
    let others = mac ++ digits 2 longest in
    let size : suc (length others) ≡ 9 = omega (arith, length-append mac (digits 2 longest), length-digits 2 longest, good.address.size) in
    record { number = 129; others = others; is = refl; long = rw within (ap some (sym size)) }
length_shape limits (Block sectors read_only id) good within =
    let others = digits 8 sectors ++ (flag read_only ∷ id) in
    let size : suc (length others) ≡ 30 = omega (arith, length-append (digits 8 sectors) (flag read_only ∷ id), length-digits 8 sectors, good.id_size) in
    record { number = 2; others = others; is = refl; long = ap some (sym size) }
length_shape limits (Outside sectors read_only id) good within =
    let others = digits 8 sectors ++ (flag read_only ∷ id) in
    let size : suc (length others) ≡ 30 = omega (arith, length-append (digits 8 sectors) (flag read_only ∷ id), length-digits 8 sectors, good.id_size) in
    record { number = 130; others = others; is = refl; long = rw within (ap some (sym size)) }
length_shape limits Console good within = record { number = 3; others = []; is = refl; long = refl }
length_shape limits Entropy good within = record { number = 4; others = []; is = refl; long = refl }

abbrev pub head_widths : List ℕ
head_widths = 4 ∷ 4 ∷ 4 ∷ 4 ∷ []

abbrev pub head_numbers : ℕ → ℕ → ℕ → List ℕ
head_numbers version pages count = 0x47494d56 ∷ version ∷ pages ∷ count ∷ []

pub head_spelled : (version pages count : ℕ) → front version pages count ≡ spelled head_widths (head_numbers version pages count)
unfolding front
head_spelled version pages count = refl

-- What the first 16 bytes of a header say.
pub record HeadSays (bytes : List ℕ) (version pages count : ℕ) : Type 0 where
  pub long : 16 ≤ length bytes
  pub magic : number_at bytes 0 4 ≡ 0x47494d56
  pub version_is : number_at bytes 4 4 ≡ version
  pub pages_are : number_at bytes 8 4 ≡ pages
  pub count_is : number_at bytes 12 4 ≡ count

pub head_says : (version pages count : ℕ) (rest : List ℕ) → version ≤ 3 → pages ≤ 4294967295 → count ≤ 16 → HeadSays (spelled head_widths (head_numbers version pages count) ++ rest) version pages count
head_says version pages count rest old few_pages few_devices =
    let fits : Fit head_widths (head_numbers version pages count) = (omega arith, (omega (arith, old), (omega (arith, few_pages), (omega (arith, few_devices), tt)))) in
    let read = numbers-spelled head_widths (head_numbers version pages count) [] rest fits in
    let nth = λ (k : ℕ). ap (λ (ns : List ℕ). get_or ns k 0) read in
    record {
      long = omega (arith, length-append (spelled head_widths (head_numbers version pages count)) rest, length-spelled head_widths (head_numbers version pages count) fits);
      magic = nth 0;
      version_is = nth 1;
      pages_are = nth 2;
      count_is = nth 3;
    }

four_same : {a b c d m n o p : ℕ} → a ≡ m → b ≡ n → c ≡ o → d ≡ p → spelled head_widths (a ∷ b ∷ c ∷ d ∷ []) ≡ spelled head_widths (m ∷ n ∷ o ∷ p ∷ [])
four_same e f g h = rw (e, f, g, h) refl

pub head_written : (bytes : List ℕ) (version pages count : ℕ) → IsBytes bytes → HeadSays bytes version pages count → bytes ≡ front version pages count ++ drop 16 bytes
head_written bytes version pages count are says =
    let taken = spelled-numbers head_widths 0 bytes are says.long in
    let same = four_same says.magic says.version_is says.pages_are says.count_is in
    sym (take-append-drop 16 bytes) ∙ ap (λ (x : List ℕ). x ++ drop 16 bytes) (sym taken ∙ same ∙ sym (head_spelled version pages count))

-- How long the front of the bytes is, by what is behind it.
pub record Behind (bytes rest : List ℕ) : Type 0 where
  pub shorter : length rest ≤ length bytes
  pub dropped : drop (length bytes - length rest) bytes ≡ rest

pub behind : (text rest bytes : List ℕ) → bytes ≡ text ++ rest → Behind bytes rest
behind text rest bytes e =
    let both : length bytes ≡ length text + length rest = ap length e ∙ length-append text rest in
    let before : length bytes - length rest ≡ length text = omega arith in
    record { shorter = omega arith; dropped = rw (before, e) (drop_at text rest (length text) refl) }

-- A count of devices is spelled by its lowest four bytes.
first_byte : (n : ℕ) → byte_at 0 (n % 4294967296) ≡ byte_at 0 n
first_byte n = omega arith

second_byte : (n : ℕ) → byte_at 1 (n % 4294967296) ≡ byte_at 1 n
second_byte n = omega arith

third_byte : (n : ℕ) → byte_at 2 (n % 4294967296) ≡ byte_at 2 n
third_byte n = omega arith

fourth_byte : (n : ℕ) → byte_at 3 (n % 4294967296) ≡ byte_at 3 n
fourth_byte n = omega arith

pub low_digits : (n : ℕ) → digits 4 (n % 4294967296) ≡ digits 4 n
low_digits n = rw (first_byte n, second_byte n, third_byte n, fourth_byte n) refl

pub front_low : (version pages n : ℕ) → front version pages (n % 4294967296) ≡ front version pages n
unfolding front
front_low version pages n = ap (λ (x : List ℕ). codes "VMIG" ++ (digits 4 version ++ (digits 4 pages ++ x))) (low_digits n)
