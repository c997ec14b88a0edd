-- Which shapes the versions of a stream have.
use Rattle.std.proofs.Common.{◌≡◌, ℕ, ◌≤◌, ◌||◌, Bool, true, false, cond, nat_lt, List, [], ◌∷◌, refl, sym, ◌∙◌, arith}
use Rattle.std.specs.Prelude.{All}
use Rattle.std.specs.List.{AllByRecursion, list_any}
use Rattle.std.proofs.lemmas.Bool.{lt-ltb, ltb-false, ltb-true}
use Rattle.machine.specs.Limits.{IsShapeWithin}
use Rattle.machine.specs.Sound.{IsSoundShape}
use Rattle.machine.specs.declared.limits.Limits.{Limits}
use Rattle.machine.specs.declared.shape.Shape.{Shape}
use Rattle.machine.specs.declared.shape.Shape.TheVariants.{Net, LongNet, Block, Outside, Console, Entropy}
use Rattle.wire.specs.Header.{allow_late, is_late}
use Rattle.wire.specs.HeaderFaults.{IsShapeFor, limits_in}
use Rattle.wire.proofs.Choices.{neither}

-- Limits that allow a device since version 3 are such that allow one.
either_first : (a b : Bool) → a ≡ true → (a || b) ≡ true
either_first true b e = refl
either_first false b e = absurd cc

either_second : (a b : Bool) → b ≡ true → (a || b) ≡ true
either_second true b e = refl
either_second false b e = e

pub late_within : (l : Limits) (s : Shape) → is_late s ≡ true → IsShapeFor l s → allow_late l ≡ true
unfolding allow_late
late_within l (Net mac) e h = absurd cc
late_within l (LongNet mac longest) e h = either_first (nat_lt 1514 l.frame) (nat_lt 0 l.outside) (lt-ltb 1514 l.frame (omega (arith, h.sound.longer, h.within)))
late_within l (Block sectors read_only id) e h = absurd cc
late_within l (Outside sectors read_only id) e h = either_second (nat_lt 1514 l.frame) (nat_lt 0 l.outside) (lt-ltb 0 l.outside (omega (arith, h.sound.some, h.within)))
late_within l Console e h = absurd cc
late_within l Entropy e h = absurd cc

one_late : (l : Limits) (s : Shape) (late more : Bool) → is_late s ≡ late → (late || more) ≡ true → IsShapeFor l s → (more ≡ true → allow_late l ≡ true) → allow_late l ≡ true
one_late l s true more is e h others = late_within l s is h
one_late l s false more is e h others = others e

pub any_late : (l : Limits) (ss : List Shape) → AllByRecursion (IsShapeFor l) ss → list_any is_late ss ≡ true → allow_late l ≡ true
any_late l [] h e = absurd cc
any_late l (s ∷ ss) h e = one_late l s (is_late s) (list_any is_late ss) refl e h.0 (any_late l ss h.1)

-- What the limits allow in a version they allow in each.
abbrev limits_by : Bool → Limits → Limits
limits_by early l = cond early (record l { frame = 1514; outside = 0 }) l

within_later : (l : Limits) (s : Shape) → IsSoundShape s → IsShapeWithin (limits_by true l) s → IsShapeWithin l s
within_later l (Net mac) good h = tt
within_later l (LongNet mac longest) good h = absurd (omega (arith, good.longer, h))
within_later l (Block sectors read_only id) good h = h
within_later l (Outside sectors read_only id) good h = absurd (omega (arith, good.some, h))
within_later l Console good h = tt
within_later l Entropy good h = tt

for_later : (l : Limits) (early : Bool) (s : Shape) → IsShapeFor (limits_by early l) s → IsShapeFor l s
for_later l true s h = record { sound = h.sound; within = within_later l s h.sound h.within }
for_later l false s h = h

pub for_each_version : (l : Limits) (version : ℕ) (ss : List Shape) → All (IsShapeFor (limits_in version l)) ss → All (IsShapeFor l) ss
for_each_version l version ss h k d below = for_later l (nat_lt version 3) _ (h k d below)

-- And a device that is in each version they allow in each.
within_early : (l : Limits) (s : Shape) → is_late s ≡ false → IsShapeWithin l s → IsShapeWithin (limits_by true l) s
within_early l (Net mac) e h = tt
within_early l (LongNet mac longest) e h = absurd cc
within_early l (Block sectors read_only id) e h = h
within_early l (Outside sectors read_only id) e h = absurd cc
within_early l Console e h = tt
within_early l Entropy e h = tt

for_early : (l : Limits) (ss : List Shape) → list_any is_late ss ≡ false → AllByRecursion (IsShapeFor l) ss → AllByRecursion (IsShapeFor (limits_by true l)) ss
for_early l [] e h = tt
for_early l (s ∷ ss) e h =
    let none = neither (is_late s) (list_any is_late ss) e in
    (record { sound = h.0.sound; within = within_early l s none.0 h.0.within }, for_early l ss none.1 h.1)

for_by : (l : Limits) (version : ℕ) (ss : List Shape) (early late : Bool) → nat_lt version 3 ≡ early → list_any is_late ss ≡ late → (list_any is_late ss ≡ true → version ≡ 3) → AllByRecursion (IsShapeFor l) ss
    → AllByRecursion (IsShapeFor (limits_by early l)) ss
for_by l version ss true true before is third h = absurd (omega (arith, ltb-true version 3 before, third is))
for_by l version ss true false before is third h = for_early l ss is h
for_by l version ss false late before is third h = h

pub for_its_version : (l : Limits) (version : ℕ) (ss : List Shape) → (list_any is_late ss ≡ true → version ≡ 3) → AllByRecursion (IsShapeFor l) ss → AllByRecursion (IsShapeFor (limits_in version l)) ss
for_its_version l version ss third h = for_by l version ss (nat_lt version 3) (list_any is_late ss) refl refl third h

-- A version whose limits allow such a device is the third or later.
none_late : (l : Limits) → allow_late (limits_by true l) ≡ false
unfolding allow_late
none_late l = refl

late_by : (l : Limits) (version : ℕ) (early : Bool) → nat_lt version 3 ≡ early → allow_late (limits_by early l) ≡ true → 3 ≤ version
late_by l version true before allowed = absurd (let no : true ≡ false = sym allowed ∙ none_late l in cc)
late_by l version false before allowed = ltb-false version 3 before

pub late_is_third : (l : Limits) (version : ℕ) → allow_late (limits_in version l) ≡ true → 3 ≤ version
late_is_third l version allowed = late_by l version (nat_lt version 3) refl allowed
