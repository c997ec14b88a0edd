-- What a choice that was made tells of its test.
use Rattle.std.proofs.Common.{◌≡◌, Bool, true, false, cond, not, ◌||◌, Option, Some, None, refl}
use Rattle.std.specs.Option.{option_map}
use Rattle.std.specs.Prelude.{option_and_then}

abbrev pub some : {A : Type 0} → A → Option A
some x = Some x

pub same_found : {A : Type 0} (x y : A) → some x ≡ some y → x ≡ y
same_found x y e = cc

pub not_chosen : {A : Type 0} (b : Bool) (other : Option A) (y : A) → cond b None other ≡ Some y → (b ≡ false) × (other ≡ Some y)
not_chosen true other y e = absurd cc
not_chosen false other y e = (refl, e)

pub neither : (a b : Bool) → (a || b) ≡ false → (a ≡ false) × (b ≡ false)
neither true b e = absurd cc
neither false b e = (refl, e)

pub so : (b : Bool) → not b ≡ false → b ≡ true
so true e = refl
so false e = absurd cc

pub then_found : {A B : Type 0} (f : A → Option B) (first : Option A) (y : B) → option_and_then f first ≡ Some y → (x : A) × (first ≡ Some x) × (f x ≡ Some y)
then_found f None y e = absurd cc
then_found f (Some x) y e = (x, refl, e)

pub map_found : {A B : Type 0} (f : A → B) (found : Option A) (y : B) → option_map f found ≡ Some y → (x : A) × (found ≡ Some x) × (f x ≡ y)
map_found f None y e = absurd cc
map_found f (Some x) y e = (x, refl, same_found (f x) y e)

pub not_both : (b : Bool) → b ≡ true → ¬ (b ≡ false)
not_both true e f = cc
not_both false e f = cc
