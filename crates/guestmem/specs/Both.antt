-- Two logs in the place of one.
use Rattle.std.specs.Prelude.{◌≡◌}
use Rattle.std.proofs.Common.{ap, ◌∙◌}
use Rattle.guestmem.specs.declared.both.Both.{Both}

abbrev pub both_of : {A B : Type 0} → A → B → Both A B
both_of x y = record { first = x; second = y }

pub both_same : {A B : Type 0} {a b : A} {c d : B} → a ≡ b → c ≡ d → ◌≡◌ {A = Both A B} (both_of a c) (both_of b d)
both_same {A} {B} {a} {b} {c} {d} e f = ap (λ (x : A). both_of x c) e ∙ ap (λ (y : B). both_of b y) f
