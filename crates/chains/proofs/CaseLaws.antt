-- What is said by cases.
use Rattle.std.proofs.Common.{◌≡◌, Bool, true, false}
use Rattle.std.specs.Bool.{MatchBool}

-- What is claimed of true is claimed of a test that is true.
pub where_true : (b : Bool) (P Q : Type 0) → b ≡ true → P → MatchBool b P Q
where_true true P Q is p = p
where_true false P Q is p = absurd (cc)
