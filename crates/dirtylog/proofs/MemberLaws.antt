use Rattle.std.proofs.Common.{◌≡◌, ℕ, zero, suc, List, [], ◌∷◌, length, replicate, Bool, false, refl}
use Rattle.dirtylog.specs.Members.{HasNone}

-- A set without members is `false` for each number.
pub no_members : (set : List Bool) → HasNone set → set ≡ replicate (length set) false
no_members [] none = refl
no_members (b ∷ bs) none =
    let here : b ≡ false = none 0 in
    rw (here, ← no_members bs (λ k. none (suc k))) refl

-- A set that is `false` for each number has no members.
pub none_of_all : (len : ℕ) → HasNone (replicate len false)
none_of_all zero n = refl
none_of_all (suc len) zero = refl
none_of_all (suc len) (suc n) = none_of_all len n
