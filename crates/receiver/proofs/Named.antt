-- Every item is named where the count of the named ones is that of all items, and the other way round.
use Rattle.std.proofs.Common.{◌≡◌, ◌+◌, List, [], ◌∷◌, length, Bool, true, false, refl, sym, arith}
use Rattle.std.specs.Prelude.{All, count_by, cond}
use Rattle.std.proofs.lemmas.Bool.{true≢false}
use Rattle.std.proofs.lemmas.List.Sums.{sum_by-cons, count_by-le-length}
use Rattle.std.proofs.lemmas.List.Elements.{All-head, All-tail, All-cons}

abbrev is_set : Bool → Type 0
is_set b = b ≡ true

one_more : (b : Bool) (bs : List Bool) → count_by (λ b. b) (b ∷ bs) ≡ cond b 1 0 + count_by (λ b. b) bs
one_more b bs = sum_by-cons (λ b. cond b 1 0) b bs

pub all_counted : (named : List Bool) → count_by (λ b. b) named ≡ length named → All (λ (b : Bool). b ≡ true) named
all_counted [] e = λ k d low. absurd (omega (arith, low))
all_counted (true ∷ bs) e = All-cons is_set true bs refl (all_counted bs (omega (arith, e, one_more true bs)))
all_counted (false ∷ bs) e = absurd (omega (arith, e, one_more false bs, count_by-le-length (λ b. b) bs))

pub count_of_all : (named : List Bool) → All (λ (b : Bool). b ≡ true) named → count_by (λ b. b) named ≡ length named
count_of_all [] all = refl
count_of_all (true ∷ bs) all = omega (arith, one_more true bs, count_of_all bs (All-tail is_set true bs all))
count_of_all (false ∷ bs) all = absurd (true≢false (sym (All-head is_set false bs all)))
