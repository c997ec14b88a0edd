-- Things that stand one after another: what is spelled is read, and what is read was spelled.
use Rattle.std.proofs.Common.{◌≡◌, ℕ, zero, suc, ◌+◌, ◌-◌, ◌<◌, ◌≤◌, List, [], ◌∷◌, ◌++◌, length, drop, Option, Some, None, refl, sym, ap, subst, ◌∙◌, append_assoc, append-nil, arith}
use Rattle.std.proofs.lemmas.List.{drop_at}
use Rattle.std.specs.List.{AllByRecursion, flat_map}
use Rattle.std.specs.Prelude.{option_and_then}
use Rattle.guestmem.proofs.ByteLaws.{IsBytes-drop}
use Rattle.guestmem.specs.Number.{IsBytes}
use Rattle.wire.specs.Several.{in_front, several}
use Rattle.wire.proofs.Choices.{same_found, then_found}

in_front-in_front : {A : Type 0} (xs ys : List A) (read : Option (List A × List ℕ)) → in_front xs (in_front ys read) ≡ in_front (xs ++ ys) read
in_front-in_front xs ys None = refl
in_front-in_front {A} xs ys (Some others) = ap (λ (l : List A). Some (l, others.1)) (sym (append_assoc xs ys others.0))

-- One more.
several-more : {A : Type 0} (read : List ℕ → Option (A × List ℕ)) (m n : ℕ) (bytes : List ℕ) → m ≡ suc n
    → several read m bytes ≡ option_and_then (λ first. in_front (first.0 ∷ []) (several read n first.1)) (read bytes)
unfolding several
several-more read m n bytes e = ap (λ k. several read k bytes) e

pub several_go_on : {A : Type 0} (read : List ℕ → Option (A × List ℕ)) (count i : ℕ) (xs : List A) (bytes after : List ℕ) (x : A) (whole : Option (List A × List ℕ)) → i < count → read bytes ≡ Some (x, after)
    → in_front xs (several read (count - i) bytes) ≡ whole → in_front (xs ++ x ∷ []) (several read (count - (i + 1)) after) ≡ whole
several_go_on read count i xs bytes after x whole below found is =
    let m : count - i ≡ suc (count - (i + 1)) = omega arith in
    sym (in_front-in_front xs (x ∷ []) (several read (count - (i + 1)) after))
    ∙ sym (ap (in_front xs) (several-more read (count - i) (count - (i + 1)) bytes m ∙ ap (option_and_then (λ first. in_front (first.0 ∷ []) (several read (count - (i + 1)) first.1))) found)) ∙ is

pub several_fail : {A : Type 0} (read : List ℕ → Option (A × List ℕ)) (count i : ℕ) (xs : List A) (bytes : List ℕ) (whole : Option (List A × List ℕ)) → i < count → read bytes ≡ None
    → in_front xs (several read (count - i) bytes) ≡ whole → whole ≡ None
several_fail read count i xs bytes whole below none is =
    let m : count - i ≡ suc (count - (i + 1)) = omega arith in
    sym is ∙ ap (in_front xs) (several-more read (count - i) (count - (i + 1)) bytes m ∙ ap (option_and_then (λ first. in_front (first.0 ∷ []) (several read (count - (i + 1)) first.1))) none)

pub several_end : {A : Type 0} (read : List ℕ → Option (A × List ℕ)) (count i : ℕ) (xs : List A) (bytes : List ℕ) (whole : Option (List A × List ℕ)) → count ≤ i
    → in_front xs (several read (count - i) bytes) ≡ whole → whole ≡ Some (xs, bytes)
unfolding several
several_end {A} read count i xs bytes whole done is =
    let m : count - i ≡ 0 = omega arith in
    sym is ∙ ap (λ k. in_front xs (several read k bytes)) m ∙ ap (λ (l : List A). Some (l, bytes)) (append-nil xs)

-- What is spelled is read.
pub several-spelled : {A : Type 0} (read : List ℕ → Option (A × List ℕ)) (text : A → List ℕ) (Good : A → Type 0) → ((x : A) (rest : List ℕ) → Good x → read (text x ++ rest) ≡ Some (x, rest))
    → (xs : List A) (rest : List ℕ) → AllByRecursion Good xs → several read (length xs) (flat_map text xs ++ rest) ≡ Some (xs, rest)
unfolding several
several-spelled read text Good one [] rest good = refl
several-spelled read text Good one (x ∷ xs) rest good =
    let first : flat_map text (x ∷ xs) ++ rest ≡ text x ++ (flat_map text xs ++ rest) = append_assoc (text x) (flat_map text xs) rest in
    rw (first, one x (flat_map text xs ++ rest) good.0, several-spelled read text Good one xs rest good.1) refl

-- What one thing at the front was spelled as, and so many of them.
pub record WasSpelled {A : Type 0} (text : A → List ℕ) (Good : A → Type 0) (bytes : List ℕ) (found : A × List ℕ) : Type 0 where
  pub good : Good found.0
  pub whole : bytes ≡ text found.0 ++ found.1

pub record WereSpelled {A : Type 0} (text : A → List ℕ) (Good : A → Type 0) (n : ℕ) (bytes : List ℕ) (found : List A × List ℕ) : Type 0 where
  pub count : length found.0 ≡ n
  pub good : AllByRecursion Good found.0
  pub whole : bytes ≡ flat_map text found.0 ++ found.1

-- Things that were read in front of others.
first_and_others : {A : Type 0} (xs : List A) (others : Option (List A × List ℕ)) (found : List A × List ℕ) → in_front xs others ≡ Some found
    → (x : List A × List ℕ) × (others ≡ Some x) × ((xs ++ x.0, x.1) ≡ found)
first_and_others xs None found e = absurd cc
first_and_others xs (Some others) found e = (others, refl, same_found (xs ++ others.0, others.1) found e)

bytes_after : (text rest bytes : List ℕ) → bytes ≡ text ++ rest → IsBytes bytes → IsBytes rest
bytes_after text rest bytes e are = subst IsBytes (ap (drop (length text)) e ∙ drop_at text rest (length text) refl) (IsBytes-drop (length text) bytes are)

pub spelled-several : {A : Type 0} (read : List ℕ → Option (A × List ℕ)) (text : A → List ℕ) (Good : A → Type 0)
    → ((bytes : List ℕ) (found : A × List ℕ) → IsBytes bytes → read bytes ≡ Some found → WasSpelled text Good bytes found)
    → (n : ℕ) (bytes : List ℕ) (found : List A × List ℕ) → IsBytes bytes → several read n bytes ≡ Some found → WereSpelled text Good n bytes found
unfolding several
spelled-several {A} read text Good one zero bytes found are e =
    subst (λ (y : List A × List ℕ). WereSpelled text Good 0 bytes y) (same_found ([], bytes) found e) (record { count = refl; good = tt; whole = refl })
spelled-several {A} read text Good one (suc n) bytes found are e =
    let a = then_found (λ (first : A × List ℕ). in_front (first.0 ∷ []) (several read n first.1)) (read bytes) found e in
    let b = first_and_others (a.0.0 ∷ []) (several read n a.0.1) found a.2 in
    let first = one bytes a.0 are a.1 in
    let others = spelled-several read text Good one n a.0.1 b.0 (bytes_after (text a.0.0) a.0.1 bytes first.whole are) b.1 in
    let regroup : text a.0.0 ++ (flat_map text b.0.0 ++ b.0.1) ≡ flat_map text (a.0.0 ∷ b.0.0) ++ b.0.1 = sym (append_assoc (text a.0.0) (flat_map text b.0.0) b.0.1) in
    subst (λ (y : List A × List ℕ). WereSpelled text Good (suc n) bytes y) b.2
    (record { count = ap suc others.count; good = (first.good, others.good); whole = first.whole ∙ ap (λ (x : List ℕ). text a.0.0 ++ x) others.whole ∙ regroup })
