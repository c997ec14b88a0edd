-- Bytes appended in turn.
use Rattle.std.proofs.Common.{◌≡◌, ℕ, ◌+◌, ◌-◌, List, [], ◌++◌, length, take, drop, Option, Some, None, Result, Ok, Err, OnErr, sym, ap, ◌∙◌, append_assoc, arith}
use Rattle.std.proofs.lemmas.List.{append-nil, length-drop, take-append-le, take_min}
use Rattle.std.proofs.Math.Seq.{take-length, take-add, take-append-add}
use Rattle.std.specs.Prelude.{min}
use Rattle.traces.specs.declared.parts.WriteFault.{WriteFault}
use Rattle.traces.specs.Replies.{AppendsBeginning}
use Rattle.std.specs.Io.KnownBytes.{Appends, Keeps}

pub appends_nothing : (o : Option (List ℕ)) → Appends o o []
appends_nothing None = tt
appends_nothing (Some xs) = sym (append-nil xs)

pub appends_on : (a b c : Option (List ℕ)) (xs ys : List ℕ) → Appends a b xs → Appends b c ys → Appends a c (xs ++ ys)
appends_on None b c xs ys p q = tt
appends_on (Some s) None c xs ys p q = absurd p
appends_on (Some s) (Some t) None xs ys p q = absurd q
appends_on (Some s) (Some t) (Some u) xs ys p q = q ∙ ap (λ (z : List ℕ). z ++ ys) p ∙ append_assoc s xs ys

pub keeps_on : (a b c : Option (List ℕ)) (xs : List ℕ) → Appends a b xs → Keeps b c → Appends a c xs
keeps_on None b c xs p q = tt
keeps_on (Some s) None c xs p q = absurd p
keeps_on (Some s) (Some t) None xs p q = absurd q
keeps_on (Some s) (Some t) (Some u) xs p q = q ∙ p

pub rest_of : (n m : ℕ) (xs : List ℕ) → take n xs ++ take m (take (length xs - n) (drop n xs)) ≡ take (n + m) xs
rest_of n m xs =
    let count : length xs - n ≡ length (drop n xs) = sym (length-drop n xs) in
    rw (count, take-length) (sym (take-add n m xs))

pub begins_first : (a b : Option (List ℕ)) (xs ys : List ℕ) → AppendsBeginning a b xs → AppendsBeginning a b (xs ++ ys)
begins_first a b xs ys h =
    let n = min h.0 (length xs) in
    let e : take n (xs ++ ys) ≡ take h.0 xs = take-append-le n xs ys (omega arith) ∙ take_min h.0 xs in
    (n, rw e h.1)

pub begins_later : (a b c : Option (List ℕ)) (xs ys : List ℕ) → Appends a b xs → AppendsBeginning b c ys → AppendsBeginning a c (xs ++ ys)
begins_later a b c xs ys p h = (length xs + h.0, rw (take-append-add xs ys h.0) (appends_on a b c xs (take h.0 ys) p h.1))

-- the same, where the second did not go through
pub begins_on : (r : Result (Unit {0}) WriteFault) (a b c : Option (List ℕ)) (xs ys : List ℕ) → Appends a b xs → OnErr r (AppendsBeginning b c ys)
    → OnErr r (AppendsBeginning a c (xs ++ ys))
begins_on (Ok done) a b c xs ys p h = tt
begins_on (Err fault) a b c xs ys p h = begins_later a b c xs ys p h

pub on_err : (r : Result (Unit {0}) WriteFault) (P : Type 0) → P → OnErr r P
on_err (Ok done) P p = tt
on_err (Err fault) P p = p
