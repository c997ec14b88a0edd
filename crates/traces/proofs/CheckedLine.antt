-- The line of a checked stream, written in three parts.
use Rattle.std.proofs.Common.{◌≡◌, ℕ, List, ◌++◌, Option, Result, OnErr, codes, decimal, append_assoc}
use Rattle.std.specs.Io.KnownBytes.{Appends}
use Rattle.traces.specs.Replies.{AppendsBeginning, checked_line, newline}
use Rattle.traces.specs.declared.parts.WriteFault.{WriteFault}
use Rattle.traces.proofs.Known.{appends_on, begins_first, begins_later, begins_on}

regrouped : (x p y d z r e : List ℕ) → x ++ p ++ y ++ d ++ z ++ r ++ e ≡ (x ++ p) ++ (y ++ d) ++ (z ++ r ++ e)
regrouped x p y d z r e = simp append_assoc

parted : (pages devices rounds : ℕ) → checked_line pages devices rounds ≡ (codes "ok " ++ decimal pages) ++ (codes " " ++ decimal devices) ++ (codes " " ++ decimal rounds ++ newline)
parted pages devices rounds = regrouped (codes "ok ") (decimal pages) (codes " ") (decimal devices) (codes " ") (decimal rounds) newline

pub first_begun : (a b : Option (List ℕ)) (pages devices rounds : ℕ) → AppendsBeginning a b (codes "ok " ++ decimal pages) → AppendsBeginning a b (checked_line pages devices rounds)
first_begun a b pages devices rounds h = rw (parted pages devices rounds) (begins_first a b _ _ (begins_first a b _ _ h))

pub second_begun : (a b c : Option (List ℕ)) (pages devices rounds : ℕ) → Appends a b (codes "ok " ++ decimal pages) → AppendsBeginning b c (codes " " ++ decimal devices)
    → AppendsBeginning a c (checked_line pages devices rounds)
second_begun a b c pages devices rounds p h = rw (parted pages devices rounds) (begins_first a c _ _ (begins_later a b c _ _ p h))

pub third_begun : (r : Result (Unit {0}) WriteFault) (a b c d : Option (List ℕ)) (pages devices rounds : ℕ) → Appends a b (codes "ok " ++ decimal pages) → Appends b c (codes " " ++ decimal devices)
    → OnErr r (AppendsBeginning c d (codes " " ++ decimal rounds ++ newline)) → OnErr r (AppendsBeginning a d (checked_line pages devices rounds))
third_begun r a b c d pages devices rounds p q h = rw (parted pages devices rounds) (begins_on r a c d _ _ (appends_on a b c _ _ p q) h)
