-- What calls add to a sink, one after another.
use Rattle.std.proofs.Common.{◌≡◌, ℕ, zero, suc, List, [], ◌++◌, Option, Some, None, Result, Ok, Err, refl, ap, ◌∙◌, append_assoc, append-nil, subst, sym}
use Rattle.std.specs.Prelude.{is_some, Bool, IsTrue, OnOk}
use Rattle.std.specs.Io.KnownBytes as writers
use Rattle.sha2.specs.Hashers.{Holds256}
use Rattle.sha2.specs.Sha256.{sha256}
use Rattle.sha2.specs.declared.Sha256.{Sha256}
use Rattle.wire.specs.Records.{commit, spelled_record}
use Rattle.wire.specs.Sinks.{SinkState, Appends, Covers, Digested, Digests, Seals, Takes, known, over_writer, prompt}

-- What a writer that tells its bytes does.
pub appended : (old new : Option (List ℕ)) (bytes : List ℕ) → writers.Appends old new bytes → IsTrue (is_some old) → IsTrue (is_some new) × (known new ≡ known old ++ bytes)
appended None new bytes p q = cc
appended (Some xs) None bytes p q = absurd p
appended (Some xs) (Some ys) bytes p q = (refl, p)

pub kept : (old new : Option (List ℕ)) → writers.Keeps old new → IsTrue (is_some old) → IsTrue (is_some new) × (known new ≡ known old)
kept None new p q = cc
kept (Some xs) None p q = absurd p
kept (Some xs) (Some ys) p q = (refl, p)

-- A digest that takes bytes at once.
pub begun : (a : Sha256) → Holds256 a [] → Covers (prompt a) []
unfolding Digests
begun a h = record { first = []; holds = h; whole = refl }

pub took : (a b : Sha256) (bytes : List ℕ) → ((m : List ℕ) → Holds256 a m → Holds256 b (m ++ bytes)) → Takes (prompt a) bytes (prompt b)
unfolding Digests
took a b bytes h before c = record {
  first = c.first ++ bytes;
  holds = h c.first c.holds;
  whole = ap (λ (x : List ℕ). x ++ bytes) (c.whole ∙ append-nil c.first) ∙ sym (append-nil (c.first ++ bytes));
}

-- A call after one that succeeded.
pub then_takes : {T E : Type 0} (a b c : Digested) (x y : List ℕ) (result : Result T E) → Takes a x b → OnOk result (Takes b y c) → OnOk result (Takes a (x ++ y) c)
then_takes a b c x y (Err e) first second = tt
then_takes a b c x y (Ok u) first second = λ before h. subst (Covers c) (append_assoc before x y) (second (before ++ x) (first before h))

pub then_appends : {A B E : Type 0} (old mid new : SinkState) (x y : List ℕ) (done : A) (result : Result B E) → Appends {E = E} old x (Ok done) mid → Appends mid y result new → Appends old (x ++ y) result new
then_appends old mid new x y done (Err e) first second = record { count = rw first.count at second.count; holds = tt }
then_appends old mid new x y done (Ok u) first second = record {
  count = second.count ∙ first.count;
  holds = λ honest.
      let one = first.holds honest in
      let two = second.holds one.0 in
      (two.0, two.1 ∙ ap (λ held. held ++ y) one.1 ∙ append_assoc old.held x y);
}

pub digested : (a : Sha256) (digest : List ℕ) → ((m : List ℕ) → Holds256 a m → digest ≡ sha256 m) → (bytes : List ℕ) → Covers (prompt a) bytes → digest ≡ sha256 bytes
unfolding Digests
digested a digest h bytes c = h c.first c.holds ∙ ap sha256 (sym (c.whole ∙ append-nil c.first))

-- A sink that never fails.
pub never_fails : {T E : Type 0} (old new : Bool) (bytes : List ℕ) (e : E) → Appends {T = T} (over_writer None 0 old) bytes (Err e) (over_writer None 0 new) → ⊥
never_fails old new bytes e appends = let is : zero ≡ suc zero = appends.count in cc

-- The record of the digest was put.
pub sealed : {T E : Type 0} (sum : Digested) (old mid new : SinkState) (digest : List ℕ) (result : Result T E) → mid ≡ old → ((bytes : List ℕ) → Covers sum bytes → digest ≡ sha256 bytes) → Appends mid (spelled_record (commit digest)) result new → Seals sum old result new
sealed sum old mid new digest result same is appends =
    let P : SinkState → Type 0 = λ s. Appends s (spelled_record (commit digest)) result new in
    let here : Appends old (spelled_record (commit digest)) result new = subst P same appends in
    record { count = here.count; puts = λ bytes covers. (let Q : List ℕ → Type 0 = λ d. Appends old (spelled_record (commit d)) result new in subst Q (is bytes covers) here) }
