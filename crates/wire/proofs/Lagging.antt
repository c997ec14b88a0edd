-- A digest that takes bytes later than they were put.
use Rattle.std.proofs.Common.{◌≡◌, ◌≤◌, ℕ, List, [], ◌++◌, ap, sym, subst, ◌∙◌, append_assoc, append-nil, drop, length}
use Rattle.std.proofs.lemmas.List.Folds.{drop_split}
use Rattle.std.proofs.lemmas.List.{drop-append-le, drop_all}
use Rattle.std.specs.Prelude.{slice_range}
use Rattle.sha2.specs.Hashers.{Holds256}
use Rattle.sha2.specs.Sha256.{sha256}
use Rattle.sha2.specs.declared.Sha256.{Sha256}
use Rattle.wire.specs.Sinks.{Covers, Digested, Digests, Takes, lagging}

abbrev pub up_to : Sha256 → List ℕ → ℕ → Digested
up_to sum bytes seen = lagging sum (drop seen bytes)

-- The digest took the bytes from one place to another.
pub caught_up : (a b : Sha256) (bytes : List ℕ) (seen to : ℕ) → seen ≤ to → ((m : List ℕ) → Holds256 a m → Holds256 b (m ++ slice_range bytes seen to)) → Takes (up_to a bytes seen) [] (up_to b bytes to)
unfolding Digests
caught_up a b bytes seen to le h before c = record {
  first = c.first ++ slice_range bytes seen to;
  holds = h c.first c.holds;
  whole = append-nil before ∙ c.whole ∙ ap (λ (x : List ℕ). c.first ++ x) (drop_split bytes seen to le) ∙ sym (append_assoc c.first (slice_range bytes seen to) (drop to bytes));
}

-- More bytes came, and wait.
pub came : (sum : Sha256) (bytes more : List ℕ) (seen : ℕ) → seen ≤ length bytes → Takes (up_to sum bytes seen) more (up_to sum (bytes ++ more) seen)
unfolding Digests
came sum bytes more seen le before c = record {
  first = c.first;
  holds = c.holds;
  whole = ap (λ (x : List ℕ). x ++ more) c.whole ∙ append_assoc c.first (drop seen bytes) more ∙ ap (λ (x : List ℕ). c.first ++ x) (sym (drop-append-le seen bytes more le));
}

pub begun_anew : (sum : Sha256) (bytes : List ℕ) (seen : ℕ) → length bytes ≤ seen → Holds256 sum [] → Covers (up_to sum bytes seen) []
unfolding Digests
begun_anew sum bytes seen le h = record { first = []; holds = h; whole = sym (drop_all seen bytes le) }

-- No byte waits any more.
pub digested : (sum : Sha256) (digest bytes : List ℕ) (seen : ℕ) → length bytes ≤ seen → ((m : List ℕ) → Holds256 sum m → digest ≡ sha256 m) → (put : List ℕ) → Covers (up_to sum bytes seen) put → digest ≡ sha256 put
unfolding Digests
digested sum digest bytes seen le h put c =
    h c.first c.holds ∙ ap sha256 (sym (c.whole ∙ ap (λ (x : List ℕ). c.first ++ x) (drop_all seen bytes le) ∙ append-nil c.first))

-- What waited was digested, and the digest asked for.
pub all_digested : (a b : Sha256) (digest bytes last : List ℕ) (seen : ℕ) → last ≡ drop seen bytes → ((m : List ℕ) → Holds256 a m → Holds256 b (m ++ last)) → ((m : List ℕ) → Holds256 b m → digest ≡ sha256 m)
    → (put : List ℕ) → Covers (up_to a bytes seen) put → digest ≡ sha256 put
unfolding Digests
all_digested a b digest bytes last seen is took gives put c = gives (c.first ++ last) (took c.first c.holds) ∙ ap sha256 (ap (λ (x : List ℕ). c.first ++ x) is ∙ sym c.whole)

-- What was put is digested further.
pub then_none : (a b c : Digested) (x : List ℕ) → Takes a x b → Takes b [] c → Takes a x c
then_none a b c x first second = λ before h. subst (Covers c) (append-nil (before ++ x)) (second (before ++ x) (first before h))
