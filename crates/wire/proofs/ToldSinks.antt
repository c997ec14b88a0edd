-- What a sink holds whose digest is told.
use Rattle.std.proofs.Common.{◌≡◌, ◌+◌, ◌-◌, ◌%◌, ◌^◌, ◌≤◌, ◌∙◌, ℕ, List, [], ◌++◌, drop, take, length, Result, Ok, Err, refl, ap, sym, append_assoc, arith}
use Rattle.std.specs.Prelude.{Bool, true, false, IsErr, OnOk, Some, min}
use Rattle.std.proofs.Math.Nat.{min-le_right}
use Rattle.std.proofs.lemmas.List.{drop-append-le, length-append, take-append-drop, take-append-le}
use Rattle.sha2.proofs.Facts256.{length-sha256}
use Rattle.sha2.specs.Sha256.{sha256}
use Rattle.wire.specs.Records.{commit, spelled_record}
use Rattle.wire.specs.Sinks.{Appends, Seals, Takes, over_writer}
use Rattle.wire.specs.Telling.{EndsIn, Gains, IsTold, IsToldBy, EndsInstead, TakenIsPut, ToldSeen, closing_record, held_in, out_of, owed_len, owing, sum_of}
use Rattle.wire.proofs.Spelling.{split_same, tail_same}

open_is : (ready past : List ℕ) (owed : Bool) → owed ≡ false → owing ready owed past ≡ ready
open_is ready past owed is = ap (λ (b : Bool). owing ready b past) is

owed_is : (ready past : List ℕ) (owed : Bool) → owed ≡ true → owing ready owed past ≡ ready ++ closing_record past
owed_is ready past owed is = ap (λ (b : Bool). owing ready b past) is

-- Bytes were put.
pub came : {T E : Type 0} (old new : ToldSeen) (bytes : List ℕ) (result : Result T E) → old.owed ≡ false → Gains old bytes result new → Appends (out_of old) bytes result (out_of new)
came old new bytes (Err e) is gains = record { count = gains.count; holds = tt }
came old new bytes (Ok x) is gains = record {
  count = gains.count;
  holds = λ honest. (refl, open_is new.ready new.past new.owed (gains.gained.owed ∙ is) ∙ gains.gained.ready ∙ ap (λ (x : List ℕ). x ++ bytes) (sym (open_is old.ready old.past old.owed is)));
}

pub remembers : {T E : Type 0} (old new : ToldSeen) (bytes : List ℕ) (result : Result T E) → Gains old bytes result new → OnOk result (Takes (sum_of old) bytes (sum_of new))
remembers old new bytes (Err e) gains = tt
remembers old new bytes (Ok x) gains = λ before is. (ap (λ (x : List ℕ). x ++ bytes) is.0 ∙ sym gains.gained.past, gains.gained.owed ∙ is.1)

-- Nothing was put.
pub came_not : {T E : Type 0} (old new : ToldSeen) (bytes : List ℕ) (result : Result T E) → IsErr result → new.failures ≡ (old.failures + 1) % 2 ^ 64 → Appends (out_of old) bytes result (out_of new)
came_not old new bytes (Err e) is count = record { count = count; holds = tt }
came_not old new bytes (Ok x) is count = let no : false ≡ true = is in cc

pub took_not : {T E : Type 0} (old new : ToldSeen) (bytes : List ℕ) (result : Result T E) → IsErr result → OnOk result (Takes (sum_of old) bytes (sum_of new))
took_not old new bytes (Err e) is = tt
took_not old new bytes (Ok x) is = let no : false ≡ true = is in cc

-- The stream was closed: the record of its digest is owed.
pub sealed : {T E : Type 0} (old new : ToldSeen) (done : T) → old.owed ≡ false → new.owed ≡ true → new.ready ≡ old.ready → new.past ≡ old.past → new.failures ≡ old.failures → Seals {E = E} (sum_of old) (out_of old) (Ok done) (out_of new)
sealed old new done was is ready past failures = record {
  count = failures;
  puts = λ bytes covers. record {
    count = failures;
    holds = λ honest. (
      refl,
      owed_is new.ready new.past new.owed is ∙ ap (λ (x : List ℕ). x ++ closing_record new.past) (ready ∙ sym (open_is old.ready old.past old.owed was))
          ∙ ap (λ (x : List ℕ). held_in old ++ closing_record x) (past ∙ sym covers.0),
    );
  };
}

pub not_sealed : {T E : Type 0} (old new : ToldSeen) (result : Result T E) → IsErr result → new.failures ≡ (old.failures + 1) % 2 ^ 64 → Seals (sum_of old) (out_of old) result (out_of new)
not_sealed old new (Err e) is count = record { count = count; puts = λ bytes covers. record { count = count; holds = tt } }
not_sealed old new (Ok x) is count = let no : false ≡ true = is in cc

-- What it holds as a sink is the same once the digest is told.
same_held : (old new : ToldSeen) → old.owed ≡ true → IsTold old new → held_in new ≡ held_in old
same_held old new was told = open_is new.ready new.past new.owed told.owed ∙ told.ready ∙ sym (owed_is old.ready old.past old.owed was)

pub same_state : (old new : ToldSeen) → old.owed ≡ true → IsTold old new → out_of new ≡ out_of old
same_state old new was told =
    ap (λ (x : List ℕ). over_writer (Some x) new.failures new.is_flushed) (same_held old new was told)
    ∙ ap (λ (n : ℕ). over_writer (Some (held_in old)) n new.is_flushed) told.failures
    ∙ ap (λ (b : Bool). over_writer (Some (held_in old)) old.failures b) told.is_flushed

-- Where it was the digest of all that was put.
pub told_right : (old new : ToldSeen) (digest : List ℕ) → digest ≡ sha256 old.past → IsToldBy digest old new → IsTold old new
told_right old new digest is told = record {
  ready = told.ready ∙ ap (λ (d : List ℕ). old.ready ++ spelled_record (commit d)) is;
  past = told.past ∙ ap (λ (d : List ℕ). old.past ++ spelled_record (commit d)) is;
  owed = told.owed;
  failures = told.failures;
  is_flushed = told.is_flushed;
}

-- Whatever it was, only the digest of the last record changes.
pub told_ends : (old new : ToldSeen) (digest : List ℕ) → old.owed ≡ true → IsToldBy digest old new → EndsInstead (held_in old) digest (held_in new)
told_ends old new digest was told = record {
  front = old.ready;
  before = sha256 old.past;
  size = length-sha256 old.past;
  was = owed_is old.ready old.past old.owed was;
  is = open_is new.ready new.past new.owed told.owed ∙ told.ready;
}

pub told_out : (old new : ToldSeen) (digest : List ℕ) → IsToldBy digest old new → out_of new ≡ over_writer (Some (held_in new)) old.failures old.is_flushed
told_out old new digest told = ap (λ (n : ℕ). over_writer (Some (held_in new)) n new.is_flushed) told.failures ∙ ap (λ (b : Bool). over_writer (Some (held_in new)) old.failures b) told.is_flushed

-- The record of a digest has 33 bytes, and no other digest.
length-closing : (past : List ℕ) → length (closing_record past) ≡ 33
unfolding spelled_record
length-closing past = omega (arith, length-sha256 past)

same_digest : (a b : List ℕ) → spelled_record (commit a) ≡ spelled_record (commit b) → a ≡ b
unfolding spelled_record
same_digest a b is = tail_same is

length-record : (digest : List ℕ) → length (spelled_record (commit digest)) ≡ 1 + length digest
unfolding spelled_record
length-record digest = omega arith

-- Two texts, each with a record of a digest behind it.
same_ends : (x y a b : List ℕ) → length a ≡ length b → x ++ spelled_record (commit a) ≡ y ++ spelled_record (commit b) → (x ≡ y) × (a ≡ b)
same_ends x y a b long is =
    let sizes : length x + length (spelled_record (commit a)) ≡ length y + length (spelled_record (commit b)) = sym (length-append x (spelled_record (commit a))) ∙ ap length is ∙ length-append y (spelled_record (commit b)) in
    let same : length x ≡ length y = omega (arith, sizes, length-record a, length-record b, long) in
    let parts = split_same x y (spelled_record (commit a)) (spelled_record (commit b)) same is in
    (parts.0, same_digest a b parts.1)

-- The digest that is owed is that of the record at the end.
pub owed_digest : (t : ToldSeen) (digest : List ℕ) → length digest ≡ 32 → t.owed ≡ true → EndsIn (held_in t) digest → digest ≡ sha256 t.past
owed_digest t digest long is ends = sym (same_ends t.ready ends.front (sha256 t.past) digest (length-sha256 t.past ∙ sym long) (sym (owed_is t.ready t.past t.owed is) ∙ ends.whole)).1

-- All but the record was taken.
pub closed_by : (taken held text : List ℕ) → length held ≡ 33 → taken ++ held ≡ text ++ closing_record text → EndsIn held (sha256 taken)
closed_by taken held text short is =
    let sizes : length taken + length held ≡ length text + length (closing_record text) = sym (length-append taken held) ∙ ap length is ∙ length-append text (closing_record text) in
    let same : length taken ≡ length text = omega (arith, sizes, short, length-closing text) in
    let parts = split_same taken text held (closing_record text) same is in
    record { front = []; whole = parts.1 ∙ ap closing_record (sym parts.0) }

-- What can be taken is the front of what it holds.
length-ready : (ready past : List ℕ) (owed : Bool) → length ready ≡ length (owing ready owed past) - owed_len owed
length-ready ready past false = omega arith
length-ready ready past true = omega (arith, length-append ready (closing_record past), length-closing past)

ready_len : (t : ToldSeen) → length t.ready ≡ length (held_in t) - owed_len t.owed
ready_len t = length-ready t.ready t.past t.owed

take_front : (count : ℕ) (ready past : List ℕ) (owed : Bool) → count ≤ length ready → take count (owing ready owed past) ≡ take count ready
take_front count ready past false le = refl
take_front count ready past true le = take-append-le count ready (closing_record past) le

take_ready : (t : ToldSeen) (count : ℕ) → count ≤ length t.ready → take count (held_in t) ≡ take count t.ready
take_ready t count le = take_front count t.ready t.past t.owed le

drop_front : (count : ℕ) (ready past : List ℕ) (owed : Bool) → count ≤ length ready → owing (drop count ready) owed past ≡ drop count (owing ready owed past)
drop_front count ready past false le = refl
drop_front count ready past true le = sym (drop-append-le count ready (closing_record past) le)

drop_ready : (t : ToldSeen) (count : ℕ) → count ≤ length t.ready → owing (drop count t.ready) t.owed t.past ≡ drop count (held_in t)
drop_ready t count le = drop_front count t.ready t.past t.owed le

few : (t : ToldSeen) (room count : ℕ) → count ≡ min room (length t.ready) → count ≤ length t.ready
few t room count is = rw is (min-le_right room (length t.ready))

pub took_count : (t : ToldSeen) (room count : ℕ) → count ≡ min room (length t.ready) → count ≡ min room (length (held_in t) - owed_len t.owed)
took_count t room count is = is ∙ ap (λ (n : ℕ). min room n) (ready_len t)

pub took_front : (t : ToldSeen) (buf filled : List ℕ) (count : ℕ) → count ≡ min (length buf) (length t.ready) → filled ≡ take count t.ready ++ drop count buf → filled ≡ take count (held_in t) ++ drop count buf
took_front t buf filled count is taken = taken ∙ ap (λ (x : List ℕ). x ++ drop count buf) (sym (take_ready t count (few t (length buf) count is)))

pub took_left : (t next : ToldSeen) (room count : ℕ) → count ≡ min room (length t.ready) → next ≡ record t { ready = drop count t.ready; failures = 0; is_flushed = false } → out_of next ≡ over_writer (Some (drop count (held_in t))) 0 false
took_left t next room count is left = ap out_of left ∙ ap (λ (x : List ℕ). over_writer (Some x) 0 false) (drop_ready t count (few t room count is))

pub took_sum : (t next : ToldSeen) (count : ℕ) → next ≡ record t { ready = drop count t.ready; failures = 0; is_flushed = false } → sum_of next ≡ sum_of t
took_sum t next count left = ap sum_of left

-- What was taken.
put_is : (taken text bytes old new : List ℕ) → new ≡ old ++ bytes → taken ++ old ≡ text → taken ++ new ≡ text ++ bytes
put_is taken text bytes old new grown is = ap (λ (x : List ℕ). taken ++ x) grown ∙ sym (append_assoc taken old bytes) ∙ ap (λ (x : List ℕ). x ++ bytes) is

given_is : (count : ℕ) (ready past : List ℕ) (owed : Bool) → take count ready ++ owing (drop count ready) owed past ≡ owing ready owed past
given_is count ready past false = take-append-drop count ready
given_is count ready past true = sym (append_assoc (take count ready) (drop count ready) (closing_record past)) ∙ ap (λ (x : List ℕ). x ++ closing_record past) (take-append-drop count ready)

still_held : (count : ℕ) (old new : ToldSeen) → new.ready ≡ drop count old.ready → new.owed ≡ old.owed → new.past ≡ old.past → take count old.ready ++ held_in new ≡ held_in old
still_held count old new ready owed past =
    ap (λ (x : List ℕ). take count old.ready ++ owing x new.owed new.past) ready
    ∙ ap (λ (b : Bool). take count old.ready ++ owing (drop count old.ready) b new.past) owed
    ∙ ap (λ (x : List ℕ). take count old.ready ++ owing (drop count old.ready) old.owed x) past
    ∙ given_is count old.ready old.past old.owed

owed_text : (taken text : List ℕ) (t : ToldSeen) → t.owed ≡ true → taken ++ held_in t ≡ text ++ closing_record text → (taken ++ t.ready ≡ text) × (sha256 text ≡ sha256 t.past)
owed_text taken text t owed is =
    let whole : (taken ++ t.ready) ++ closing_record t.past ≡ text ++ closing_record text = append_assoc taken t.ready (closing_record t.past) ∙ ap (λ (x : List ℕ). taken ++ x) (sym (owed_is t.ready t.past t.owed owed)) ∙ is in
    let parts = same_ends (taken ++ t.ready) text (sha256 t.past) (sha256 text) (length-sha256 t.past ∙ sym (length-sha256 text)) whole in
    (parts.0, sym parts.1)

pub taken_is_put : TakenIsPut
taken_is_put = record {
  put = λ taken text bytes old new appends is. put_is taken text bytes (held_in old) (held_in new) (appends.holds refl).1 is;
  given = λ taken text count old new ready owed past is. append_assoc taken (take count old.ready) (held_in new) ∙ ap (λ (x : List ℕ). taken ++ x) (still_held count old new ready owed past) ∙ is;
  sealed = λ taken text old new seals covers is. put_is taken text (closing_record text) (held_in old) (held_in new) ((seals.puts text covers).holds refl).1 is;
  owed = owed_text;
}

-- The record of the digest was put behind what waits.
pub told_ready : (items record_bytes past : List ℕ) (gone : ℕ) → gone ≤ length items → record_bytes ≡ closing_record past → drop gone (items ++ record_bytes) ≡ drop gone items ++ closing_record past
told_ready items record_bytes past gone le is = drop-append-le gone items record_bytes le ∙ ap (λ (x : List ℕ). drop gone items ++ x) is
