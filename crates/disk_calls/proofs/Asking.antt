-- Calls that are out: no two overlap, each is asked by one request, and its answer, whole or in part, meets that one.
use Rattle.std.proofs.Common.{◌≡◌, ◌≢◌, ℕ, zero, suc, ◌+◌, ◌-◌, ◌/◌, ◌%◌, ◌<◌, ◌≤◌, ◌∙◌, ◌⊎◌, inl, inr, List, [], ◌∷◌, ◌++◌, length, take, map, set, cond, ltb, leb, eqb, min, Bool, true, false, not, ◌&&◌, Option, Some, None, slice_get, refl, sym, ap, arith}
use Rattle.std.specs.List.{list_any, remove}
use Rattle.std.specs.Option.{option_map}
use Rattle.std.proofs.Math.Nat.{div-mul-le_self}
use Rattle.std.proofs.lemmas.Nat.{le-div}
use Rattle.std.proofs.lemmas.Bool.{and_parts, and_from, true≢false, false≢true, leb-true, ltb-true, eqb-true, le-leb, lt-ltb, le-ltb, eq-eqb, cases_Bool, cases_lt, not-true}
use Rattle.std.proofs.lemmas.Option.{slice_get-map, slice_get_within}
use Rattle.blk.specs.Outside.{Answer, Did, Failed, Gave, answer_step, answered, answers, disk_call, disk_call_at, disk_call_in, call_of, is_read, more_done, awaits, awaits_at, units_left, what_of}
use Rattle.blk.specs.Move.{failed}
use Rattle.blk.specs.Request.{is_good, is_open, next_sector}
use Rattle.blk.specs.declared.disk.TheConstants.{SECTOR_SIZE}
use Rattle.blk.specs.declared.outside.What.{What}
use Rattle.blk.specs.declared.outside.What.TheVariants as to
use Rattle.blk.specs.declared.outside.DiskCall.{DiskCall}
use Rattle.blk.specs.declared.request.Verdict.{Verdict}
use Rattle.blk.specs.declared.request.Request.{Request}
use Rattle.disk_calls.specs.Overlap.{first_block, is_flush, last_block, overlap}
use Rattle.disk_calls.specs.Handing.{asker, begins_as, call_at, code_of, cut, handed_out, left_overlaps, may_hand_out}
use Rattle.disk_calls.specs.Desk.{AreMet, CallsAreMet, Desk, Drop, End, Goes, Hand, IsAsked, IsKept, Lose, Pass, Placed, Ran, Reply, Take, Turn, moved_up, outs_of, reply_to}
use Rattle.disk_calls.specs.declared.device_calls.TheConstants.{CALLS_MAX}
use Rattle.disk_calls.specs.declared.out.Out.{Out}

div_grows : (m n k : ℕ) → 1 ≤ k → m ≤ n → m / k ≤ n / k
div_grows m n k some below = le-div (m / k) n k (omega (arith, some)) (omega (arith, div-mul-le_self m k, below))

-- Overlaps.

grows_by : (a c : Bool) (from part_from to part_to other_from other_to : ℕ) → from ≤ part_from → part_to ≤ to → cond a c (cond c false (leb part_from other_to && leb other_from part_to)) ≡ true
    → cond a c (cond c false (leb from other_to && leb other_from to)) ≡ true
grows_by true c from part_from to part_to other_from other_to below above h = h
grows_by false true from part_from to part_to other_from other_to below above h = absurd (false≢true h)
grows_by false false from part_from to part_to other_from other_to below above h =
    let parts = and_parts (leb part_from other_to) (leb other_from part_to) h in
    let one = leb-true part_from other_to parts.0 in
    let two = leb-true other_from part_to parts.1 in
    and_from (leb from other_to) (leb other_from to) (le-leb from other_to (omega (arith, one, below))) (le-leb other_from to (omega (arith, two, above)))

-- One call is a part of another.
pub record IsPart (part whole : DiskCall) : Type 0 where
  pub same_what : part.what ≡ whole.what
  pub from : whole.first ≤ part.first
  pub some : 1 ≤ part.count
  pub to : part.first + part.count ≤ whole.first + whole.count

part_overlaps : (size : ℕ) (part whole other : DiskCall) → 1 ≤ size → IsPart part whole → overlap size part other ≡ true → overlap size whole other ≡ true
part_overlaps size part whole other some is h =
    grows_by (is_flush whole.what) (is_flush other.what) (first_block size whole) (first_block size part) (last_block size whole) (last_block size part) (first_block size other) (last_block size other)
    (div_grows whole.first part.first size some is.from) (div_grows (part.first + part.count - 1) (whole.first + whole.count - 1) size some (omega (arith, is.to, is.some))) (rw is.same_what at h)

-- What a call does not overlap no part of it does.
pub part_apart : (size : ℕ) (part whole other : DiskCall) → 1 ≤ size → IsPart part whole → overlap size whole other ≡ false → overlap size part other ≡ false
part_apart size part whole other some is h =
    elim (cases_Bool (overlap size part other)) as (λ _. overlap size part other ≡ false) [
      | inl over ↦ absurd (true≢false (sym (part_overlaps size part whole other some is over) ∙ h))
      | inr clear ↦ clear
    ]

begins_by : (a : Bool) (from to other_to : ℕ) → from ≤ to → from ≤ other_to → cond a a (cond a false (leb from other_to && leb from to)) ≡ true
begins_by true from to other_to here there = refl
begins_by false from to other_to here there = and_from (leb from other_to) (leb from to) (le-leb from other_to there) (le-leb from to here)

-- Two calls that do the same from the same sector on overlap.
pub beginning_overlaps : (size : ℕ) (a b : DiskCall) → 1 ≤ size → a.what ≡ b.what → a.first ≡ b.first → 1 ≤ a.count → 1 ≤ b.count → overlap size a b ≡ true
beginning_overlaps size a b some what first in_a in_b =
    rw (what, first) (begins_by (is_flush b.what) (first_block size b) ((b.first + a.count - 1) / size) (last_block size b) (div_grows b.first (b.first + a.count - 1) size some (omega (arith, in_a))) (div_grows b.first (b.first + b.count - 1) size some (omega (arith, in_b))))

both_turned : (x y : Bool) → (x && y) ≡ false → (y && x) ≡ false
both_turned true true h = h
both_turned true false h = refl
both_turned false true h = refl
both_turned false false h = refl

turned_by : (a b x y : Bool) → cond a b (cond b false (x && y)) ≡ false → cond b a (cond a false (y && x)) ≡ false
turned_by true true x y h = h
turned_by true false x y h = refl
turned_by false true x y h = refl
turned_by false false x y h = both_turned x y h

pub apart_turned : (size : ℕ) (a b : DiskCall) → overlap size a b ≡ false → overlap size b a ≡ false
apart_turned size a b h = turned_by (is_flush a.what) (is_flush b.what) (leb (first_block size a) (last_block size b)) (leb (first_block size b) (last_block size a)) h

-- What a request asks.

-- What a request asks is what it has left.
pub record IsLeft (r : Request) (call : DiskCall) : Type 0 where
  pub is_waiting : is_open r ≡ true
  pub what : what_of r.kind ≡ Some call.what
  pub first : call.first ≡ next_sector r
  pub count : call.count ≡ units_left r

left_by : (o : Option What) (waits : Bool) (first count : ℕ) (call : DiskCall) → cond waits (call_of o first count) None ≡ Some call → (waits ≡ true) × (o ≡ Some call.what) × (call.first ≡ first) × (call.count ≡ count)
left_by o false first count call h = cc
left_by None true first count call h = cc
left_by (Some what) true first count call h =
    let same : call ≡ record { what = what; first = first; count = count } = cc in
    (refl, ap (λ (c : DiskCall). Some c.what) (sym same), ap (λ (c : DiskCall). c.first) same, ap (λ (c : DiskCall). c.count) same)

pub is_left : (r : Request) (call : DiskCall) → disk_call r ≡ Some call → IsLeft r call
is_left r call h =
    let by = left_by (what_of r.kind) (is_open r) (next_sector r) (units_left r) call h in
    record { is_waiting = by.0; what = by.1; first = by.2; count = by.3 }

pub some_units : (verdict : Verdict) (done units : ℕ) → (is_good verdict && ltb done units) ≡ true → done < units
some_units verdict done units h = ltb-true done units (and_parts (is_good verdict) (ltb done units) h).1

-- It asks for one unit at least.
pub some_left : (r : Request) (call : DiskCall) → disk_call r ≡ Some call → 1 ≤ call.count
some_left r call h =
    let is = is_left r call h in
    let some = some_units r.verdict r.done r.units is.is_waiting in
    omega (arith, some, is.count)

same_inside : (a b : What) → Some a ≡ Some b → a ≡ b
same_inside a b e = cc

-- What a request asks after so many units more are done is a part of what it asked.
part_after : (r : Request) (n : ℕ) (before after : DiskCall) → disk_call r ≡ Some before → disk_call (more_done r n) ≡ Some after → IsPart after before
part_after r n before after was now =
    let old = is_left r before was in
    let new = is_left (more_done r n) after now in
    let some = some_units r.verdict r.done r.units old.is_waiting in
    let more = some_units r.verdict (r.done + n) r.units new.is_waiting in
    record {
      same_what = same_inside after.what before.what (sym new.what ∙ old.what);
      from = omega (arith, old.first, new.first);
      some = omega (arith, new.count, more);
      to = omega (arith, old.first, new.first, old.count, new.count, some, more);
    }

-- So is what it asks after any answer.
pub left_after : (r : Request) (answer : Answer) (before after : DiskCall) → disk_call r ≡ Some before → disk_call (answered r answer) ≡ Some after → IsPart after before
left_after r (Gave bytes) before after was now = part_after r (length bytes / SECTOR_SIZE) before after was now
left_after r (Did count) before after was now = part_after r count before after was now
left_after r Failed before after was now =
    let new = is_left (failed r) after now in
    absurd (false≢true new.is_waiting)

-- An answer to a call answers one that does the same and is no shorter.
pub answers_longer : (call longer : DiskCall) (answer : Answer) → longer.what ≡ call.what → call.count ≤ longer.count → answers call answer ≡ true → answers longer answer ≡ true
answers_longer call longer (Gave bytes) what count h =
    let front = is_read call.what && ltb 0 (length bytes) && eqb (length bytes % SECTOR_SIZE) 0 in
    let parts = and_parts front (leb (length bytes / SECTOR_SIZE) call.count) h in
    rw what (and_from front (leb (length bytes / SECTOR_SIZE) longer.count) parts.0 (le-leb (length bytes / SECTOR_SIZE) longer.count (omega (arith, leb-true (length bytes / SECTOR_SIZE) call.count parts.1, count))))
answers_longer call longer (Did n) what count h =
    let front = not (is_read call.what) && ltb 0 n in
    let parts = and_parts front (leb n call.count) h in
    rw what (and_from front (leb n longer.count) parts.0 (le-leb n longer.count (omega (arith, leb-true n call.count parts.1, count))))
answers_longer call longer Failed what count h = refl

-- Lists.

get_first : {A : Type 0} (xs ys : List A) (k : ℕ) (x : A) → slice_get xs k ≡ Some x → slice_get (xs ++ ys) k ≡ Some x
get_first [] ys k x h = cc
get_first (y ∷ xs) ys zero x h = h
get_first (y ∷ xs) ys (suc k) x h = get_first xs ys k x h

pub get_last : {A : Type 0} (xs : List A) (y : A) (k : ℕ) (x : A) → slice_get (xs ++ y ∷ []) k ≡ Some x → (slice_get xs k ≡ Some x) ⊎ ((k ≡ length xs) × (x ≡ y))
get_last [] y zero x h = inr (refl, cc)
get_last [] y (suc k) x h = cc
get_last (z ∷ xs) y zero x h = inl h
get_last (z ∷ xs) y (suc k) x h =
    elim (get_last xs y k x h) as (λ _. (slice_get xs k ≡ Some x) ⊎ ((suc k ≡ suc (length xs)) × (x ≡ y))) [
      | inl there ↦ inl there
      | inr here ↦ inr (ap suc here.0, here.1)
    ]

pub get_within : {A : Type 0} (xs ys : List A) (k : ℕ) → k < length xs → slice_get (xs ++ ys) k ≡ slice_get xs k
get_within [] ys k below = absurd (omega (arith, below))
get_within (x ∷ xs) ys zero below = refl
get_within (x ∷ xs) ys (suc k) below = get_within xs ys k (omega (arith, below))

get_taken : {A : Type 0} (xs : List A) (n k : ℕ) → k < n → slice_get (take n xs) k ≡ slice_get xs k
get_taken xs zero k below = absurd (omega (arith, below))
get_taken [] (suc n) k below = refl
get_taken (x ∷ xs) (suc n) zero below = refl
get_taken (x ∷ xs) (suc n) (suc k) below = get_taken xs n k (omega (arith, below))

pub get_before : {A : Type 0} (xs : List A) (i k : ℕ) → k < i → slice_get (remove xs i) k ≡ slice_get xs k
get_before [] zero k below = absurd (omega (arith, below))
get_before [] (suc i) k below = refl
get_before (x ∷ xs) zero k below = absurd (omega (arith, below))
get_before (x ∷ xs) (suc i) zero below = refl
get_before (x ∷ xs) (suc i) (suc k) below = get_before xs i k (omega (arith, below))

pub get_behind : {A : Type 0} (xs : List A) (i k : ℕ) → i ≤ k → slice_get (remove xs i) k ≡ slice_get xs (suc k)
get_behind [] zero k from = refl
get_behind [] (suc i) k from = refl
get_behind (x ∷ xs) zero k from = refl
get_behind (x ∷ xs) (suc i) zero from = absurd (omega (arith, from))
get_behind (x ∷ xs) (suc i) (suc k) from = get_behind xs i k (omega (arith, from))

-- Where an element was before the i-th was removed.
pub record CameFrom {A : Type 0} (xs : List A) (i m : ℕ) (x : A) : Type 0 where
  pub n : ℕ
  pub is : slice_get xs n ≡ Some x
  pub place : ((m < i) × (n ≡ m)) ⊎ ((i ≤ m) × (n ≡ suc m))

pub came_from : {A : Type 0} (xs : List A) (i m : ℕ) (x : A) → slice_get (remove xs i) m ≡ Some x → CameFrom xs i m x
came_from xs i m x h =
    elim (cases_lt m i) as (λ _. CameFrom xs i m x) [
      | inl below ↦ record { n = m; is = sym (get_before xs i m below) ∙ h; place = inl (below, refl) }
      | inr from ↦ record { n = suc m; is = sym (get_behind xs i m from) ∙ h; place = inr (from, refl) }
    ]

not_there : {A : Type 0} (xs : List A) (i m : ℕ) (x : A) → (from : CameFrom xs i m x) → from.n ≢ i
not_there xs i m x from e =
    elim from.place as (λ _. ⊥) [
      | inl p ↦ omega (arith, p.0, p.1, e)
      | inr p ↦ omega (arith, p.0, p.1, e)
    ]

pub still_two : {A : Type 0} (xs : List A) (i m k : ℕ) (x y : A) → (a : CameFrom xs i m x) (b : CameFrom xs i k y) → m ≢ k → a.n ≢ b.n
still_two xs i m k x y a b two e =
    elim a.place as (λ _. ⊥) [
      | inl p ↦ elim b.place as (λ _. ⊥) [ inl q ↦ two (omega (arith, p.1, q.1, e)) | inr q ↦ omega (arith, p.0, p.1, q.0, q.1, e) ]
      | inr p ↦ elim b.place as (λ _. ⊥) [ inl q ↦ omega (arith, p.0, p.1, q.0, q.1, e) | inr q ↦ two (omega (arith, p.1, q.1, e)) ]
    ]

pub none_of : {A : Type 0} (p : A → Bool) (xs : List A) (k : ℕ) (x : A) → list_any p xs ≡ false → slice_get xs k ≡ Some x → p x ≡ false
none_of p [] k x none h = cc
none_of p (y ∷ xs) zero x none h =
    let same : y ≡ x = cc in
    elim (cases_Bool (p y)) as (λ _. p x ≡ false) [
      | inl is ↦ absurd (true≢false (sym (rw is refl) ∙ none))
      | inr is ↦ rw (← same) is
    ]
none_of p (y ∷ xs) (suc k) x none h =
    elim (cases_Bool (p y)) as (λ _. p x ≡ false) [
      | inl is ↦ absurd (true≢false (sym (rw is refl) ∙ none))
      | inr is ↦ none_of p xs k x (rw is at none) h
    ]

-- What the requests ask.

pub asks_one : (requests : List Request) (k : ℕ) (call : DiskCall) → disk_call_at requests k ≡ Some call → (r : Request) × (slice_get requests k ≡ Some r) × (disk_call r ≡ Some call)
asks_one [] k call h = cc
asks_one (r ∷ requests) zero call h = (r, refl, h)
asks_one (r ∷ requests) (suc k) call h = asks_one requests k call h

asks_same : (requests : List Request) (k : ℕ) (r : Request) (j : ℕ) → disk_call_at requests k ≡ None → disk_call r ≡ None → disk_call_at (set requests k r) j ≡ disk_call_at requests j
asks_same [] k r j quiet silent = refl
asks_same (x ∷ requests) zero r zero quiet silent = silent ∙ sym quiet
asks_same (x ∷ requests) zero r (suc j) quiet silent = refl
asks_same (x ∷ requests) (suc k) r zero quiet silent = refl
asks_same (x ∷ requests) (suc k) r (suc j) quiet silent = asks_same requests k r j quiet silent

asks_other : (requests : List Request) (k : ℕ) (r : Request) (j : ℕ) → j ≢ k → disk_call_at (set requests k r) j ≡ disk_call_at requests j
asks_other [] k r j other = refl
asks_other (x ∷ requests) zero r zero other = absurd (other refl)
asks_other (x ∷ requests) zero r (suc j) other = refl
asks_other (x ∷ requests) (suc k) r zero other = refl
asks_other (x ∷ requests) (suc k) r (suc j) other = asks_other requests k r j (λ e. other (ap suc e))

asks_there : (requests : List Request) (k : ℕ) (r new : Request) → slice_get requests k ≡ Some r → disk_call_at (set requests k new) k ≡ disk_call new
asks_there [] k r new h = cc
asks_there (x ∷ requests) zero r new h = refl
asks_there (x ∷ requests) (suc k) r new h = asks_there requests k r new h

asks_within : (requests : List Request) (k : ℕ) (call : DiskCall) → disk_call_at requests k ≡ Some call → k < length requests
asks_within requests k call h = let one = asks_one requests k call h in slice_get_within requests k one.0 one.1

-- Whom an answer is for.

same_code : (a b : What) → code_of a ≡ code_of b → a ≡ b
same_code to.Read to.Read e = refl
same_code to.Read to.Write e = absurd (omega (arith, e))
same_code to.Read to.Clear e = absurd (omega (arith, e))
same_code to.Read to.Flush e = absurd (omega (arith, e))
same_code to.Write to.Read e = absurd (omega (arith, e))
same_code to.Write to.Write e = refl
same_code to.Write to.Clear e = absurd (omega (arith, e))
same_code to.Write to.Flush e = absurd (omega (arith, e))
same_code to.Clear to.Read e = absurd (omega (arith, e))
same_code to.Clear to.Write e = absurd (omega (arith, e))
same_code to.Clear to.Clear e = refl
same_code to.Clear to.Flush e = absurd (omega (arith, e))
same_code to.Flush to.Read e = absurd (omega (arith, e))
same_code to.Flush to.Write e = absurd (omega (arith, e))
same_code to.Flush to.Clear e = absurd (omega (arith, e))
same_code to.Flush to.Flush e = refl

begins_both : (call asked : DiskCall) → begins_as call (Some asked) ≡ true → (asked.what ≡ call.what) × (asked.first ≡ call.first)
begins_both call asked h =
    let parts = and_parts (eqb (code_of asked.what) (code_of call.what)) (eqb asked.first call.first) h in
    (same_code asked.what call.what (eqb-true (code_of asked.what) (code_of call.what) parts.0), eqb-true asked.first call.first parts.1)

begins_so : (call asked : DiskCall) → asked.what ≡ call.what → asked.first ≡ call.first → begins_as call (Some asked) ≡ true
begins_so call asked what first =
    and_from (eqb (code_of asked.what) (code_of call.what)) (eqb asked.first call.first) (eq-eqb (code_of asked.what) (code_of call.what) (ap code_of what)) (eq-eqb asked.first call.first first)

pub asker_first : (requests : List Request) (k : ℕ) (call : DiskCall) → begins_as call (disk_call_at requests k) ≡ true → ((j : ℕ) → j < k → begins_as call (disk_call_at requests j) ≡ false) → asker requests call ≡ Some k
asker_first [] k call here none = absurd (false≢true here)
asker_first (r ∷ requests) zero call here none = rw here refl
asker_first (r ∷ requests) (suc k) call here none =
    let later = asker_first requests k call here (λ j below. none (suc j) (omega (arith, below))) in
    rw (none 0 (omega arith), later) (ap Some (omega arith))

pub asker_none : (requests : List Request) (call : DiskCall) → ((j : ℕ) → j < length requests → begins_as call (disk_call_at requests j) ≡ false) → asker requests call ≡ None
asker_none [] call none = refl
asker_none (r ∷ requests) call none =
    let later = asker_none requests call (λ j below. none (suc j) (omega (arith, below))) in
    rw (none 0 (omega arith), later) refl

begins_none : (size : ℕ) (call : DiskCall) (o : Option DiskCall) → 1 ≤ size → 1 ≤ call.count → ((left : DiskCall) → o ≡ Some left → (1 ≤ left.count) × (overlap size left call ≡ false)) → begins_as call o ≡ false
begins_none size call None some in_call apart = refl
begins_none size call (Some left) some in_call apart =
    let is = apart left refl in
    elim (cases_Bool (begins_as call (Some left))) as (λ _. begins_as call (Some left) ≡ false) [
      | inl begins ↦
          let both = begins_both call left begins in
          absurd (true≢false (sym (beginning_overlaps size left call some both.0 both.1 is.0 in_call) ∙ is.1))
      | inr other ↦ other
    ]

-- The answer of a call that is out is for the request that it was handed out for.
pub asker_is : (size : ℕ) (requests : List Request) (p : Placed) → 1 ≤ size → IsAsked size requests p → asker requests p.out.call ≡ Some p.at
asker_is size requests p some h =
    asker_first requests p.at p.out.call (rw h.is (begins_so p.out.call h.asked h.same_what h.same_first))
    (λ j below. begins_none size p.out.call (disk_call_at requests j) some h.some (λ left is. let one = asks_one requests j left is in (some_left one.0 left one.2, h.alone j left below is)))

-- And whatever answers the call, whole or in part, that request asks for.
pub answer_meets : (size : ℕ) (requests : List Request) (p : Placed) (answer : Answer) → IsAsked size requests p → answers p.out.call answer ≡ true → awaits_at requests p.at answer ≡ true
answer_meets size requests p answer h to =
    let one = asks_one requests p.at h.asked h.is in
    rw (one.1, one.2) (answers_longer p.out.call h.asked answer h.same_what h.enough to)

-- Two calls that are out are asked by two requests.
pub two_askers : (size : ℕ) (requests : List Request) (p q : Placed) → 1 ≤ size → IsAsked size requests p → IsAsked size requests q → overlap size p.out.call q.out.call ≡ false → p.at ≢ q.at
two_askers size requests p q some a b apart same =
    let one : Some a.asked ≡ Some b.asked = sym a.is ∙ ap (disk_call_at requests) same ∙ b.is in
    let call : a.asked ≡ b.asked = cc in
    let what : p.out.call.what ≡ q.out.call.what = sym a.same_what ∙ ap (λ (c : DiskCall). c.what) call ∙ b.same_what in
    let first : p.out.call.first ≡ q.out.call.first = sym a.same_first ∙ ap (λ (c : DiskCall). c.first) call ∙ b.same_first in
    true≢false (sym (beginning_overlaps size p.out.call q.out.call some what first a.some b.some) ∙ apart)

-- Turns.

-- Requests that ask what others asked, at the same places.
asked_alike : (size : ℕ) (old new : List Request) (p : Placed) → ((k : ℕ) → disk_call_at new k ≡ disk_call_at old k) → IsAsked size old p → IsAsked size new p
asked_alike size old new p same h = record {
  asked = h.asked;
  is = same p.at ∙ h.is;
  same_what = h.same_what;
  same_first = h.same_first;
  some = h.some;
  enough = h.enough;
  alone = λ k left below is. h.alone k left below (sym (same k) ∙ is);
}

taken_too : (size : ℕ) (requests : List Request) (r : Request) (p : Placed) → IsAsked size requests p → IsAsked size (requests ++ r ∷ []) p
taken_too size requests r p h =
    let inside = asks_within requests p.at h.asked h.is in
    record {
      asked = h.asked;
      is = ap disk_call_in (get_within requests (r ∷ []) p.at inside) ∙ h.is;
      same_what = h.same_what;
      same_first = h.same_first;
      some = h.some;
      enough = h.enough;
      alone = λ k left below is. h.alone k left below (ap disk_call_in (sym (get_within requests (r ∷ []) k (omega (arith, below, inside)))) ∙ is);
    }

none_asked : (call : DiskCall) → None ≡ Some call → ⊥
none_asked call e = cc

alone_moved : (size : ℕ) (requests : List Request) (k : ℕ) (p : Placed) → k < p.at → IsAsked size requests p → (j : ℕ) (left : DiskCall) → j < p.at - 1 → disk_call_at (remove requests k) j ≡ Some left → overlap size left p.out.call ≡ false
alone_moved size requests k p before h j left below is =
    elim (cases_lt j k) as (λ _. overlap size left p.out.call ≡ false) [
      | inl ahead ↦ h.alone j left (omega (arith, below)) (ap disk_call_in (sym (get_before requests k j ahead)) ∙ is)
      | inr behind ↦ h.alone (suc j) left (omega (arith, below)) (ap disk_call_in (sym (get_behind requests k j behind)) ∙ is)
    ]

-- A request that asks nothing has ended.
ended_too : (size : ℕ) (requests : List Request) (k : ℕ) (p : Placed) → disk_call_at requests k ≡ None → IsAsked size requests p → IsAsked size (remove requests k) (moved_up k p)
ended_too size requests k p quiet h =
    elim (cases_lt k p.at) as (λ _. IsAsked size (remove requests k) (moved_up k p)) [
      | inl before ↦
          let at : cond (ltb k p.at) (p.at - 1) p.at ≡ p.at - 1 = rw (lt-ltb k p.at before) refl in
          let next : suc (p.at - 1) ≡ p.at = omega (arith, before) in
          record {
            asked = h.asked;
            is = rw (at, get_behind requests k (p.at - 1) (omega (arith, before)), next) h.is;
            same_what = h.same_what;
            same_first = h.same_first;
            some = h.some;
            enough = h.enough;
            alone = λ j left below is. alone_moved size requests k p before h j left (omega (arith, at, below)) is;
          }
      | inr from ↦
          let at : cond (ltb k p.at) (p.at - 1) p.at ≡ p.at = rw (le-ltb k p.at from) refl in
          let other : p.at ≢ k = λ e. none_asked h.asked (sym quiet ∙ ap (disk_call_at requests) (sym e) ∙ h.is) in
          let below_k : p.at < k = omega (arith, from, other) in
          record {
            asked = h.asked;
            is = rw (at, get_before requests k p.at below_k) h.is;
            same_what = h.same_what;
            same_first = h.same_first;
            some = h.some;
            enough = h.enough;
            alone = λ j left below is. h.alone j left (omega (arith, at, below)) (ap disk_call_in (sym (get_before requests k j (omega (arith, below_k, at, below)))) ∙ is);
          }
    ]

pub is_same : (j k : ℕ) → (j ≡ k) ⊎ (j ≢ k)
is_same j k =
    elim (cases_lt j k) as (λ _. (j ≡ k) ⊎ (j ≢ k)) [
      | inl below ↦ inr (λ e. omega (arith, below, e))
      | inr from ↦ elim (cases_lt k j) as (λ _. (j ≡ k) ⊎ (j ≢ k)) [ inl above ↦ inr (λ e. omega (arith, above, e)) | inr to ↦ inl (omega (arith, from, to)) ]
    ]

alone_answered : (size : ℕ) (requests : List Request) (at : ℕ) (q : Placed) (r : Request) (answer : Answer) (asked : DiskCall) → 1 ≤ size → slice_get requests at ≡ Some r → disk_call r ≡ Some asked → IsAsked size requests q
    → (j : ℕ) (left : DiskCall) → j < q.at → disk_call_at (set requests at (answered r answer)) j ≡ Some left → overlap size left q.out.call ≡ false
alone_answered size requests at q r answer asked some found asks_it h j left below is =
    elim (is_same j at) as (λ _. overlap size left q.out.call ≡ false) [
      | inl here ↦
          let now : disk_call (answered r answer) ≡ Some left = sym (asks_there requests at r (answered r answer) found) ∙ ap (disk_call_at (set requests at (answered r answer))) (sym here) ∙ is in
          let was : disk_call_at requests j ≡ Some asked = ap (disk_call_at requests) here ∙ ap disk_call_in found ∙ asks_it in
          part_apart size left asked q.out.call some (left_after r answer asked left asks_it now) (h.alone j asked below was)
      | inr other ↦ h.alone j left below (sym (asks_other requests at (answered r answer) j other) ∙ is)
    ]

-- One request had the answer of its call: another is still asked for.
answered_too : (size : ℕ) (requests : List Request) (at : ℕ) (q : Placed) (r : Request) (answer : Answer) (asked : DiskCall) → 1 ≤ size → slice_get requests at ≡ Some r → disk_call r ≡ Some asked → at ≢ q.at → IsAsked size requests q
    → IsAsked size (set requests at (answered r answer)) q
answered_too size requests at q r answer asked some found asks_it two h = record {
  asked = h.asked;
  is = asks_other requests at (answered r answer) q.at (λ e. two (sym e)) ∙ h.is;
  same_what = h.same_what;
  same_first = h.same_first;
  some = h.some;
  enough = h.enough;
  alone = alone_answered size requests at q r answer asked some found asks_it h;
}

-- What the rule of handing out says of a call that it let out.
pub record MayBeOut (size most : ℕ) (outs : List Out) (requests : List Request) (k : ℕ) (call : DiskCall) : Type 0 where
  pub asked : DiskCall
  pub is : disk_call_at requests k ≡ Some asked
  pub call_is : call ≡ cut most asked
  pub room : length outs < CALLS_MAX
  pub clear_of_outs : list_any (λ out. overlap size out.call call) outs ≡ false
  pub clear_of_earlier : list_any (λ r. left_overlaps size call (disk_call r)) (take k requests) ≡ false

let_out_by : (size most : ℕ) (outs : List Out) (requests : List Request) (k : ℕ) (call asked : DiskCall) → disk_call_at requests k ≡ Some asked → (may : Bool) → may_hand_out size outs (take k requests) (cut most asked) ≡ may
    → cond may (Some (cut most asked)) None ≡ Some call → MayBeOut size most outs requests k call
let_out_by size most outs requests k call asked is false may h = cc
let_out_by size most outs requests k call asked is true may h =
    let same : cut most asked ≡ call = cc in
    let clear = not (list_any (λ out. overlap size out.call (cut most asked)) outs) in
    let parts = and_parts (ltb (length outs) CALLS_MAX && clear) (not (list_any (λ r. left_overlaps size (cut most asked) (disk_call r)) (take k requests))) may in
    let front = and_parts (ltb (length outs) CALLS_MAX) clear parts.0 in
    record {
      asked = asked;
      is = is;
      call_is = sym same;
      room = ltb-true (length outs) CALLS_MAX front.0;
      clear_of_outs = rw (← same) (not-true (list_any (λ out. overlap size out.call (cut most asked)) outs) front.1);
      clear_of_earlier = rw (← same) (not-true (list_any (λ r. left_overlaps size (cut most asked) (disk_call r)) (take k requests)) parts.1);
    }

let_out_to : (size most : ℕ) (outs : List Out) (requests : List Request) (k : ℕ) (call : DiskCall) (o : Option DiskCall) → disk_call_at requests k ≡ o → handed_out size most outs (take k requests) o ≡ Some call → MayBeOut size most outs requests k call
let_out_to size most outs requests k call None is h = cc
let_out_to size most outs requests k call (Some asked) is h = let_out_by size most outs requests k call asked is (may_hand_out size outs (take k requests) (cut most asked)) refl h

pub let_out : (size most : ℕ) (outs : List Out) (requests : List Request) (k : ℕ) (call : DiskCall) → call_at size most outs requests k ≡ Some call → MayBeOut size most outs requests k call
let_out size most outs requests k call h = let_out_to size most outs requests k call (disk_call_at requests k) refl h

pub least : (n most : ℕ) → 1 ≤ n → 1 ≤ most → (1 ≤ min n most) × (min n most ≤ n)
least n most some any = (omega (arith, some, any), omega arith)

-- A call that was let out is asked for by the request that it was let out for.
let_out_asked : (size most number : ℕ) (outs : List Out) (requests : List Request) (k : ℕ) (call : DiskCall) → 1 ≤ most → call_at size most outs requests k ≡ Some call → IsAsked size requests (record { out = record { number = number; call = call }; at = k })
let_out_asked size most number outs requests k call any h =
    let may = let_out size most outs requests k call h in
    let one = asks_one requests k may.asked may.is in
    let few = least may.asked.count most (some_left one.0 may.asked one.2) any in
    let count : call.count ≡ min may.asked.count most = ap (λ (c : DiskCall). c.count) may.call_is in
    record {
      asked = may.asked;
      is = may.is;
      same_what = ap (λ (c : DiskCall). c.what) (sym may.call_is);
      same_first = ap (λ (c : DiskCall). c.first) (sym may.call_is);
      some = omega (arith, count, few.0);
      enough = omega (arith, count, few.1);
      alone = λ j left below is.
          let other = asks_one requests j left is in
          let none = none_of (λ r. left_overlaps size call (disk_call r)) (take k requests) j other.0 may.clear_of_earlier (get_taken requests k j below ∙ other.1) in
          rw other.2 at none;
    }

kept_taken : (size : ℕ) (d : Desk) (r : Request) → IsKept size d → IsKept size (record d { requests = d.requests ++ r ∷ [] })
kept_taken size d r h = record { asked = λ i p is. taken_too size d.requests r p (h.asked i p is); apart = h.apart }

kept_passed : (size : ℕ) (d : Desk) (k : ℕ) (r : Request) → disk_call_at d.requests k ≡ None → disk_call r ≡ None → IsKept size d → IsKept size (record d { requests = set d.requests k r })
kept_passed size d k r quiet silent h = record { asked = λ i p is. asked_alike size d.requests (set d.requests k r) p (λ j. asks_same d.requests k r j quiet silent) (h.asked i p is); apart = h.apart }

mapped : (k : ℕ) (placed : List Placed) (i : ℕ) (new : Placed) → slice_get (map (moved_up k) placed) i ≡ Some new → (p : Placed) × (slice_get placed i ≡ Some p) × (new ≡ moved_up k p)
mapped k [] i new h = cc
mapped k (p ∷ placed) zero new h = (p, refl, cc)
mapped k (p ∷ placed) (suc i) new h = mapped k placed i new h

kept_ended : (size : ℕ) (d : Desk) (k : ℕ) → disk_call_at d.requests k ≡ None → IsKept size d → IsKept size (record { requests = remove d.requests k; placed = map (moved_up k) d.placed })
kept_ended size d k quiet h = record {
  asked = λ i new is. let old = mapped k d.placed i new is in rw old.2 (ended_too size d.requests k old.0 quiet (h.asked i old.0 old.1));
  apart = λ i j p q is_p is_q two.
      let a = mapped k d.placed i p is_p in
      let b = mapped k d.placed j q is_q in
      let apart : overlap size a.0.out.call b.0.out.call ≡ false = h.apart i j a.0 b.0 a.1 b.1 two in
      ap (λ (p : Placed). overlap size p.out.call q.out.call) a.2 ∙ ap (λ (q : Placed). overlap size a.0.out.call q.out.call) b.2 ∙ apart;
}

kept_lost : (size : ℕ) (d : Desk) (i : ℕ) → IsKept size d → IsKept size (record d { placed = remove d.placed i })
kept_lost size d i h = record {
  asked = λ m p is. let from = came_from d.placed i m p is in h.asked from.n p from.is;
  apart = λ m n p q is_p is_q two.
      let a = came_from d.placed i m p is_p in
      let b = came_from d.placed i n q is_q in
      h.apart a.n b.n p q a.is b.is (still_two d.placed i m n p q a b two);
}

outs_clear : (size : ℕ) (placed : List Placed) (call : DiskCall) (i : ℕ) (p : Placed) → list_any (λ out. overlap size out.call call) (outs_of placed) ≡ false → slice_get placed i ≡ Some p → overlap size p.out.call call ≡ false
outs_clear size placed call i p clear is =
    none_of (λ (out : Out). overlap size out.call call) (outs_of placed) i p.out clear (slice_get-map (λ (p : Placed). p.out) placed i ∙ ap (option_map (λ (p : Placed). p.out)) is)

kept_handed : (size : ℕ) (d : Desk) (k most number : ℕ) (call : DiskCall) → 1 ≤ most → call_at size most (outs_of d.placed) d.requests k ≡ Some call → IsKept size d
    → IsKept size (record d { placed = d.placed ++ record { out = record { number = number; call = call }; at = k } ∷ [] })
kept_handed size d k most number call any may h =
    let last : Placed = record { out = record { number = number; call = call }; at = k } in
    let clear = (let_out size most (outs_of d.placed) d.requests k call may).clear_of_outs in
    record {
      asked = λ i p is. elim (get_last d.placed last i p is) as (λ _. IsAsked size d.requests p) [
        | inl old ↦ h.asked i p old
        | inr new ↦ rw new.1 (let_out_asked size most number (outs_of d.placed) d.requests k call any may)
      ];
      apart = λ i j p q is_p is_q two. elim (get_last d.placed last i p is_p) as (λ _. overlap size p.out.call q.out.call ≡ false) [
        | inl old_p ↦ elim (get_last d.placed last j q is_q) as (λ _. overlap size p.out.call q.out.call ≡ false) [
          | inl old_q ↦ h.apart i j p q old_p old_q two
          | inr new_q ↦ ap (λ (q : Placed). overlap size p.out.call q.out.call) new_q.1 ∙ outs_clear size d.placed call i p clear old_p
        ]
        | inr new_p ↦ elim (get_last d.placed last j q is_q) as (λ _. overlap size p.out.call q.out.call ≡ false) [
          | inl old_q ↦ ap (λ (p : Placed). overlap size p.out.call q.out.call) new_p.1 ∙ apart_turned size q.out.call call (outs_clear size d.placed call j q clear old_q)
          | inr new_q ↦ absurd (two (new_p.0 ∙ sym new_q.0))
        ]
      ];
    }

-- The requests after the one that was handed a call is answered.
pub requests_after : (base : ℕ) (requests : List Request) (k : ℕ) (r : Request) (answer : Answer) → slice_get requests k ≡ Some r → awaits r answer ≡ true → (answer_step base requests k answer).requests ≡ set requests k (answered r answer)
requests_after base requests k r answer found asked = rw (found, asked) refl

kept_replied : (size base : ℕ) (d : Desk) (i : ℕ) (answer : Answer) (p : Placed) (new : Desk) → 1 ≤ size → slice_get d.placed i ≡ Some p → answers p.out.call answer ≡ true → reply_to base d i answer p (asker d.requests p.out.call) new → IsKept size d
    → IsKept size new
kept_replied size base d i answer p new some is to reply h =
    let own = h.asked i p is in
    let one = asks_one d.requests p.at own.asked own.is in
    let meets : awaits one.0 answer ≡ true = rw one.2 (answers_longer p.out.call own.asked answer own.same_what own.enough to) in
    let reached = rw (asker_is size d.requests p some own) at reply in
    let same : new ≡ record { requests = set d.requests p.at (answered one.0 answer); placed = remove d.placed i } = rw (requests_after base d.requests p.at one.0 answer one.1 meets) at reached in
    let less = kept_lost size d i h in
    rw same (record {
      asked = λ m q is_q.
          let from = came_from d.placed i m q is_q in
          let two = two_askers size d.requests p q some own (h.asked from.n q from.is) (h.apart i from.n p q is from.is (λ e. not_there d.placed i m q from (sym e))) in
          answered_too size d.requests p.at q one.0 answer own.asked some one.1 one.2 two (h.asked from.n q from.is);
      apart = less.apart;
    })

nothing : {A : Type 0} (xs : List A) (i : ℕ) (x : A) → xs ≡ [] → slice_get xs i ≡ Some x → ⊥
nothing [] i x none h = cc
nothing (y ∷ xs) i x none h = cc

-- Every turn keeps it.
pub goes_kept : (size base : ℕ) (d new : Desk) (turn : Turn) → 1 ≤ size → Goes size base d turn new → IsKept size d → IsKept size new
goes_kept size base d new (Take r) some goes h = rw goes (kept_taken size d r h)
goes_kept size base d new (Pass k r) some goes h = rw goes.2 (kept_passed size d k r goes.0 goes.1 h)
goes_kept size base d new (End k) some goes h = rw goes.1 (kept_ended size d k goes.0 h)
goes_kept size base d new (Hand k most number) some goes h = rw goes.3 (kept_handed size d k most number goes.0 goes.1 goes.2 h)
goes_kept size base d new (Reply i answer) some goes h = kept_replied size base d i answer goes.0 new some goes.1 goes.2 goes.3 h
goes_kept size base d new (Lose i) some goes h = rw goes (kept_lost size d i h)
goes_kept size base d new Drop some goes h = rw goes.1 (record { asked = λ i p is. absurd (nothing d.placed i p goes.0 is); apart = h.apart })

pub ran_kept : (size base : ℕ) (d : Desk) (turns : List Turn) (new : Desk) → 1 ≤ size → Ran size base d turns new → IsKept size d → IsKept size new
ran_kept size base d [] new some ran h = rw ran h
ran_kept size base d (turn ∷ turns) new some ran h = ran_kept size base ran.0 turns new some ran.2 (goes_kept size base d ran.0 turn some ran.1 h)

-- It holds while no call is out, and gives what the law says.
pub begun_kept : (size : ℕ) (requests : List Request) → IsKept size (record { requests = requests; placed = [] })
begun_kept size requests = record { asked = λ i p is. absurd (nothing [] i p refl is); apart = λ i j p q is_p is_q two. absurd (nothing [] i p refl is_p) }

pub kept_met : (size : ℕ) (d : Desk) → 1 ≤ size → IsKept size d → AreMet size d
kept_met size d some h = record {
  apart = λ i j p q is_p is_q two.
      let apart = h.apart i j p q is_p is_q two in
      (apart, two_askers size d.requests p q some (h.asked i p is_p) (h.asked j q is_q) apart);
  asker_is = λ i p is. asker_is size d.requests p some (h.asked i p is);
  meets = λ i p answer is to. answer_meets size d.requests p answer (h.asked i p is) to;
}

pub calls_are_met : CallsAreMet
calls_are_met size base requests turns d some ran = kept_met size d some (ran_kept size base (record { requests = requests; placed = [] }) turns d some ran (begun_kept size requests))
