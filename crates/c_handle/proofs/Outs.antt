-- The calls that are out, of as many devices as a machine can have.
use Rattle.std.proofs.Common.{◌≡◌, ◌+◌, ◌*◌, ◌<◌, ◌≤◌, ◌^◌, ◌&&◌, ◌∙◌, ℕ, zero, suc, not, nat_lt, Bool, true, false, List, [], ◌∷◌, ◌++◌, get_or, length, length-set, replicate, set, slice_get, take, All, Option, Some, None, refl, sym, ap, arith, inl, inr, remove, if◌then◌else◌}
use Rattle.std.specs.List.{list_any}
use Rattle.std.proofs.lemmas.Bool.{cases_lt}
use Rattle.std.proofs.lemmas.Bool.Decides.{nat_tests}
use Rattle.std.proofs.lemmas.Option.{get_or_from_slice_get, slice_get_past, slice_get_within}
use Rattle.blk.specs.Outside.{disk_call_at}
use Rattle.blk.specs.declared.outside.DiskCall.{DiskCall}
use Rattle.blk.specs.declared.request.Request.{Request}
use Rattle.disk_calls.specs.Calls.{AllCalls, CallsState, IsAt, IsHandedOut, IsNext, call_of, call_of_device, with_out, without}
use Rattle.disk_calls.specs.Handing.{asker, cut, handed_out, may_hand_out}
use Rattle.disk_calls.specs.Overlap.{overlap}
use Rattle.disk_calls.specs.Parts.{MayGoInPart}
use Rattle.disk_calls.specs.declared.calls.Handed.{Handed}
use Rattle.disk_calls.specs.declared.out.Out.{Out}
use Rattle.c_handle.specs.CallsOut.{count_out, of_each, outs_in}

-- A machine that is seen with so many devices.
pub length-each : (n : ℕ) (asked : List (List Request)) → length (of_each n asked) ≡ n
length-each zero asked = refl
length-each (suc n) [] = ap suc (length-each n [])
length-each (suc n) (requests ∷ asked) = ap suc (length-each n asked)

none_at : (dev : ℕ) → get_or {A = List Request} [] dev [] ≡ []
none_at zero = refl
none_at (suc dev) = refl

pub each_at : (n : ℕ) (asked : List (List Request)) (dev : ℕ) → dev < n → get_or (of_each n asked) dev [] ≡ get_or asked dev []
each_at zero asked dev below = absurd (omega (arith, below))
each_at (suc n) [] zero below = refl
each_at (suc n) [] (suc dev) below = each_at n [] dev (omega (arith, below)) ∙ none_at dev
each_at (suc n) (requests ∷ asked) zero below = refl
each_at (suc n) (requests ∷ asked) (suc dev) below = each_at n asked dev (omega (arith, below))

past_end : (asked : List (List Request)) (dev : ℕ) → length asked ≤ dev → get_or asked dev [] ≡ []
past_end [] dev past = none_at dev
past_end (requests ∷ asked) zero past = absurd (omega (arith, past))
past_end (requests ∷ asked) (suc dev) past = past_end asked dev (omega (arith, past))

-- What `Whole` gives.
pub each_past : (n : ℕ) (asked : List (List Request)) (dev : ℕ) → dev < n → length asked ≤ dev → [] ≡ get_or (of_each n asked) dev []
each_past n asked dev below past = sym (each_at n asked dev below ∙ past_end asked dev past)

pub each_there : (n : ℕ) (asked : List (List Request)) (dev : ℕ) (requests : List Request) → dev < n → requests ≡ get_or asked dev [] → requests ≡ get_or (of_each n asked) dev []
each_there n asked dev requests below is = is ∙ sym (each_at n asked dev below)

-- The calls are those of the machine.
call_same : (n most : ℕ) (calls : AllCalls) (asked : List (List Request)) (dev k : ℕ) → length calls.devices ≡ n → call_of_device most calls (of_each n asked) dev k ≡ call_of_device most calls asked dev k
call_same n most calls asked dev k long =
    elim (cases_lt dev n) as (λ _. call_of_device most calls (of_each n asked) dev k ≡ call_of_device most calls asked dev k) [
      | inl below ↦ ap (λ (requests : List Request). call_of most (slice_get calls.devices dev) requests k) (each_at n asked dev below)
      | inr past ↦
          let none : slice_get calls.devices dev ≡ None = slice_get_past calls.devices dev (omega (arith, past, long)) in
          rw none refl
    ]

pub next_same : (n most : ℕ) (calls : AllCalls) (asked : List (List Request)) (dev k : ℕ) (call : DiskCall) → length calls.devices ≡ n → IsNext most calls (of_each n asked) dev k call → IsNext most calls asked dev k call
next_same n most calls asked dev k call long next = record {
  may = sym (call_same n most calls asked dev k long) ∙ next.may;
  first = λ j less. sym (call_same n most calls asked dev j long) ∙ next.first j less;
  steps = next.steps;
  few = next.few;
  there = next.there;
  before = λ i j less. sym (call_same n most calls asked _ j long) ∙ next.before i j less;
}

pub part_same : (n most : ℕ) (calls : AllCalls) (asked : List (List Request)) (dev k : ℕ) → length calls.devices ≡ n → MayGoInPart most calls (of_each n asked) dev k → MayGoInPart most calls asked dev k
part_same n most calls asked dev k long may fewer some few = let part = may fewer some few in (part.0, sym (call_same n fewer calls asked dev k long) ∙ part.1)

pub handed_same : (n most : ℕ) (old new : AllCalls) (asked : List (List Request)) (h : Handed) → length old.devices ≡ n → IsHandedOut most old (of_each n asked) h new → IsHandedOut most old asked h new
handed_same n most old new asked h long o = record {
  next = next_same n most old asked h.dev h.k h.call long o.next;
  number = o.number;
  device = o.device;
  was = o.was;
  after = o.after;
}

pub none_same : (n most : ℕ) (calls : AllCalls) (asked : List (List Request)) (dev j : ℕ) → length calls.devices ≡ n → call_of_device most calls (of_each n asked) dev j ≡ None → call_of_device most calls asked dev j ≡ None
none_same n most calls asked dev j long none = sym (call_same n most calls asked dev j long) ∙ none

pub asker_same : (n : ℕ) (asked : List (List Request)) (dev : ℕ) (call : DiskCall) (found : Option ℕ) → dev < n → found ≡ asker (get_or (of_each n asked) dev []) call → found ≡ asker (get_or asked dev []) call
asker_same n asked dev call found below is = is ∙ ap (λ (requests : List Request). asker requests call) (each_at n asked dev below)

-- How many are out.
outs_set : (ds : List CallsState) (i : ℕ) (s t : CallsState) → slice_get ds i ≡ Some s → outs_in (set ds i t) + length s.outs ≡ outs_in ds + length t.outs
outs_set [] i s t there = cc
outs_set (x ∷ ds) zero s t there = let same : x ≡ s = cc in let size : length x.outs ≡ length s.outs = ap (λ (c : CallsState). length c.outs) same in omega (arith, size)
outs_set (x ∷ ds) (suc i) s t there = let more = outs_set ds i s t there in omega (arith, more)

outs_there : (ds : List CallsState) (i : ℕ) (s : CallsState) → slice_get ds i ≡ Some s → length s.outs ≤ outs_in ds
outs_there [] i s there = cc
outs_there (x ∷ ds) zero s there = let same : x ≡ s = cc in let size : length x.outs ≡ length s.outs = ap (λ (c : CallsState). length c.outs) same in omega (arith, size)
outs_there (x ∷ ds) (suc i) s there = let more = outs_there ds i s there in omega (arith, more)

abbrev pub AreFew : List CallsState → Type 0
AreFew ds = All (λ (s : CallsState). length s.outs ≤ 8) ds

pub few_out : (ds : List CallsState) → AreFew ds → outs_in ds ≤ 8 * length ds
few_out [] few = omega arith
few_out (x ∷ ds) few =
    let here : length x.outs ≤ 8 = few 0 x (omega arith) in
    let rest : outs_in ds ≤ 8 * length ds = few_out ds (λ k d below. few (suc k) d (omega (arith, below))) in
    omega (arith, here, rest)

few_set : (ds : List CallsState) (i : ℕ) (t : CallsState) → AreFew ds → length t.outs ≤ 8 → AreFew (set ds i t)
few_set [] i t few one k d below = absurd (omega (arith, below))
few_set (x ∷ ds) zero t few one zero d below = one
few_set (x ∷ ds) zero t few one (suc k) d below = few (suc k) d below
few_set (x ∷ ds) (suc i) t few one zero d below = few 0 d (omega arith)
few_set (x ∷ ds) (suc i) t few one (suc k) d below = few_set ds i t (λ j e less. few (suc j) e (omega (arith, less))) one k d (omega (arith, below))

-- One more is handed out: fewer than 8 of its device were.
both : (a b : Bool) → (a && b) ≡ true → a ≡ true
both true b is = refl
both false b is = cc

less : (a b : ℕ) → nat_lt a b ≡ true → a < b
less a b is = grind (arith, nat_tests)

few_if : (may : Bool) (call other : DiskCall) → (if may then Some call else None) ≡ Some other → may ≡ true
few_if true call other is = refl
few_if false call other is = cc

few_by : (size most : ℕ) (outs : List Out) (earlier : List Request) (asked : Option DiskCall) (call : DiskCall) → handed_out size most outs earlier asked ≡ Some call → length outs < 8
few_by size most outs earlier None call is = cc
few_by size most outs earlier (Some asked) call is =
    let may : may_hand_out size outs earlier (cut most asked) ≡ true = few_if (may_hand_out size outs earlier (cut most asked)) (cut most asked) call is in
    less (length outs) 8 (both (nat_lt (length outs) 8) _ (both (nat_lt (length outs) 8 && not (list_any (λ (o : Out). overlap size o.call (cut most asked)) outs)) _ may))

few_of : (most : ℕ) (s : CallsState) (found : Option CallsState) (requests : List Request) (k : ℕ) (call : DiskCall) → found ≡ Some s → call_of most found requests k ≡ Some call → length s.outs < 8
few_of most s None requests k call there is = cc
few_of most s (Some t) requests k call there is =
    let same : t ≡ s = cc in
    let few : length t.outs < 8 = few_by t.size most t.outs (take k requests) (disk_call_at requests k) call is in
    rw same at few

pushed_long : (outs : List Out) (o : Out) → length (outs ++ o ∷ []) ≡ length outs + 1
pushed_long [] o = refl
pushed_long (x ∷ outs) o = let more = pushed_long outs o in omega (arith, more)

pub record IsOneMore (old new : AllCalls) : Type 0 where
  pub size : length new.devices ≡ length old.devices
  pub few : AreFew new.devices
  pub count : count_out new ≡ count_out old + 1

pub one_more : (most : ℕ) (old new : AllCalls) (asked : List (List Request)) (h : Handed) → AreFew old.devices → IsHandedOut most old asked h new → IsOneMore old new
one_more most old new asked h few o =
    let s = o.device in
    let t = with_out s h.number h.call in
    let are : new.devices ≡ set old.devices h.dev t = ap (λ (c : AllCalls). c.devices) o.after in
    let room : length s.outs < 8 = few_of most s (slice_get old.devices h.dev) _ h.k h.call o.was o.next.may in
    let long : length t.outs ≡ length s.outs + 1 = pushed_long s.outs _ in
    let sum = outs_set old.devices h.dev s t o.was in
    record {
      size = ap length are ∙ length-set old.devices h.dev t;
      few = rw (← are) at (few_set old.devices h.dev t few (omega (arith, room, long)));
      count = let one : outs_in (set old.devices h.dev t) ≡ outs_in old.devices + 1 = omega (arith, sum, long) in ap outs_in are ∙ one;
    }

pub handed_below : (most : ℕ) (old new : AllCalls) (asked : List (List Request)) (h : Handed) → IsHandedOut most old asked h new → h.dev < length old.devices
handed_below most old new asked h o = slice_get_within old.devices h.dev o.device o.was

pub more_fit : (old : AllCalls) (n : ℕ) → AreFew old.devices → length old.devices ≡ n → n ≤ 16 → count_out old + 1 < 2 ^ 32
more_fit old n few long most = let all = few_out old.devices few in omega (arith, all, long, most)

-- One fewer, where one is answered.
removed_long : {A : Type 0} (xs : List A) (i : ℕ) (x : A) → slice_get xs i ≡ Some x → length (remove xs i) + 1 ≡ length xs
removed_long [] i x there = cc
removed_long (y ∷ xs) zero x there = omega arith
removed_long (y ∷ xs) (suc i) x there = let more = removed_long xs i x there in omega (arith, more)

pub record IsOneFewer (old new : AllCalls) : Type 0 where
  pub size : length new.devices ≡ length old.devices
  pub few : AreFew new.devices
  pub count : count_out new + 1 ≡ count_out old

pub one_fewer : (old new : AllCalls) (dev i : ℕ) (o : Out) → AreFew old.devices → IsAt old.devices dev i o → new ≡ without old dev i → IsOneFewer old new
one_fewer old new dev i o few at is =
    let s = at.device in
    let t : CallsState = record s { outs = remove s.outs i } in
    let are : new.devices ≡ set old.devices dev t = ap (λ (c : AllCalls). c.devices) is ∙ rw (at.there) refl in
    let long : length t.outs + 1 ≡ length s.outs = removed_long s.outs i o at.is in
    let most : length s.outs ≤ 8 = rw (get_or_from_slice_get old.devices dev s s at.there) at (few dev s (slice_get_within old.devices dev s at.there)) in
    let sum = outs_set old.devices dev s t at.there in
    record {
      size = ap length are ∙ length-set old.devices dev t;
      few = rw (← are) at (few_set old.devices dev t few (omega (arith, long, most)));
      count = let one : outs_in (set old.devices dev t) + 1 ≡ outs_in old.devices = omega (arith, sum, long) in ap (λ (n : ℕ). n + 1) (ap outs_in are) ∙ one;
    }

-- At first.
pub none_few : (n : ℕ) (s : CallsState) → s.outs ≡ [] → AreFew (replicate n s)
none_few zero s none k d below = absurd (omega (arith, below))
none_few (suc n) s none zero d below = let long : length s.outs ≡ 0 = ap length none in omega (arith, long)
none_few (suc n) s none (suc k) d below = none_few n s none k d (omega (arith, below))

pub none_out : (n : ℕ) (s : CallsState) → s.outs ≡ [] → outs_in (replicate n s) ≡ 0
none_out zero s none = refl
none_out (suc n) s none = let long : length s.outs ≡ 0 = ap length none in let rest = none_out n s none in omega (arith, long, rest)
