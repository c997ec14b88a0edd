-- Steps with work, found in turn.
use Rattle.std.proofs.Common.{◌≡◌, ℕ, zero, suc, ◌+◌, ◌-◌, ◌*◌, ◌/◌, ◌%◌, ◌<◌, ◌≤◌, ◌⊎◌, get_or, inl, inr, min, Bool, true, false, cond, List, [], ◌∷◌, length, map, Option, Some, None, refl, sym, ap, ◌∙◌, arith}
use Rattle.std.specs.Prelude.{◌||◌, ◌&&◌, IfSome, slice_get, slice_index_or}
use Rattle.std.specs.List.{find, range_with_len}
use Rattle.std.specs.Option.{is_some, option_map, option_or}
use Rattle.std.proofs.lemmas.List.Folds.{find-append}
use Rattle.std.proofs.lemmas.Option.{get_or_from_slice_get, slice_get-get_or, slice_get_within}
use Rattle.mmio.specs.State.{first_queue}
use Rattle.chains.specs.State.{RingState, state_of}
use Rattle.mmio.specs.declared.queue.Queue.{Queue}
use Rattle.machine.specs.DeviceStep.{advanced_at, advances, can_advance, looked_at, looks, requests_of}
use Rattle.machine.specs.NextWork.{HaveNoWork, NoneCanWork, can_work_at, can_work_with, device_can_work, device_has_work, has_work_at, has_work_with, in_turn_after, next_from, next_work, next_work_with_lost, number_of, picks_from, steps_between, work_of}
use Rattle.machine.specs.Shapes.{made_as, queues_of}
use Rattle.machine.specs.Seen.{DeviceSeen}
use Rattle.machine.specs.Sound.{AreSoundDevices, IsSoundDevice}
use Rattle.machine.specs.State.{DeviceState}
use Rattle.machine.specs.declared.shape.Shape.{Shape}
use Rattle.machine.specs.declared.shape.Shape.TheVariants as shapes
use Rattle.machine.specs.declared.work.Work.{Work}
use Rattle.machine.proofs.Rings.{positions_long}
use Rattle.machine.proofs.At.{IsAt, found, own_base}
use Rattle.machine.proofs.Looking.{none_past}
use Rattle.machine.proofs.Numbering.{is_past}
use Rattle.machine.proofs.Stepping.{no_positions, none_advanced}

lt_or_le : (m n : ℕ) → (m < n) ⊎ (n ≤ m)
lt_or_le m zero = inr (omega arith)
lt_or_le zero (suc n) = inl (omega arith)
lt_or_le (suc m) (suc n) = elim (lt_or_le m n) as (λ _. (suc m < suc n) ⊎ (suc n ≤ suc m)) [ inl h ↦ inl (omega arith) | inr h ↦ inr (omega arith) ]

-- The first of some numbers in a row.
pub none_found : (p : ℕ → Bool) (a n : ℕ) → ((k : ℕ) → a ≤ k → k < a + n → p k ≡ false) → find p (range_with_len a n) ≡ None
none_found p a zero h = refl
none_found p a (suc n) h = rw (h a (omega arith) (omega arith)) (none_found p (a + 1) n (λ k above below. h k (omega (arith, above)) (omega (arith, below))))

pub one_found : (p : ℕ → Bool) (a n k : ℕ) → a ≤ k → k < a + n → ((j : ℕ) → a ≤ j → j < k → p j ≡ false) → p k ≡ true → find p (range_with_len a n) ≡ Some k
one_found p a zero k above below before is = absurd (omega (arith, above, below))
one_found p a (suc n) k above below before is = elim (lt_or_le a k) as (λ _. cond (p a) (Some a) (find p (range_with_len (a + 1) n)) ≡ Some k) [
  | inl later ↦ rw (before a (omega arith) later) (one_found p (a + 1) n k (omega (arith, later)) (omega (arith, below)) (λ j from. before j (omega (arith, from))) is)
  | inr here ↦ let same : a ≡ k = omega (arith, above, here) in rw (same, is) refl
]

-- What is found first in two parts.
or_first : (t : Bool) (w : Work) (x y z : Option Work) → x ≡ option_or y z → cond t (Some w) x ≡ option_or (cond t (Some w) y) z
or_first true w x y z h = refl
or_first false w x y z h = h

in_two : (p : Work → Bool) (a b m n c : ℕ) → a + m ≡ b → m + n ≡ c → find p (map work_of (range_with_len a c)) ≡ option_or (find p (map work_of (range_with_len a m))) (find p (map work_of (range_with_len b n)))
in_two p a b zero n c start sum =
    let same : a ≡ b = omega (arith, start) in
    let all : c ≡ n = omega (arith, sum) in
    rw (same, all) refl
in_two p a b (suc m) n zero start sum = absurd (omega (arith, sum))
in_two p a b (suc m) n (suc c) start sum =
    or_first (p (work_of a)) (work_of a) (find p (map work_of (range_with_len (a + 1) c))) (find p (map work_of (range_with_len (a + 1) m))) (find p (map work_of (range_with_len b n))) (in_two p (a + 1) b m n c (omega (arith, start)) (omega (arith, sum)))

pub found_in_two : (p : Work → Bool) (a b c : ℕ) → a ≤ b → b ≤ c → find p (steps_between a c) ≡ option_or (find p (steps_between a b)) (find p (steps_between b c))
unfolding steps_between
found_in_two p a b c low high = in_two p a b (b - a) (c - b) (c - a) (omega (arith, low)) (omega (arith, low, high))

pub none_between : (p : Work → Bool) (a b : ℕ) → b ≤ a → find p (steps_between a b) ≡ None
unfolding steps_between
none_between p a b h = let none : b - a ≡ 0 = omega (arith, h) in rw none refl

-- The steps of one device.
pick_first : (t : Bool) (w : Work) (a : ℕ) (f : ℕ → Work) (x : Option Work) (y : Option ℕ) → w ≡ f a → x ≡ option_map f y → cond t (Some w) x ≡ option_map f (cond t (Some a) y)
pick_first true w a f x y h k = ap Some h
pick_first false w a f x y h k = k

device_steps : (devices : List DeviceState) (lost : List Bool) (dev : ℕ) (d : DeviceState) (a b n : ℕ) → slice_get devices dev ≡ Some d → 256 * dev + a ≡ b → a + n ≤ 256
    → find (can_work_at lost devices) (map work_of (range_with_len b n)) ≡ option_map (λ pick. record { dev = dev; pick = pick }) (find (can_work_with (slice_index_or lost dev false) d) (range_with_len a n))
device_steps devices lost dev d a b zero there start few = refl
device_steps devices lost dev d a b (suc n) there start few =
    let of : b / 256 ≡ dev = omega (arith, start, few) in
    let pick : b % 256 ≡ a = omega (arith, start, few) in
    rw (of, pick, there)
    (pick_first (can_work_with (slice_index_or lost dev false) d a) (record { dev = dev; pick = a }) a (λ (k : ℕ). record { dev = dev; pick = k }) _ _ refl (device_steps devices lost dev d (a + 1) (b + 1) n there (omega (arith, start)) (omega (arith, few))))

pub found_in_device : (devices : List DeviceState) (lost : List Bool) (dev a : ℕ) (d : DeviceState) → slice_get devices dev ≡ Some d → a ≤ 256
    → find (can_work_at lost devices) (steps_between (256 * dev + a) (256 * (dev + 1))) ≡ option_map (λ pick. record { dev = dev; pick = pick }) (find (can_work_with (slice_index_or lost dev false) d) (picks_from a))
unfolding steps_between picks_from
found_in_device devices lost dev a d there few =
    let many : 256 * (dev + 1) - (256 * dev + a) ≡ 256 - a = omega arith in
    rw many (device_steps devices lost dev d a (256 * dev + a) (256 - a) there refl (omega (arith, few)))

-- What is found has work.
has_head : (p : Work → Bool) (w : Work) (rest : Option Work) (t : Bool) → p w ≡ t → IfSome rest (λ v. p v ≡ true) → IfSome (cond t (Some w) rest) (λ v. p v ≡ true)
has_head p w rest true h k = h
has_head p w rest false h k = k

pub found_has : (p : Work → Bool) (ws : List Work) → IfSome (find p ws) (λ w. p w ≡ true)
found_has p [] = tt
found_has p (w ∷ ws) = has_head p w (find p ws) (p w) refl (found_has p ws)

-- Where none is found, none has work.
left_none : (x y : Option Work) → option_or x y ≡ None → x ≡ None
left_none None y h = refl
left_none (Some w) y h = cc

right_none : (x y : Option Work) → option_or x y ≡ None → y ≡ None
right_none None y h = h
right_none (Some w) y h = cc

test_false : (t : Bool) (w : Work) → cond t (Some w) None ≡ None → t ≡ false
test_false true w h = cc
test_false false w h = refl

alone : (p : Work → Bool) (k : ℕ) → find p (steps_between k (k + 1)) ≡ None → p (work_of k) ≡ false
unfolding steps_between
alone p k h =
    let one : k + 1 - k ≡ 1 = omega arith in
    test_false (p (work_of k)) (work_of k) (rw one at h)

none_inside : (p : Work → Bool) (a b k : ℕ) → find p (steps_between a b) ≡ None → a ≤ k → k < b → p (work_of k) ≡ false
none_inside p a b k none above below =
    let upper = right_none (find p (steps_between a k)) (find p (steps_between k b)) (sym (found_in_two p a k b above (omega (arith, below))) ∙ none) in
    alone p k (left_none (find p (steps_between k (k + 1))) (find p (steps_between (k + 1) b)) (sym (found_in_two p k (k + 1) b (omega arith) (omega (arith, below))) ∙ upper))

or_false : (x y : Option RingState) → (is_some x || is_some y) ≡ false → (x ≡ None) × (y ≡ None)
or_false None None h = (refl, refl)
or_false None (Some q) h = cc
or_false (Some q) y h = cc

none_at : (p : Work → Bool) (count : ℕ) (last : Work) → find p (in_turn_after last count) ≡ None → (dev pick : ℕ) → dev < count → pick < 256 → p (record { dev = dev; pick = pick }) ≡ false
none_at p count last none dev pick within below =
    let first = number_of last + 1 in
    let end = 256 * count in
    let k = 256 * dev + pick in
    let parts = sym (find-append p (steps_between first end) (steps_between 0 (min first end))) ∙ none in
    let of : k / 256 ≡ dev = omega (arith, below) in
    let rest : k % 256 ≡ pick = omega (arith, below) in
    let here : p (work_of k) ≡ false = elim (lt_or_le k first) as (λ _. p (work_of k) ≡ false) [
      | inl before ↦ none_inside p 0 (min first end) k (right_none (find p (steps_between first end)) (find p (steps_between 0 (min first end))) parts) (omega arith) (omega (arith, before, within, below))
      | inr after ↦ none_inside p first end k (left_none (find p (steps_between first end)) (find p (steps_between 0 (min first end))) parts) after (omega (arith, within, below))
    ] in
    rw (of, rest) at here

pub none_has : (devices : List DeviceState) (last : Work) → next_work devices last ≡ None → HaveNoWork devices
none_has devices last none dev pick d there below =
    let here : has_work_at devices (record { dev = dev; pick = pick }) ≡ false = none_at (has_work_at devices) (length devices) last none dev pick (slice_get_within devices dev d there) below in
    or_false (looked_at d pick) (advanced_at d pick) (rw there at here)

pub none_can : (devices : List DeviceState) (lost : List Bool) (last : Work) → next_work_with_lost devices lost last ≡ None → NoneCanWork lost devices
none_can devices lost last none dev pick within below = none_at (can_work_at lost devices) (length devices) last none dev pick within below

-- Where no disk is lost each step may be made.
found_alike : (p q : Work → Bool) → ((w : Work) → p w ≡ q w) → (ws : List Work) → find p ws ≡ find q ws
found_alike p q same [] = refl
found_alike p q same (w ∷ ws) = rw (same w, found_alike p q same ws) refl

can_as_has : (d : Option DeviceState) (pick : ℕ) → device_can_work false d pick ≡ device_has_work d pick
can_as_has None pick = refl
can_as_has (Some d) pick = refl

pub none_lost : (devices : List DeviceState) (last : Work) → next_work_with_lost devices [] last ≡ next_work devices last
none_lost devices last = found_alike (can_work_at [] devices) (has_work_at devices) (λ w. can_as_has (slice_get devices w.dev) w.pick) (in_turn_after last (length devices))

-- The order of the search, by the step with which it begins.
or_none : (x : Option Work) → option_or x None ≡ x
or_none None = refl
or_none (Some w) = refl

pub from_first : (p : Work → Bool) (last : Work) (count first : ℕ) → number_of last + 1 < 256 * count → first ≡ number_of last + 1 → find p (in_turn_after last count) ≡ next_from p count first
from_first p last count first below is =
    let low : min (number_of last + 1) (256 * count) ≡ number_of last + 1 = omega (arith, below) in
    rw (low, is) refl

pub from_start : (p : Work → Bool) (last : Work) (count : ℕ) → 256 * count ≤ number_of last + 1 → find p (in_turn_after last count) ≡ next_from p count 0
from_start p last count past =
    let all = 256 * count in
    let first = number_of last + 1 in
    let high : min first all ≡ all = omega (arith, past) in
    rw (high, find-append p (steps_between first all) (steps_between 0 all), find-append p (steps_between 0 all) (steps_between 0 0), none_between p first all past, none_between p 0 0 (omega arith), or_none (find p (steps_between 0 all))) refl

-- Where the search is at a turn, of which it is to look at the picks from `from` on: nothing was found in the devices from the first
-- on, nor, once around, in those before it.
pub record IsSearched (p : Work → Bool) (count first pick turn from : ℕ) : Type 0 where
  pub few : from ≤ 256
  pub begun : 256 * first + pick ≤ 256 * turn + from
  pub whole : first < turn → from ≡ 0
  pub later : find p (steps_between (256 * first + pick) (min (256 * turn + from) (256 * count))) ≡ None
  pub around : find p (steps_between 0 (256 * (turn - count))) ≡ None

pub not_searched : (p : Work → Bool) (count first pick : ℕ) → first ≤ count → pick ≤ 256 → IsSearched p count first pick first pick
not_searched p count first pick inside small =
    let none : first - count ≡ 0 = omega (arith, inside) in
    record {
      few = small;
      begun = omega arith;
      whole = λ h. absurd (omega (arith, h));
      later = none_between p (256 * first + pick) (min (256 * first + pick) (256 * count)) (omega arith);
      around = rw none (none_between p 0 0 (omega arith));
    }

none_in_both : (p : Work → Bool) (a b c : ℕ) → a ≤ b → b ≤ c → find p (steps_between a b) ≡ None → find p (steps_between b c) ≡ None → find p (steps_between a c) ≡ None
none_in_both p a b c low high x y = rw (found_in_two p a b c low high, x) y

some_in_second : (p : Work → Bool) (a b c : ℕ) (w : Work) → a ≤ b → b ≤ c → find p (steps_between a b) ≡ None → find p (steps_between b c) ≡ Some w → find p (steps_between a c) ≡ Some w
some_in_second p a b c w low high x y = rw (found_in_two p a b c low high, x) y

some_in_first : (p : Work → Bool) (a b c : ℕ) (w : Work) → a ≤ b → b ≤ c → find p (steps_between a b) ≡ Some w → find p (steps_between a c) ≡ Some w
some_in_first p a b c w low high x = rw (found_in_two p a b c low high, x) refl

-- All of the devices from the first on were searched.
all_later : (p : Work → Bool) (count first pick turn from : ℕ) → count ≤ turn → IsSearched p count first pick turn from → find p (steps_between (256 * first + pick) (256 * count)) ≡ None
all_later p count first pick turn from past h = let all : min (256 * turn + from) (256 * count) ≡ 256 * count = omega (arith, past) in rw all at h.later

-- In one turn nothing is found, or something.
pub searched_on : (p : Work → Bool) (count first pick turn from dev : ℕ) → first < count → (turn < count → dev ≡ turn) → (count ≤ turn → dev ≡ turn - count)
    → IsSearched p count first pick turn from → find p (steps_between (256 * dev + from) (256 * (dev + 1))) ≡ None → IsSearched p count first pick (turn + 1) 0
searched_on p count first pick turn from dev inside before around h none = elim (lt_or_le turn count) as (λ _. IsSearched p count first pick (turn + 1) 0) [
  | inl below ↦
      let here : dev ≡ turn = before below in
      let old : min (256 * turn + from) (256 * count) ≡ 256 * turn + from = omega (arith, below, h.few) in
      let new : min (256 * (turn + 1) + 0) (256 * count) ≡ 256 * (turn + 1) = omega (arith, below) in
      let zero : turn + 1 - count ≡ 0 = omega (arith, below) in
      record {
        few = omega arith;
        begun = omega (arith, h.begun, h.few);
        whole = λ _. refl;
        later = rw new (none_in_both p (256 * first + pick) (256 * turn + from) (256 * (turn + 1)) h.begun (omega (arith, h.few)) (rw old at h.later) (rw here at none));
        around = rw zero (none_between p 0 0 (omega arith));
      }
  | inr past ↦
      let here : dev ≡ turn - count = around past in
      let all : from ≡ 0 = h.whole (omega (arith, inside, past)) in
      let begin : 256 * dev + from ≡ 256 * (turn - count) = omega (arith, here, all) in
      let end : 256 * (dev + 1) ≡ 256 * (turn + 1 - count) = omega (arith, here, past) in
      let new : min (256 * (turn + 1) + 0) (256 * count) ≡ 256 * count = omega (arith, past) in
      record {
        few = omega arith;
        begun = omega (arith, h.begun, all);
        whole = λ _. refl;
        later = rw new (all_later p count first pick turn from past h);
        around = none_in_both p 0 (256 * (turn - count)) (256 * (turn + 1 - count)) (omega arith) (omega (arith, past)) h.around (rw (begin, end) at none);
      }
]

found_by : (p : Work → Bool) (count first : ℕ) (x y : Option Work) → find p (steps_between first (256 * count)) ≡ x → find p (steps_between 0 first) ≡ y → next_from p count first ≡ option_or x y
found_by p count first x y later before = find-append p (steps_between first (256 * count)) (steps_between 0 first) ∙ rw (later, before) refl

-- What is found once around lies before the step with which the search began.
before_first : (p : Work → Bool) (all first end : ℕ) (w : Work) → first ≤ all → end ≤ all → find p (steps_between first all) ≡ None → find p (steps_between 0 end) ≡ Some w → (end ≤ first) ⊎ (first ≤ end) → find p (steps_between 0 first) ≡ Some w
before_first p all first end w low high none some (inl inside) = some_in_first p 0 end first w (omega arith) inside some
before_first p all first end w low high none some (inr past) =
    let here : find p (steps_between first end) ≡ None = left_none (find p (steps_between first end)) (find p (steps_between end all)) (sym (found_in_two p first end all past high) ∙ none) in
    let both : find p (steps_between 0 end) ≡ option_or (find p (steps_between 0 first)) (find p (steps_between first end)) = found_in_two p 0 first end (omega arith) past in
    let same : find p (steps_between 0 end) ≡ option_or (find p (steps_between 0 first)) None = rw here at both in
    sym (same ∙ or_none (find p (steps_between 0 first))) ∙ some

le_or_le : (m n : ℕ) → (m ≤ n) ⊎ (n ≤ m)
le_or_le m n = elim (lt_or_le m n) as (λ _. (m ≤ n) ⊎ (n ≤ m)) [ inl h ↦ inl (omega (arith, h)) | inr h ↦ inr h ]

pub found_in_turn : (p : Work → Bool) (count first pick turn from dev : ℕ) (w : Work) → first < count → pick < 256 → turn < first + count + 1 → (turn < count → dev ≡ turn) → (count ≤ turn → dev ≡ turn - count)
    → IsSearched p count first pick turn from → find p (steps_between (256 * dev + from) (256 * (dev + 1))) ≡ Some w → next_from p count (256 * first + pick) ≡ Some w
found_in_turn p count first pick turn from dev w inside small last before around h some =
    let begin = 256 * first + pick in
    elim (lt_or_le turn count) as (λ _. next_from p count begin ≡ Some w) [
      | inl below ↦
          let here : dev ≡ turn = before below in
          let old : min (256 * turn + from) (256 * count) ≡ 256 * turn + from = omega (arith, below, h.few) in
          let there : find p (steps_between begin (256 * (turn + 1))) ≡ Some w = some_in_second p begin (256 * turn + from) (256 * (turn + 1)) w h.begun (omega (arith, h.few)) (rw old at h.later) (rw here at some) in
          found_by p count begin (Some w) (find p (steps_between 0 begin)) (some_in_first p begin (256 * (turn + 1)) (256 * count) w (omega (arith, h.begun, h.few)) (omega (arith, below)) there) refl
      | inr past ↦
          let here : dev ≡ turn - count = around past in
          let all : from ≡ 0 = h.whole (omega (arith, inside, past)) in
          let start : 256 * dev + from ≡ 256 * (turn - count) = omega (arith, here, all) in
          let end : 256 * (dev + 1) ≡ 256 * (turn + 1 - count) = omega (arith, here, past) in
          let later = all_later p count first pick turn from past h in
          let there : find p (steps_between 0 (256 * (turn + 1 - count))) ≡ Some w = some_in_second p 0 (256 * (turn - count)) (256 * (turn + 1 - count)) w (omega arith) (omega (arith, past)) h.around (rw (start, end) at some) in
          found_by p count begin None (Some w) later (before_first p (256 * count) begin (256 * (turn + 1 - count)) w (omega (arith, inside, small)) (omega (arith, last, inside, past)) later there (le_or_le (256 * (turn + 1 - count)) begin))
    ]

pub none_in_turns : (p : Work → Bool) (count first pick turn from : ℕ) → first < count → pick < 256 → first + count + 1 ≤ turn → IsSearched p count first pick turn from → next_from p count (256 * first + pick) ≡ None
none_in_turns p count first pick turn from inside small past h =
    let begin = 256 * first + pick in
    let before : find p (steps_between 0 begin) ≡ None =
    left_none (find p (steps_between 0 begin)) (find p (steps_between begin (256 * (turn - count)))) (sym (found_in_two p 0 begin (256 * (turn - count)) (omega arith) (omega (arith, small, past))) ∙ h.around) in
    found_by p count begin None None (all_later p count first pick turn from (omega (arith, past)) h) before

-- What is found in the picks of a device.
pub none_of_device : (devices : List DeviceState) (lost : List Bool) (dev from : ℕ) (d : DeviceState) (found : Option ℕ) → slice_get devices dev ≡ Some d → from ≤ 256 → found ≡ find (can_work_with (slice_index_or lost dev false) d) (picks_from from) → found ≡ None
    → find (can_work_at lost devices) (steps_between (256 * dev + from) (256 * (dev + 1))) ≡ None
none_of_device devices lost dev from d found there few is none = found_in_device devices lost dev from d there few ∙ rw (← is, none) refl

pub some_of_device : (devices : List DeviceState) (lost : List Bool) (dev from pick : ℕ) (d : DeviceState) (found : Option ℕ) → slice_get devices dev ≡ Some d → from ≤ 256 → found ≡ find (can_work_with (slice_index_or lost dev false) d) (picks_from from) → found ≡ Some pick
    → find (can_work_at lost devices) (steps_between (256 * dev + from) (256 * (dev + 1))) ≡ Some (record { dev = dev; pick = pick })
some_of_device devices lost dev from pick d found there few is some = found_in_device devices lost dev from d there few ∙ rw (← is, some) refl

-- One device: its queues and its outstanding requests.
some_queues : (shape : Shape) → 0 < queues_of shape
some_queues (shapes.Net mac) = omega arith
some_queues (shapes.LongNet mac longest) = omega arith
some_queues (shapes.Block sectors read_only id) = omega arith
some_queues (shapes.Outside sectors read_only id) = omega arith
some_queues shapes.Console = omega arith
some_queues shapes.Entropy = omega arith

some_if : {A : Type 0} (b : Bool) (x : A) → is_some (cond b (Some x) None) ≡ b
some_if true x = refl
some_if false x = refl

pub looks_some : {base : ℕ} (len : ℕ) (d : DeviceState) (pick : ℕ) (qs : List Queue) → IsSoundDevice base len d → qs ≡ d.registers.queues → pick < length qs → looks d pick (get_or qs pick first_queue) ≡ is_some (looked_at d pick)
looks_some len d pick qs sound same below =
    let there : pick < length d.registers.queues = omega (arith, below, ap length same) in
    let long : length d.positions ≡ length d.registers.queues = positions_long _ d.registers.queues d.positions sound.positions in
    let queue = get_or d.registers.queues pick first_queue in
    let placed = get_or d.positions pick no_positions in
    rw (same, slice_get-get_or d.registers.queues pick first_queue there, slice_get-get_or d.positions pick no_positions (omega (arith, there, long)))
    (sym (some_if (looks d pick queue) (state_of queue d.registers.common.features d.registers.ram_base placed)))

pub advances_some : {base : ℕ} (len : ℕ) (d : DeviceState) (pick : ℕ) → IsSoundDevice base len d → is_some (advanced_at d pick) ≡ advances d pick
advances_some len d pick sound =
    let queues : 0 < length d.registers.queues = omega (arith, some_queues (made_as d.kind), sound.queues) in
    let long : length d.positions ≡ length d.registers.queues = positions_long _ d.registers.queues d.positions sound.positions in
    rw (slice_get-get_or d.registers.queues 0 first_queue queues, slice_get-get_or d.positions 0 no_positions (omega (arith, queues, long)))
    (some_if (advances d pick) (state_of (get_or d.registers.queues 0 first_queue) d.registers.common.features d.registers.ram_base (get_or d.positions 0 no_positions)))

pub second_of_or : (x y r : Bool) → x ≡ false → r ≡ y → r ≡ (x || y)
second_of_or true y r none is = cc
second_of_or false y r none is = is

pub none_beside : (b x : Bool) → x ≡ false → (b && x) ≡ false
none_beside true x none = none
none_beside false x none = refl

pub one_more : (p : ℕ → Bool) (from pick : ℕ) → ((k : ℕ) → from ≤ k → k < pick → p k ≡ false) → p pick ≡ false → (k : ℕ) → from ≤ k → k < pick + 1 → p k ≡ false
one_more p from pick before here k above below = elim (lt_or_le k pick) as (λ _. p k ≡ false) [
  | inl lower ↦ before k above lower
  | inr upper ↦ let same : k ≡ pick = omega (arith, upper, below) in rw same here
]

pub beyond : (p : ℕ → Bool) (from pick end : ℕ) → end ≤ pick → ((k : ℕ) → from ≤ k → k < pick → p k ≡ false) → ((k : ℕ) → end ≤ k → p k ≡ false) → (k : ℕ) → from ≤ k → k < from + (256 - from) → p k ≡ false
beyond p from pick end reached before after k above below = elim (lt_or_le k pick) as (λ _. p k ≡ false) [ inl lower ↦ before k above lower | inr upper ↦ after k (omega (arith, reached, upper)) ]

-- A pick that names no queue and no outstanding request.
pub no_work_past : (d : DeviceState) (pick : ℕ) → length d.registers.queues ≤ pick → length (requests_of d.kind) < pick → has_work_with d pick ≡ false
no_work_past d pick queues requests =
    let can : can_advance d.kind (pick - 1) ≡ false = rw (is_past (pick - 1) (length (requests_of d.kind)) (omega (arith, requests))) refl in
    rw (none_past d pick queues, none_advanced d pick (none_beside _ (can_advance d.kind (pick - 1)) can)) refl

-- A device of a machine, by its number.
pub own_sound : (ds : List DeviceSeen) (dev : ℕ) (d : DeviceSeen) → IsAt ds dev d → (sound : AreSoundDevices (map (λ (x : DeviceSeen). x.state) ds)) → IsSoundDevice d.state.registers.ram_base sound.0 d.state
own_sound ds dev d at sound =
    let states = map (λ (x : DeviceSeen). x.state) ds in
    let there : slice_get states dev ≡ Some d.state = found ds dev d at in
    own_base sound.0 d.state (rw (get_or_from_slice_get states dev d.state d.state there) at (sound.1 dev d.state (slice_get_within states dev d.state there)))
