-- Pages handed out one after another.
use Rattle.std.proofs.Common.{◌≡◌, ◌≤◌, ◌<◌, ◌*◌, ◌+◌, ◌++◌, ℕ, zero, suc, Bool, true, false, List, [], ◌∷◌, refl, sym, ap, ◌∙◌, arith, length, drop, get_or, take, inl, inr, append_assoc, add-one}
use Rattle.std.specs.Prelude.{not, slice_index, slice_set, if◌then◌else◌}
use Rattle.std.proofs.lemmas.Bool.{cases_lt}
use Rattle.std.proofs.lemmas.List.{drop-drop, drop_at, drop_more, length-append, length-drop, length-take, length-take-le, places, set_at, take_all, take_more}
use Rattle.std.proofs.lemmas.Grind.{same_number_lists}
use Rattle.guestmem.specs.Memory.{IsMemory, Memory}
use Rattle.guestmem.specs.Page.{page_of}
use Rattle.guestmem.specs.Write.{put_at}
use Rattle.sender.specs.LiveState.{how_many}
use Rattle.c_handle.specs.Mirror.{HasPulled, is_noted}
use Rattle.c_handle.proofs.Mirrored.{page_put, whole_page}

-- The first n pages went out.
pub record ArePulled (m : Memory) (ram now seen seen_now : List ℕ) (count n : ℕ) : Type 0 where
  pub pages : (k : ℕ) → k < n → page_of now k ≡ (if is_noted m seen k then page_of ram k else page_of m.bytes k)
  pub rest : drop (4096 * n) now ≡ drop (4096 * n) ram
  pub noted : seen_now ≡ take n m.versions ++ drop n seen
  pub count_is : count ≡ how_many (λ k. not (is_noted m seen k)) n

pub none_pulled : (m : Memory) (ram seen : List ℕ) → ArePulled m ram ram seen seen 0 0
none_pulled m ram seen = record { pages = λ k below. absurd (omega (arith, below)); rest = refl; noted = refl; count_is = refl }

few_by : (b : Bool) (c n : ℕ) → c ≤ n → c + (if b then 1 else 0) ≤ suc n
few_by true c n few = omega (arith, few)
few_by false c n few = omega (arith, few)

pub few_chosen : (p : ℕ → Bool) (n : ℕ) → how_many p n ≤ n
few_chosen p zero = omega arith
few_chosen p (suc n) = few_by (p n) (how_many p n) n (few_chosen p n)

pub few_pulled : (m : Memory) (ram now seen seen_now : List ℕ) (count n : ℕ) → ArePulled m ram now seen seen_now count n → count ≤ n
few_pulled m ram now seen seen_now count n are = omega (arith, are.count_is, few_chosen (λ k. not (is_noted m seen k)) n)

pub one_at_most : (b : Bool) (n : ℕ) → n ≡ (if b then 0 else 1) → n ≤ 1
one_at_most true n is = omega (arith, is)
one_at_most false n is = omega (arith, is)

entry : (vs seen : List ℕ) (n : ℕ) → n ≤ length vs → get_or (take n vs ++ drop n seen) n 0 ≡ get_or seen n 0
entry vs seen n low = grind (arith, places)

next_entry : (vs seen : List ℕ) (n : ℕ) → n < length vs → n < length seen → slice_set (take n vs ++ drop n seen) n (slice_index vs n) ≡ take (n + 1) vs ++ drop (n + 1) seen
next_entry vs seen n below room =
    let size : length (take n vs) ≡ n = length-take-le n vs (omega (arith, below)) in
    ap (λ (l : List ℕ). slice_set (take n vs ++ l) n (slice_index vs n)) (drop_more seen n 0 room)
    ∙ set_at (take n vs) (get_or seen n 0) (drop (n + 1) seen) (slice_index vs n) n size
    ∙ sym (append_assoc (take n vs) (slice_index vs n ∷ []) (drop (n + 1) seen))
    ∙ ap (λ (l : List ℕ). l ++ drop (n + 1) seen) (sym (take_more vs n 0 below))

abbrev after : Bool → List ℕ → ℕ → List ℕ → List ℕ
after b now n page = if b then now else put_at now (4096 * n) page

part_before : (old rest : List ℕ) (at start count : ℕ) → at ≤ length old → start + count ≤ at → take count (drop start (take at old ++ rest)) ≡ take count (drop start old)
part_before old rest at start count inside below =
    let front : length (take at old) ≡ at = length-take-le at old inside in
    same_number_lists (take count (drop start (take at old ++ rest))) (take count (drop start old)) (simp (length-take, length-drop, length-append) (omega (arith, front, inside, below))) (λ k small. grind (arith, places))

page_before : (old bytes : List ℕ) (n k : ℕ) → 4096 * n ≤ length old → k < n → page_of (put_at old (4096 * n) bytes) k ≡ page_of old k
page_before old bytes n k inside below =
    let at = 4096 * n in
    let split = append_assoc (take at old) bytes (drop (at + length bytes) old) in
    ap (λ (l : List ℕ). page_of l k) split ∙ part_before old (bytes ++ drop (at + length bytes) old) at (4096 * k) 4096 inside (omega (arith, below))

page_kept : (b : Bool) (now page : List ℕ) (n k : ℕ) → 4096 * n ≤ length now → k < n → page_of (after b now n page) k ≡ page_of now k
page_kept true now page n k inside below = refl
page_kept false now page n k inside below = page_before now page n k inside below

page_here : (b : Bool) (m : Memory) (ram now : List ℕ) (n : ℕ) → drop (4096 * n) now ≡ drop (4096 * n) ram → 4096 * n + 4096 ≤ length m.bytes → length m.bytes ≤ length now
    → page_of (after b now n (page_of m.bytes n)) n ≡ (if b then page_of ram n else page_of m.bytes n)
page_here true m ram now n rest inside long = ap (take 4096) rest
page_here false m ram now n rest inside long = page_put now (page_of m.bytes n) n (whole_page m.bytes n inside) (omega (arith, inside, long))

rest_same : (now ram : List ℕ) (n : ℕ) → drop (4096 * n) now ≡ drop (4096 * n) ram → drop (4096 * (n + 1)) now ≡ drop (4096 * (n + 1)) ram
rest_same now ram n same =
    let e : 4096 * (n + 1) ≡ 4096 * n + 4096 = omega arith in
    rw (e, ← drop-drop 4096 (4096 * n) now, ← drop-drop 4096 (4096 * n) ram) (ap (drop 4096) same)

rest_put : (old bytes : List ℕ) (n : ℕ) → length bytes ≡ 4096 → 4096 * n + 4096 ≤ length old → drop (4096 * (n + 1)) (put_at old (4096 * n) bytes) ≡ drop (4096 * (n + 1)) old
rest_put old bytes n size inside =
    let at = 4096 * n in
    let e : at + length bytes ≡ 4096 * (n + 1) = omega (arith, size) in
    let front : length (take at old ++ bytes) ≡ 4096 * (n + 1) = simp (length-append) (omega (arith, size, length-take-le at old (omega (arith, inside)))) in
    drop_at (take at old ++ bytes) (drop (at + length bytes) old) (4096 * (n + 1)) front ∙ ap (λ (i : ℕ). drop i old) e

rest_after : (b : Bool) (m : Memory) (now ram : List ℕ) (n : ℕ) → 4096 * n + 4096 ≤ length m.bytes → length m.bytes ≤ length now → drop (4096 * n) now ≡ drop (4096 * n) ram
    → drop (4096 * (n + 1)) (after b now n (page_of m.bytes n)) ≡ drop (4096 * (n + 1)) ram
rest_after true m now ram n inside long same = rest_same now ram n same
rest_after false m now ram n inside long same = rest_put now (page_of m.bytes n) n (whole_page m.bytes n inside) (omega (arith, inside, long)) ∙ rest_same now ram n same

count_more : (b : Bool) (c : ℕ) → c + (if b then 0 else 1) ≡ c + (if not b then 1 else 0)
count_more true c = refl
count_more false c = refl

how_many_more : (p : ℕ → Bool) (n : ℕ) → how_many p (n + 1) ≡ how_many p n + (if p n then 1 else 0)
how_many_more p n = rw add-one refl

pub pull_more : (m : Memory) (ram now next seen seen_now next_seen : List ℕ) (count more n : ℕ) → IsMemory m → n < length m.versions → length m.bytes ≤ length now → length m.versions ≤ length seen
    → ArePulled m ram now seen seen_now count n → next ≡ (if is_noted m seen_now n then now else put_at now (4096 * n) (page_of m.bytes n))
    → next_seen ≡ slice_set seen_now n (slice_index m.versions n) → more ≡ (if is_noted m seen_now n then 0 else 1) → ArePulled m ram next seen next_seen (count + more) (n + 1)
pull_more m ram now next seen seen_now next_seen count more n sound below long room are next_is seen_is more_is =
    let at : slice_index seen_now n ≡ slice_index seen n = ap (λ (l : List ℕ). slice_index l n) are.noted ∙ entry m.versions seen n (omega (arith, below)) in
    let same : is_noted m seen_now n ≡ is_noted m seen n = rw at refl in
    let b = is_noted m seen n in
    let inside : 4096 * n + 4096 ≤ length m.bytes = omega (arith, below, sound.pages) in
    let is : next ≡ after b now n (page_of m.bytes n) = rw same at next_is in
    record {
      pages = λ k small.
          elim (cases_lt k n) as (λ _. page_of next k ≡ (if is_noted m seen k then page_of ram k else page_of m.bytes k)) [
            | inl before ↦ rw is (page_kept b now (page_of m.bytes n) n k (omega (arith, inside, long)) before ∙ are.pages k before)
            | inr from ↦ (let here : k ≡ n = omega (arith, small, from) in rw (here, is) (page_here b m ram now n are.rest inside long))
          ];
      rest = rw is (rest_after b m now ram n inside long are.rest);
      noted = seen_is ∙ ap (λ (l : List ℕ). slice_set l n (slice_index m.versions n)) are.noted ∙ next_entry m.versions seen n below (omega (arith, below, room));
      count_is = rw (more_is, same, are.count_is) (count_more b (how_many (λ k. not (is_noted m seen k)) n) ∙ sym (how_many_more (λ k. not (is_noted m seen k)) n));
    }

pub all_pulled : (m : Memory) (ram now seen seen_now : List ℕ) (count n : ℕ) → IsMemory m → n ≡ length m.versions → ArePulled m ram now seen seen_now count n → HasPulled m ram now seen seen_now count
all_pulled m ram now seen seen_now count n sound end are =
    let all : 4096 * n ≡ length m.bytes = omega (arith, end, sound.pages) in
    record {
      sound = sound;
      pages = λ k below. are.pages k (omega (arith, below, end));
      rest = rw all at are.rest;
      noted = are.noted ∙ rw (end, take_all (length m.versions) m.versions (omega arith)) refl;
      count_is = rw end at are.count_is;
    }
