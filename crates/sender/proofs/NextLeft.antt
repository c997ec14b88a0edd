-- The next item of two sets that are gone over side by side.
use Rattle.std.proofs.Common.{◌≡◌, ◌≢◌, ℕ, ◌+◌, ◌-◌, ◌<◌, ◌≤◌, List, length, set, Bool, true, false, Option, Some, None, min, nat_lt, refl, ap, sym, subst, ◌∙◌, ◌⊎◌, inl, inr, arith}
use Rattle.std.specs.Prelude.{◌||◌, Err}
use Rattle.std.proofs.lemmas.Bool.{true≢false}
use Rattle.std.proofs.lemmas.List.{get_or-set_other}
use Rattle.dirtylog.specs.Members.{IsLeastFrom, has}
use Rattle.machine.specs.Layout.{item_at, layout_of, pages_of}
use Rattle.machine.proofs.Numbering.{either_way}
use Rattle.sender.specs.Calls.{AreCleared, in_either}
use Rattle.sender.specs.LiveState.{HasPlaces, LiveSeen, now}
use Rattle.sender.specs.Reads.{FailedCalls, ReadsBelow, ReadsItem}
use Rattle.sender.specs.Stopping.{SendsItem, SendsOk, lesser, one_more}
use Rattle.sender.specs.declared.event.Item.{Item}
use Rattle.sender.specs.declared.event.Stopped.{Stopped}
use Rattle.sender.specs.declared.mig_error.MigError.{MigError}
use Rattle.sender.proofs.Living.{member_below, still_none}
use Rattle.sender.proofs.ItemReads.{failed_at_item, reads_more, reads_to}
use Rattle.sender.proofs.Stopping.{Along, along_first, along_more, along_to, either_same, lt_or_le}

-- The next item, or the end.
abbrev pub reached : Option ℕ → ℕ → ℕ
reached None end = end
reached (Some n) end = n

neither : (a b : Bool) → a ≡ false → b ≡ false → (a || b) ≡ false
neither a b e f = rw (e, f) refl

first_is : (a b : Bool) → a ≡ true → (a || b) ≡ true
first_is a b e = rw e refl

second_is : (a b : Bool) → b ≡ true → (a || b) ≡ true
second_is a b e = elim a as (λ (x : Bool). (x || b) ≡ true) [ true ↦ refl | false ↦ e ]

-- Items before the next one are in none of the sets.
passed : (s t : List Bool) (a b : Option ℕ) (end k : ℕ) → IsLeastFrom s 0 a → IsLeastFrom t 0 b → k < reached (lesser a b) end → (has s k || has t k) ≡ false
passed s t None None end k h i below = neither _ _ (h k (omega arith)) (i k (omega arith))
passed s t None (Some b) end k h i below = neither _ _ (h k (omega arith)) (i.least k (omega arith) below)
passed s t (Some a) None end k h i below = neither _ _ (h.least k (omega arith) below) (i k (omega arith))
passed s t (Some a) (Some b) end k h i below = neither _ _ (h.least k (omega arith) (omega (arith, below))) (i.least k (omega arith) (omega (arith, below)))

-- The next one is in one of them.
lesser_is : (a b : ℕ) → (min a b ≡ a) ⊎ (min a b ≡ b)
lesser_is a b = elim (lt_or_le a b) as (λ _. (min a b ≡ a) ⊎ (min a b ≡ b)) [ inl h ↦ inl (omega (arith, h)) | inr h ↦ inr (omega (arith, h)) ]

pub next_is : (s t : List Bool) (a b : Option ℕ) (n : ℕ) → IsLeastFrom s 0 a → IsLeastFrom t 0 b → lesser a b ≡ Some n → (has s n || has t n) ≡ true
next_is s t None None n h i is = cc
next_is s t None (Some b) n h i is = let same : b ≡ n = cc in second_is _ _ (rw same at i.member)
next_is s t (Some a) None n h i is = let same : a ≡ n = cc in first_is _ _ (rw same at h.member)
next_is s t (Some a) (Some b) n h i is =
    let same : min a b ≡ n = cc in
    elim (lesser_is a b) as (λ _. (has s n || has t n) ≡ true) [
      | inl e ↦ (let f : a ≡ n = sym e ∙ same in first_is _ _ (rw f at h.member))
      | inr e ↦ (let f : b ≡ n = sym e ∙ same in second_is _ _ (rw f at i.member))
    ]

in_one : (s t : List Bool) (n : ℕ) → (has s n || has t n) ≡ true → length s ≡ length t → n < length s
in_one s t n is long =
    elim (either_way (has s n)) as (λ _. n < length s) [
      | inl a ↦ member_below s n a
      | inr b ↦ (let second : has t n ≡ true = rw b at is in omega (arith, member_below t n second, long))
    ]

-- The next one of a set from which another number was taken.
pub still_next : (s : List Bool) (n : ℕ) (found : Option ℕ) → IsLeastFrom s 0 found → found ≢ Some n → IsLeastFrom (set s n false) 0 found
still_next s n None h other = λ k from. still_none s n k (h k from)
still_next s n (Some m) h other =
    let apart : m ≢ n = λ e. other (ap Some e) in
    record {
      reached = omega arith;
      member = get_or-set_other s n m false false apart ∙ h.member;
      least = λ k from below. still_none s n k (h.least k from below);
    }

-- What holds before an item is sent: `due` and `dirty` are the next ones of the two sets.
pub record Onward (old : LiveSeen) (due dirty : Option ℕ) (pages : ℕ) (sent : Stopped) (mid : LiveSeen) : Type 0 where
  pub along : Along old (reached (lesser due dirty) (length old.due)) pages sent mid
  pub due_next : IsLeastFrom mid.due 0 due
  pub dirty_next : IsLeastFrom mid.dirty 0 dirty

pub onward_first : (old : LiveSeen) (due dirty : Option ℕ) (pages : ℕ) → HasPlaces old → pages ≡ pages_of (now old) → IsLeastFrom old.due 0 due → IsLeastFrom old.dirty 0 dirty → Onward old due dirty pages (record { pages = 0; sectors = 0 }) old
onward_first old due dirty pages places is h i = record {
  along = along_to old old 0 (reached (lesser due dirty) (length old.due)) pages _ (along_first old pages places is) (omega arith) (λ k _ below. passed old.due old.dirty due dirty (length old.due) k h i below);
  due_next = h;
  dirty_next = i;
}

pub reads_first : (called : ℕ → ℕ) (old : LiveSeen) (due dirty : Option ℕ) → IsLeastFrom old.due 0 due → IsLeastFrom old.dirty 0 dirty → ReadsBelow called old (reached (lesser due dirty) (length old.due)) old
reads_first called old due dirty h i =
    let none : AreCleared old 0 old = record { gone = λ k below. absurd (omega (arith, below)); due = λ k le. refl; dirty = λ k le. refl } in
    reads_to called old old 0 (reached (lesser due dirty) (length old.due)) none (omega arith) (λ k _ below. passed old.due old.dirty due dirty (length old.due) k h i below) refl

module _ (old mid : LiveSeen) (due dirty : Option ℕ) (n pages : ℕ) (sent : Stopped) (h : Onward old due dirty pages sent mid) (is : lesser due dirty ≡ Some n) where
  pub along_here : Along old n pages sent mid
  along_here = let P : Option ℕ → Type 0 = λ x. Along old (reached x (length old.due)) pages sent mid in subst P is h.along

  pub next_member : in_either mid n ≡ true
  next_member = next_is mid.due mid.dirty due dirty n h.due_next h.dirty_next is

  pub next_inside : n < length old.due
  next_inside =
      let places = h.along.places in
      let long : length mid.due ≡ length mid.dirty = omega (arith, h.along.due_size, h.along.dirty_size, places.due_size, places.dirty_size) in
      omega (arith, in_one mid.due mid.dirty n next_member long, h.along.due_size)

  pub along_next : (new : LiveSeen) (item : Item) (after : Stopped) → SendsOk mid n item new → after ≡ one_more sent (nat_lt n pages) → Along old (n + 1) pages after new
  along_next new item after s e = along_more old mid new n pages item sent after along_here next_inside next_member s e

  pub reads_next : (called : ℕ → ℕ) (new : LiveSeen) → ReadsBelow called old (reached (lesser due dirty) (length old.due)) mid → ReadsItem called mid.machine (item_at (layout_of (now mid)) n) new.machine → ReadsBelow called old (n + 1) new
  reads_next called new before one =
      let P : Option ℕ → Type 0 = λ x. ReadsBelow called old (reached x (length old.due)) mid in
      let member : in_either old n ≡ true = sym (either_same old mid n n along_here.are_sent.sets (omega arith)) ∙ next_member in
      reads_more called old mid new n member along_here.are_sent.machine.state (subst P is before) one

  pub reads_failed : (called : ℕ → ℕ) (new : LiveSeen) (e : MigError) → ReadsBelow called old (reached (lesser due dirty) (length old.due)) mid → ReadsItem called mid.machine (item_at (layout_of (now mid)) n) new.machine → SendsItem mid n (Err e) new
      → FailedCalls called old e new
  reads_failed called new e before one s =
      failed_at_item called old mid new n e (omega (arith, next_inside, along_here.places.due_size)) along_here.are_sent.machine.state s (reads_next called new before one)

module _ (old new : LiveSeen) (due dirty : Option ℕ) (n pages : ℕ) (sent : Stopped) (along : Along old (n + 1) pages sent new) (inside : n < length old.due) (h : IsLeastFrom new.due 0 due) (i : IsLeastFrom new.dirty 0 dirty) where
  not_behind : (found : Option ℕ) → lesser due dirty ≡ found → n + 1 ≤ reached found (length old.due)
  not_behind None is = omega (arith, inside)
  not_behind (Some m) is =
      elim (lt_or_le n m) as (λ _. n + 1 ≤ m) [
        | inl past ↦ omega (arith, past)
        | inr before ↦
            let there : in_either new m ≡ true = next_is new.due new.dirty due dirty m h i is in
            let gone : in_either new m ≡ false = along.are_sent.sets.gone m (omega (arith, before)) in
            absurd (true≢false (sym there ∙ gone))
      ]

  pub later : n + 1 ≤ reached (lesser due dirty) (length old.due)
  later = not_behind (lesser due dirty) refl

  pub onward_more : Onward old due dirty pages sent new
  onward_more = record {
    along = along_to old new (n + 1) (reached (lesser due dirty) (length old.due)) pages sent along later (λ k _ below. passed new.due new.dirty due dirty (length old.due) k h i below);
    due_next = h;
    dirty_next = i;
  }

  pub reads_onward : (called : ℕ → ℕ) → ReadsBelow called old (n + 1) new → ReadsBelow called old (reached (lesser due dirty) (length old.due)) new
  reads_onward called reads =
      reads_to called old new (n + 1) (reached (lesser due dirty) (length old.due)) along.are_sent.sets later (λ k _ below. passed new.due new.dirty due dirty (length old.due) k h i below) reads

pub shorter : (a b : Option ℕ) (n end : ℕ) → a ≡ Some n → n < end → n + 1 ≤ reached b end → end - reached b end < end - reached a end
shorter a b n end is inside past = rw is (omega (arith, inside, past))
