-- Items sent one after another.
use Rattle.std.proofs.Common.{◌≡◌, ◌≢◌, ◌^◌, ◌-◌, ℕ, zero, suc, add-one, ◌+◌, ◌<◌, ◌≤◌, List, [], ◌∷◌, ◌++◌, length, None, Err, Bool, true, false, cond, ◌&&◌, not, nat_lt, refl, ap, sym, subst, ◌∙◌, append_assoc, append-nil, ◌⊎◌, inl, inr, arith}
use Rattle.sender.proofs.Living.{member_below}
use Rattle.std.proofs.lemmas.List.{get_or-set_same, get_or-set_other, length-set}
use Rattle.dirtylog.specs.Members.{HasNone, IsLeast}
use Rattle.guestmem.specs.Item as items
use Rattle.machine.specs.Layout.{item_at, layout_of, pages_of, size_of}
use Rattle.machine.specs.Seen.{Seen}
use Rattle.machine.specs.State.{MachineState}
use Rattle.wire.specs.Stream.{texts}
use Rattle.wire.specs.Records.{Record, spelled_record}
use Rattle.wire.specs.Sinks.{Covers}
use Rattle.sender.specs.Calls.{AreCleared, AreSent, Fails, IsSameButCalls, IsSent, Serves, Took, Wrote, in_either}
use Rattle.sender.specs.LiveState.{HasPlaces, LiveSeen, chosen, closing, how_many, now, pages_among, refusal_for, sectors_among}
use Rattle.sender.specs.Stopping.{AllSent, ClosesStream, IsClosed, SendsAll, SendsItem, SendsOk, one_more}
use Rattle.sender.specs.Told.{IsTold}
use Rattle.sender.specs.declared.event.Item.{Item}
use Rattle.sender.specs.declared.event.Stopped.{Stopped}
use Rattle.sender.specs.declared.mig_error.MigError.{MigError}
use Rattle.sender.specs.declared.mig_error.MigError.TheVariants as errors
use Rattle.sender.specs.declared.event.LiveEvent.TheVariants as events
use Rattle.sender.specs.declared.event.LiveReply.TheVariants as r
use Rattle.sender.proofs.Told.{told_before, told_more}

or_equal : (m n : ℕ) → m ≤ suc n → (m ≤ n) ⊎ (m ≡ suc n)
or_equal zero n h = inl (omega arith)
or_equal (suc m) zero h = inr (omega (arith, h))
or_equal (suc m) (suc n) h = elim (or_equal m n (omega (arith, h))) as (λ _. (suc m ≤ suc n) ⊎ (suc m ≡ suc (suc n))) [ inl a ↦ inl (omega (arith, a)) | inr b ↦ inr (ap suc b) ]

pub chosen_none : (p : ℕ → Bool) (at i : ℕ) → at ≤ i → ((k : ℕ) → at ≤ k → k < i → p k ≡ false) → chosen p i ≡ chosen p at
chosen_none p at zero h none = let e : at ≡ 0 = omega (arith, h) in rw e refl
chosen_none p at (suc i) h none =
    elim (or_equal at i h) as (λ _. chosen p (suc i) ≡ chosen p at) [
      | inl a ↦ rw (none i a (omega arith), append-nil) (chosen_none p at i a (λ k l b. none k l (omega (arith, b))))
      | inr e ↦ rw e refl
    ]

pub chosen_more : (p : ℕ → Bool) (i : ℕ) → p i ≡ true → chosen p (i + 1) ≡ chosen p i ++ i ∷ []
chosen_more p i is = rw (add-one, is) refl

how_many_le : (p : ℕ → Bool) (n : ℕ) → how_many p n ≤ n
how_many_le p zero = omega arith
how_many_le p (suc n) = let h = how_many_le p n in elim (p n) as (λ b. how_many p n + cond b 1 0 ≤ suc n) [ true ↦ omega (arith, h) | false ↦ omega (arith, h) ]

pub lt_or_le : (m n : ℕ) → (m < n) ⊎ (n ≤ m)
lt_or_le m zero = inr (omega arith)
lt_or_le zero (suc n) = inl (omega arith)
lt_or_le (suc m) (suc n) = elim (lt_or_le m n) as (λ _. (suc m < suc n) ⊎ (suc n ≤ suc m)) [ inl a ↦ inl (omega (arith, a)) | inr b ↦ inr (omega (arith, b)) ]

-- Texts of records one after another.
pub texts-append : (rs ss : List Record) → texts (rs ++ ss) ≡ texts rs ++ texts ss
unfolding texts
texts-append [] ss = refl
texts-append (x ∷ rs) ss = ap (λ (t : List ℕ). spelled_record x ++ t) (texts-append rs ss) ∙ sym (append_assoc (spelled_record x) (texts rs) (texts ss))

pub one_text : (x : Record) → texts (x ∷ []) ≡ spelled_record x
unfolding texts
one_text x = append-nil (spelled_record x)

-- What was written is written on.
pub took_more : (old mid new : LiveSeen) (xs ys : List ℕ) → Took old mid xs → Took mid new ys → Took old new (xs ++ ys)
took_more old mid new xs ys h k = record {
  count = k.count ∙ h.count;
  holds = λ honest. let a = h.holds honest in let b = k.holds a.0 in (b.0, b.1 ∙ ap (λ (x : List ℕ). x ++ ys) a.1 ∙ append_assoc old.out.held xs ys);
}

pub wrote_more : (old mid new : LiveSeen) (xs ys : List ℕ) → Wrote old mid xs → Wrote mid new ys → Wrote old new (xs ++ ys)
wrote_more old mid new xs ys h k = record {
  took = took_more old mid new xs ys h.took k.took;
  taken = λ b held. let P : List ℕ → Type 0 = λ x. Covers new.digest x in subst P (append_assoc b xs ys) (k.taken (b ++ xs) (h.taken b held));
}

-- A machine that stays unchanged but for the calls of its disks.
same_still : (old mid new : Seen) → IsSameButCalls old mid → IsSameButCalls mid new → IsSameButCalls old new
same_still old mid new h k = record { memory = k.memory ∙ h.memory; state = k.state ∙ h.state; marks = k.marks ∙ h.marks; flushed = k.flushed ∙ h.flushed }

-- Sets that lose their first items.
pub either_same : (old mid : LiveSeen) (at k : ℕ) → AreCleared old at mid → at ≤ k → in_either mid k ≡ in_either old k
either_same old mid at k h le = rw (h.due k le, h.dirty k le) refl

cleared_to : (old mid : LiveSeen) (at i : ℕ) → AreCleared old at mid → at ≤ i → ((k : ℕ) → at ≤ k → k < i → in_either mid k ≡ false) → AreCleared old i mid
cleared_to old mid at i h le none = record {
  gone = λ k below. elim (lt_or_le k at) as (λ _. in_either mid k ≡ false) [ inl a ↦ h.gone k a | inr b ↦ none k b below ];
  due = λ k above. h.due k (omega (arith, above, le));
  dirty = λ k above. h.dirty k (omega (arith, above, le));
}

sent_to : (old mid : LiveSeen) (at i : ℕ) → AreSent old at mid → at ≤ i → ((k : ℕ) → at ≤ k → k < i → in_either mid k ≡ false) → AreSent old i mid
sent_to old mid at i h le none =
    let same : chosen (in_either old) i ≡ chosen (in_either old) at = chosen_none (in_either old) at i le (λ k l b. sym (either_same old mid at k h.sets l) ∙ none k l b) in
    record { machine = h.machine; phase = h.phase; sets = cleared_to old mid at i h.sets le none; entries = h.entries; told = rw same h.told; wrote = h.wrote }

gone_at : (old mid new : LiveSeen) (i k : ℕ) → AreCleared old i mid → i < length mid.due → i < length mid.dirty → IsSent mid i new → k < i + 1 → in_either new k ≡ false
gone_at old mid new i k h due_in dirty_in sent below =
    elim (lt_or_le k i) as (λ _. in_either new k ≡ false) [
      | inl a ↦ let other : k ≢ i = λ e. omega (arith, e, a) in rw (sent.due, sent.dirty, get_or-set_other mid.due i k false false other, get_or-set_other mid.dirty i k false false other) (h.gone k a)
      | inr b ↦
          let e : k ≡ i = omega (arith, below, b) in
          rw (e, sent.due, sent.dirty, get_or-set_same mid.due i false false due_in, get_or-set_same mid.dirty i false false dirty_in) refl
    ]

cleared_more : (old mid new : LiveSeen) (i : ℕ) → AreCleared old i mid → i < length mid.due → i < length mid.dirty → IsSent mid i new → AreCleared old (i + 1) new
cleared_more old mid new i h due_in dirty_in sent = record {
  gone = λ k below. gone_at old mid new i k h due_in dirty_in sent below;
  due = λ k above. let other : k ≢ i = λ e. omega (arith, e, above) in rw (sent.due, get_or-set_other mid.due i k false false other) (h.due k (omega (arith, above)));
  dirty = λ k above. let other : k ≢ i = λ e. omega (arith, e, above) in rw (sent.dirty, get_or-set_other mid.dirty i k false false other) (h.dirty k (omega (arith, above)));
}

sent_one : (old mid new : LiveSeen) (i : ℕ) → AreSent old i mid → i < length mid.due → i < length mid.dirty → in_either mid i ≡ true → IsSent mid i new → AreSent old (i + 1) new
sent_one old mid new i h due_in dirty_in member sent =
    let is : in_either old i ≡ true = sym (either_same old mid i i h.sets (omega arith)) ∙ member in
    let all : texts (h.entries ++ sent.entry ∷ []) ≡ texts h.entries ++ spelled_record sent.entry = texts-append h.entries (sent.entry ∷ []) ∙ ap (λ (t : List ℕ). texts h.entries ++ t) (one_text sent.entry) in
    let last : IsTold old.machine (item_at (layout_of (now old)) i) sent.entry = told_before old.machine mid.machine i sent.entry h.machine sent.told in
    record {
      machine = same_still old.machine mid.machine new.machine h.machine sent.machine;
      phase = sent.phase ∙ h.phase;
      sets = cleared_more old mid new i h.sets due_in dirty_in sent;
      entries = h.entries ++ sent.entry ∷ [];
      told = rw (chosen_more (in_either old) i is) (told_more old.machine (chosen (in_either old) i) h.entries i sent.entry h.told last);
      wrote = rw all (wrote_more old mid new (texts h.entries) (spelled_record sent.entry) h.wrote sent.wrote);
    }

-- One more item in the counts.
more_counted : (p : ℕ → Bool) (q : ℕ → Bool) (i : ℕ) → p i ≡ true → how_many (λ k. p k && q k) (i + 1) ≡ how_many (λ k. p k && q k) i + cond (q i) 1 0
more_counted p q i is = rw (add-one, is) refl

none_counted : (p q : ℕ → Bool) (at i : ℕ) → at ≤ i → ((k : ℕ) → at ≤ k → k < i → p k ≡ false) → how_many (λ k. p k && q k) i ≡ how_many (λ k. p k && q k) at
none_counted p q at zero h none = let e : at ≡ 0 = omega (arith, h) in rw e refl
none_counted p q at (suc i) h none =
    elim (or_equal at i h) as (λ _. how_many (λ k. p k && q k) (suc i) ≡ how_many (λ k. p k && q k) at) [
      | inl a ↦ rw (none i a (omega arith)) (let before = none_counted p q at i a (λ k l b. none k l (omega (arith, b))) in omega (arith, before))
      | inr e ↦ rw e refl
    ]

fails_after : (old mid new : LiveSeen) (at : ℕ) → AreSent old at mid → Fails mid new → Fails old new
fails_after old mid new at h f = record { machine = same_still old.machine mid.machine new.machine h.machine f.machine; phase = f.phase; count = rw h.wrote.took.count at f.count }

-- What holds of the items sent so far and of their numbers.
pub record Along (old : LiveSeen) (at pages : ℕ) (sent : Stopped) (mid : LiveSeen) : Type 0 where
  pub places : HasPlaces old
  pub pages_size : pages ≡ pages_of (now old)
  pub are_sent : AreSent old at mid
  pub due_size : length mid.due ≡ length old.due
  pub dirty_size : length mid.dirty ≡ length old.dirty
  pub pages_are : sent.pages ≡ pages_among (layout_of (now old)) (in_either old) at
  pub sectors_are : sent.sectors ≡ sectors_among (layout_of (now old)) (in_either old) at

pub few_counted : (old mid : LiveSeen) (p : ℕ → Bool) (count at pages : ℕ) (sent : Stopped) → Along old at pages sent mid → at < length old.due → count ≡ how_many p at → count < 2 ^ 64 - 1
few_counted old mid p count at pages sent h below e = omega (arith, e, below, h.places.few, how_many_le p at)

-- The items are those of the machine before.
pub inside : (old mid : LiveSeen) (at pages : ℕ) (sent : Stopped) → Along old at pages sent mid → at < length old.due → at < size_of (layout_of (now mid))
inside old mid at pages sent h below =
    subst (λ (m : MachineState). at < size_of (layout_of m)) (sym h.are_sent.machine.state) (omega (arith, below, h.places.due_size))

nothing_sent : (old : LiveSeen) → AreSent old 0 old
unfolding texts
nothing_sent old = record {
  machine = record { memory = refl; state = refl; marks = refl; flushed = refl };
  phase = refl;
  sets = record { gone = λ i below. absurd (omega (arith, below)); due = λ i le. refl; dirty = λ i le. refl };
  entries = [];
  told = tt;
  wrote = record {
    took = record { count = refl; holds = λ honest. (honest, sym (append-nil old.out.held)) };
    taken = λ b held. (let P : List ℕ → Type 0 = λ x. Covers old.digest x in subst P (sym (append-nil b)) held);
  };
}

pub along_first : (old : LiveSeen) (pages : ℕ) → HasPlaces old → pages ≡ pages_of (now old) → Along old 0 pages (record { pages = 0; sectors = 0 }) old
along_first old pages places is = record {
  places = places;
  pages_size = is;
  are_sent = nothing_sent old;
  due_size = refl;
  dirty_size = refl;
  pages_are = refl;
  sectors_are = refl;
}

one_page : (s : Stopped) (b : Bool) (n : ℕ) → s.pages ≡ n → (one_more s b).pages ≡ n + cond b 1 0
one_page s true n e = ap (λ (x : ℕ). x + 1) e
one_page s false n e = e ∙ omega arith

one_sector : (s : Stopped) (b : Bool) (n : ℕ) → s.sectors ≡ n → (one_more s b).sectors ≡ n + cond (not b) 1 0
one_sector s true n e = e ∙ omega arith
one_sector s false n e = ap (λ (x : ℕ). x + 1) e

-- The item of a number is in one of the sets, and was sent.
pub along_more : (old mid new : LiveSeen) (at pages : ℕ) (item : Item) (sent after : Stopped) → Along old at pages sent mid → at < length old.due → in_either mid at ≡ true → SendsOk mid at item new → after ≡ one_more sent (nat_lt at pages) → Along old (at + 1) pages after new
along_more old mid new at pages item sent after h below member s e =
    let due_in : at < length mid.due = omega (arith, below, h.due_size) in
    let dirty_in : at < length mid.dirty = omega (arith, below, h.dirty_size, h.places.due_size, h.places.dirty_size) in
    let is : in_either old at ≡ true = sym (either_same old mid at at h.are_sent.sets (omega arith)) ∙ member in
    record {
      places = h.places;
      pages_size = h.pages_size;
      are_sent = sent_one old mid new at h.are_sent due_in dirty_in member s.sent;
      due_size = ap length s.sent.due ∙ length-set mid.due at false ∙ h.due_size;
      dirty_size = ap length s.sent.dirty ∙ length-set mid.dirty at false ∙ h.dirty_size;
      pages_are = rw (e, h.pages_size) (one_page sent (nat_lt at (pages_of (now old))) _ h.pages_are ∙ sym (more_counted (in_either old) (λ k. nat_lt k (pages_of (now old))) at is));
      sectors_are = rw (e, h.pages_size) (one_sector sent (nat_lt at (pages_of (now old))) _ h.sectors_are ∙ sym (more_counted (in_either old) (λ k. not (nat_lt k (pages_of (now old)))) at is));
    }

-- No item from one number on, before another, is in one of them.
pub along_to : (old mid : LiveSeen) (at to pages : ℕ) (sent : Stopped) → Along old at pages sent mid → at ≤ to → ((k : ℕ) → at ≤ k → k < to → in_either mid k ≡ false) → Along old to pages sent mid
along_to old mid at to pages sent h le none =
    let was : (k : ℕ) → at ≤ k → k < to → in_either old k ≡ false = λ k from below. sym (either_same old mid at k h.are_sent.sets from) ∙ none k from below in
    record {
      places = h.places;
      pages_size = h.pages_size;
      are_sent = sent_to old mid at to h.are_sent le none;
      due_size = h.due_size;
      dirty_size = h.dirty_size;
      pages_are = h.pages_are ∙ sym (none_counted (in_either old) (λ k. nat_lt k (pages_of (now old))) at to le was);
      sectors_are = h.sectors_are ∙ sym (none_counted (in_either old) (λ k. not (nat_lt k (pages_of (now old)))) at to le was);
    }

pub short_of : (old mid new : LiveSeen) (at pages : ℕ) (sent : Stopped) (e : MigError) → Along old at pages sent mid → at < length old.due → in_either mid at ≡ true → SendsItem mid at (Err e) new → SendsAll old (Err e) new
short_of old mid new at pages sent (errors.DiskFailed dev n) h below member s = record {
  number = at;
  below = omega (arith, below, h.places.due_size);
  member = sym (either_same old mid at at h.are_sent.sets (omega arith)) ∙ member;
  item_is = subst (λ (m : MachineState). items.sector dev n ≡ item_at (layout_of m) at) h.are_sent.machine.state s.item_is;
  between = mid;
  are_sent = h.are_sent;
  unread = s.unread;
}
short_of old mid new at pages sent errors.StreamFailed h below member s = fails_after old mid new at h.are_sent s
short_of old mid new at pages sent _ h below member s = absurd s

-- The least due item.
pub due_below : (s : LiveSeen) (i : ℕ) → HasPlaces s → IsLeast s.due 0 i → i < size_of (layout_of (now s))
due_below s i places h = omega (arith, places.due_size, member_below s.due i h.member)

pub served_copy : (old new : LiveSeen) (i : ℕ) (item : Item) → refusal_for old.phase events.Copy ≡ None → IsLeast old.due 0 i → SendsOk old i item new → Serves old events.Copy (r.Copied item) new
served_copy old new i item free least s = rw free (record { number = i; least = least; item_is = s.item_is; sent = s.sent })

pub served_done : (old : LiveSeen) → refusal_for old.phase events.Copy ≡ None → HasNone old.due → Serves old events.Copy r.RoundDone old
served_done old free none = rw free (none, refl)

pub copy_failed : (old new : LiveSeen) (i : ℕ) (e : MigError) → refusal_for old.phase events.Copy ≡ None → IsLeast old.due 0 i → SendsItem old i (Err e) new → Serves old events.Copy (r.Mig e) new
copy_failed old new i (errors.DiskFailed dev n) free least s = rw free (record { number = i; least = least; item_is = s.item_is; unread = s.unread })
copy_failed old new i errors.StreamFailed free least s = rw free s
copy_failed old new i _ free least s = absurd s

-- A stop that failed.
pub stop_short : (old new : LiveSeen) (e : MigError) → refusal_for old.phase events.Stop ≡ None → SendsAll old (Err e) new → Serves old events.Stop (r.Mig e) new
stop_short old new (errors.DiskFailed dev n) free s = rw free s
stop_short old new errors.StreamFailed free s = rw free s
stop_short old new _ free s = absurd s

pub stop_failed : (old mid new : LiveSeen) (pages sectors : ℕ) (e : MigError) → refusal_for old.phase events.Stop ≡ None → AllSent old pages sectors mid → ClosesStream {A = Unit {0}} mid (Err e) new → Serves old events.Stop (r.Mig e) new
stop_failed old mid new pages sectors errors.StreamFailed free s c = rw free (fails_after old mid new (size_of (layout_of (now old))) s.are_sent c)
stop_failed old mid new pages sectors (errors.DiskFailed dev n) free s c = absurd c
stop_failed old mid new pages sectors errors.AlreadyStopped free s c = absurd c
stop_failed old mid new pages sectors errors.NotBegun free s c = absurd c
stop_failed old mid new pages sectors errors.AlreadyBegun free s c = absurd c
stop_failed old mid new pages sectors errors.RoundsEnded free s c = absurd c

-- All was sent, and the stream was closed.
cleared_on : (old mid new : LiveSeen) (to : ℕ) → AreCleared old to mid → new.due ≡ mid.due → new.dirty ≡ mid.dirty → AreCleared old to new
cleared_on old mid new to h due dirty = record {
  gone = λ i below. rw (due, dirty) (h.gone i below);
  due = λ i le. rw due (h.due i le);
  dirty = λ i le. rw dirty (h.dirty i le);
}

pub stops : (old mid new : LiveSeen) (pages sectors : ℕ) → refusal_for old.phase events.Stop ≡ None → AllSent old pages sectors mid → IsClosed mid new → Serves old events.Stop (r.Stopped pages sectors) new
stops old mid new pages sectors free s c =
    let n = size_of (layout_of (now old)) in
    let sent = texts s.are_sent.entries in
    rw free (record {
      machine = subst (IsSameButCalls old.machine) (sym c.machine) s.are_sent.machine;
      phase = c.phase;
      sets = cleared_on old mid new n s.are_sent.sets c.due c.dirty;
      count = c.count ∙ s.are_sent.wrote.took.count;
      flushed = c.flushed;
      entries = s.are_sent.entries;
      told = s.are_sent.told;
      took = λ b held.
          let P : MachineState → Type 0 = λ m. Took mid new (closing m (b ++ sent)) in
          took_more old mid new sent (closing (now old) (b ++ sent)) s.are_sent.wrote.took (subst P s.are_sent.machine.state (c.took (b ++ sent) (s.are_sent.wrote.taken b held)));
      pages_are = s.pages_are;
      sectors_are = s.sectors_are;
    })
