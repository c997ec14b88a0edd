-- Pages that are named later than they were written.
use Rattle.std.proofs.Common.{◌≡◌, ℕ, ◌||◌, ◌++◌, Bool, true, false, Option, Some, None, List, [], ◌∷◌, set, cond, eqb, refl, sym, ap, subst, ◌∙◌, ◌⊎◌, inl, inr}
use Rattle.std.specs.Prelude.{MatchOption}
use Rattle.std.proofs.lemmas.Bool.{eqb-true, eqb-false, eq-eqb}
use Rattle.std.proofs.lemmas.List.{set-set, set_comm}
use Rattle.guestmem.specs.Item.{Item}
use Rattle.guestmem.specs.Lent.{is_named}
use Rattle.machine.specs.Effect.{items_of}
use Rattle.machine.specs.Layout.{firsts_of, layout_of, number_in}
use Rattle.machine.specs.declared.event.Event.{Event}
use Rattle.machine.specs.declared.reply.Reply.{Reply}
use Rattle.machine.proofs.Numbering.{either_way}
use Rattle.sender.specs.Calls.{AfterBegin, AfterCopy, AfterGuest, BeginsFirstRound, Copies, CopyFails, Does, Fails, Guests, IsUnread, Wrote, with_items}
use Rattle.sender.specs.Dirty.{set_once, set_order}
use Rattle.sender.specs.LiveState.{LiveSeen, now}
use Rattle.sender.specs.Marks.{AreAmong, MayCall, if_dirty, still_behind}
use Rattle.sender.specs.Parked.{with_pages}
use Rattle.sender.specs.ParkedCalls.{beside, without}
use Rattle.sender.specs.declared.event.Item.{Item as Sent}
use Rattle.sender.specs.declared.event.LiveEvent.{LiveEvent}
use Rattle.sender.specs.declared.event.LiveEvent.TheVariants.{Guest, Begin, Copy, EndRound, Stop}
use Rattle.sender.specs.declared.event.LiveReply.{LiveReply}
use Rattle.sender.specs.declared.event.LiveReply.TheVariants as r
use Rattle.sender.specs.declared.mig_error.MigError.{MigError}
use Rattle.sender.specs.declared.mig_error.MigError.TheVariants as errors

-- Dirty pages, whatever order they are named in.
pub after_set : (s : List Bool) (n : ℕ) (pages : List ℕ) → with_pages (set s n true) pages ≡ set (with_pages s pages) n true
after_set s n [] = refl
after_set s n (k ∷ pages) = ap (λ (t : List Bool). with_pages t pages) (set_order s n k) ∙ after_set (set s k true) n pages

pub both_ways : (s : List Bool) (a b : List ℕ) → with_pages (with_pages s a) b ≡ with_pages (with_pages s b) a
both_ways s [] b = refl
both_ways s (n ∷ a) b = both_ways (set s n true) a b ∙ ap (λ (t : List Bool). with_pages t a) (after_set s n b)

pub in_turn : (s : List Bool) (a b : List ℕ) → with_pages s (a ++ b) ≡ with_pages (with_pages s a) b
in_turn s [] b = refl
in_turn s (n ∷ a) b = in_turn (set s n true) a b

named_by : (b : Bool) (s : List Bool) (n k : ℕ) (pages : List ℕ) → eqb n k ≡ b → (is_named pages n ≡ true → with_pages (set s n true) pages ≡ with_pages s pages) → (b || is_named pages n) ≡ true
    → set (with_pages (set s n true) pages) k true ≡ set (with_pages s pages) k true
named_by true s n k pages is rest named =
    let same : n ≡ k = eqb-true n k is in
    rw (← same) (ap (λ (t : List Bool). set t n true) (after_set s n pages) ∙ set_once (with_pages s pages) n)
named_by false s n k pages is rest named = ap (λ (t : List Bool). set t k true) (rest named)

-- A page that is named twice.
pub once_more : (s : List Bool) (n : ℕ) (pages : List ℕ) → is_named pages n ≡ true → with_pages (set s n true) pages ≡ with_pages s pages
once_more s n [] named = cc
once_more s n (k ∷ pages) named = after_set (set s n true) k pages ∙ named_by (eqb n k) s n k pages refl (once_more s n pages) named ∙ sym (after_set s k pages)

pub named_first : (n : ℕ) (pages : List ℕ) → is_named (n ∷ pages) n ≡ true
named_first n pages = rw (eq-eqb n n refl) refl

pub or_behind : (a b : Bool) → b ≡ true → (a || b) ≡ true
or_behind true b is = refl
or_behind false b is = is

or_assoc : (a b c : Bool) → (a || (b || c)) ≡ ((a || b) || c)
or_assoc true b c = refl
or_assoc false b c = refl

pub named_rest : (n k : ℕ) (pages : List ℕ) → is_named pages n ≡ true → is_named (k ∷ pages) n ≡ true
named_rest n k pages is = or_behind (eqb n k) (is_named pages n) is

pub among_rest : (n : ℕ) (a b : List ℕ) → AreAmong (n ∷ a) b → AreAmong a b
among_rest n a b among k is = among k (named_rest k n a is)

pub taken_in : (s : List Bool) (a b : List ℕ) → AreAmong a b → with_pages (with_pages s a) b ≡ with_pages s b
taken_in s [] b among = refl
taken_in s (n ∷ a) b among = taken_in (set s n true) a b (among_rest n a b among) ∙ once_more s n b (among n (named_first n a))

beside_by : (b : Bool) (s : List Bool) (n : ℕ) (marks late : List ℕ) → is_named marks n ≡ b → ((t : List Bool) → with_pages (with_pages t marks) (beside marks late) ≡ with_pages (with_pages t marks) late)
    → with_pages (with_pages s marks) (cond b (beside marks late) (n ∷ beside marks late)) ≡ with_pages (with_pages (set s n true) marks) late
beside_by true s n marks late is rest = rest s ∙ ap (λ (t : List Bool). with_pages t late) (sym (once_more s n marks is))
beside_by false s n marks late is rest = ap (λ (t : List Bool). with_pages t (beside marks late)) (sym (after_set s n marks)) ∙ rest (set s n true)

pub beside_late : (s : List Bool) (marks late : List ℕ) → with_pages (with_pages s marks) (beside marks late) ≡ with_pages (with_pages s marks) late
beside_late s marks [] = refl
beside_late s marks (n ∷ late) = beside_by (is_named marks n) s n marks late refl (λ t. beside_late t marks late) ∙ ap (λ (t : List Bool). with_pages t late) (after_set s n marks)

beside_is : (b : Bool) (k n : ℕ) (marks late : List ℕ) → is_named marks n ≡ b → (is_named (beside marks late) k ≡ true → (is_named late k ≡ true) × (is_named marks k ≡ false)) → is_named (cond b (beside marks late) (n ∷ beside marks late)) k ≡ true
    → (is_named (n ∷ late) k ≡ true) × (is_named marks k ≡ false)
beside_is true k n marks late out rest is = let r = rest is in (named_rest k n late r.0, r.1)
beside_is false k n marks late out rest is = elim (either_way (eqb k n)) as (λ _. (is_named (n ∷ late) k ≡ true) × (is_named marks k ≡ false)) [
  | inl e ↦ let same : k ≡ n = eqb-true k n e in (rw e refl, ap (is_named marks) same ∙ out)
  | inr e ↦ let r = rest (rw e at is) in (named_rest k n late r.0, r.1)
]

pub beside_named : (k : ℕ) (marks late : List ℕ) → is_named (beside marks late) k ≡ true → (is_named late k ≡ true) × (is_named marks k ≡ false)
beside_named k marks [] is = cc
beside_named k marks (n ∷ late) is = beside_is (is_named marks n) k n marks late refl (beside_named k marks late) is

-- What is named by two lists.
pub named_both : (k : ℕ) (a b : List ℕ) → is_named (a ++ b) k ≡ (is_named a k || is_named b k)
named_both k [] b = refl
named_both k (n ∷ a) b = ap (λ (c : Bool). eqb k n || c) (named_both k a b) ∙ or_assoc (eqb k n) (is_named a k) (is_named b k)

-- Items that join a set that lacks pages.
items_after : (firsts : List ℕ) (s : List Bool) (n : ℕ) (is : List Item) → with_items firsts (set s n true) is ≡ set (with_items firsts s is) n true
items_after firsts s n [] = refl
items_after firsts s n (i ∷ is) = ap (λ (t : List Bool). with_items firsts t is) (set_order s n (number_in firsts i)) ∙ items_after firsts (set s (number_in firsts i) true) n is

pub items_late : (firsts : List ℕ) (s : List Bool) (late : List ℕ) (is : List Item) → with_pages (with_items firsts s is) late ≡ with_items firsts (with_pages s late) is
items_late firsts s [] is = refl
items_late firsts s (n ∷ late) is = ap (λ (t : List Bool). with_pages t late) (sym (items_after firsts s n is)) ∙ items_late firsts (set s n true) late is

-- These pages without one.
without_by : (b : Bool) (i n : ℕ) (pages : List ℕ) → AreAmong (without i pages) pages → AreAmong (cond b (without i pages) (n ∷ without i pages)) (n ∷ pages)
without_by true i n pages rest k is = named_rest k n pages (rest k is)
without_by false i n pages rest k is = elim (either_way (eqb k n)) as (λ _. is_named (n ∷ pages) k ≡ true) [
  | inl e ↦ rw e refl
  | inr e ↦ named_rest k n pages (rest k (rw e at is))
]

pub without_among : (i : ℕ) (pages : List ℕ) → AreAmong (without i pages) pages
without_among i [] = λ k is. is
without_among i (n ∷ pages) = without_by (eqb n i) i n pages (without_among i pages)

without_none : (i : ℕ) (pages : List ℕ) → is_named (without i pages) i ≡ false
without_none i [] = refl
without_none i (n ∷ pages) = elim (either_way (eqb n i)) as (λ _. is_named (without i (n ∷ pages)) i ≡ false) [
  | inl e ↦ rw e (without_none i pages)
  | inr e ↦ elim (either_way (eqb i n)) as (λ _. is_named (without i (n ∷ pages)) i ≡ false) [
    | inl f ↦ let same : i ≡ n = eqb-true i n f in let wrong : true ≡ false = sym (subst (λ (x : ℕ). eqb x n ≡ true) same f) ∙ subst (λ (x : ℕ). eqb n x ≡ false) same e in cc
    | inr f ↦ rw (e, f) (without_none i pages)
  ]
]

without_rest : (i k : ℕ) (pages : List ℕ) → eqb k i ≡ false → is_named pages k ≡ true → is_named (without i pages) k ≡ true
without_rest i k [] other is = is
without_rest i k (n ∷ pages) other is = elim (either_way (eqb n i)) as (λ _. is_named (without i (n ∷ pages)) k ≡ true) [
  | inl e ↦ let same : n ≡ i = eqb-true n i e in rw e (without_rest i k pages other (rw (subst (λ (x : ℕ). eqb k x ≡ false) (sym same) other) at is))
  | inr e ↦ elim (either_way (eqb k n)) as (λ _. is_named (without i (n ∷ pages)) k ≡ true) [
    | inl f ↦ rw (e, f) refl
    | inr f ↦ rw (e, f) (without_rest i k pages other (rw f at is))
  ]
]

pub without_both : (i : ℕ) (a b : List ℕ) → AreAmong a b → AreAmong (without i a) (without i b)
without_both i a b among k is = elim (either_way (eqb k i)) as (λ _. is_named (without i b) k ≡ true) [
  | inl e ↦ let same : k ≡ i = eqb-true k i e in let wrong : true ≡ false = sym (subst (λ (x : ℕ). is_named (without i a) x ≡ true) same is) ∙ without_none i a in cc
  | inr e ↦ without_rest i k b e (among k (without_among i a k is))
]

sent_by : (b : Bool) (s : List Bool) (i n : ℕ) (pages : List ℕ) → eqb n i ≡ b → with_pages (set (set s n true) i false) (without i pages) ≡ with_pages (set s i false) (cond b (without i pages) (n ∷ without i pages))
sent_by true s i n pages is =
    let same : n ≡ i = eqb-true n i is in
    ap (λ (t : List Bool). with_pages t (without i pages)) (rw same (set-set s i true false))
sent_by false s i n pages is = ap (λ (t : List Bool). with_pages t (without i pages)) (set_comm s n i true false (eqb-false n i is))

-- A page that is sent is missing no longer.
pub sent_late : (s : List Bool) (i : ℕ) (late : List ℕ) → with_pages (set s i false) (without i late) ≡ set (with_pages s late) i false
sent_late s i [] = refl
sent_late s i (n ∷ late) = sym (sent_by (eqb n i) s i n late refl) ∙ sent_late (set s n true) i late

-- The calls that may be made whatever is missing.
abbrev pub MayBeBehind : LiveEvent → Type 0
MayBeBehind EndRound = ⊥
MayBeBehind Stop = ⊥
MayBeBehind _ = Unit {0}

pub may_call : (pages : List ℕ) (e : LiveEvent) → MayCall pages e → MayBeBehind e ⊎ (pages ≡ [])
may_call [] e may = inr refl
may_call (n ∷ pages) EndRound may = absurd may
may_call (n ∷ pages) Stop may = absurd may
may_call (n ∷ pages) _ may = inl tt

-- What a call does to a machine that lacks pages, it does to the one that has them.

module _ (late : List ℕ) where
  abbrev L : LiveSeen → LiveSeen
  L s = if_dirty late s

  wrote : (still : List ℕ) (old new : LiveSeen) (bytes : List ℕ) → Wrote old new bytes → Wrote (L old) (if_dirty still new) bytes
  wrote still old new bytes w = record { took = record { count = w.took.count; holds = w.took.holds }; taken = w.taken }

  fails : (old new : LiveSeen) → Fails old new → Fails (L old) (L new)
  fails old new f = record { machine = f.machine; phase = f.phase; count = f.count }

  unread : (old : LiveSeen) (dev n : ℕ) (new : LiveSeen) → IsUnread old dev n new → IsUnread (L old) dev n (L new)
  unread old dev n new u = record { memory = u.memory; state = u.state; flushed = u.flushed; marks = u.marks; unsteady = u.unsteady; good = u.good; rest = ap L u.rest }

  begins : (old new : LiveSeen) → BeginsFirstRound old new → BeginsFirstRound (L old) (if_dirty [] new)
  begins old new b = record { machine = b.machine; phase = b.phase; due = b.due; dirty = b.dirty; wrote = wrote [] old new _ b.wrote }

  copies : (old : LiveSeen) (item : Sent) (new : LiveSeen) → (c : Copies old item new) → Copies (L old) item (if_dirty (without c.number late) new)
  copies old item new c = record {
    number = c.number;
    least = c.least;
    item_is = c.item_is;
    sent = record {
      machine = c.sent.machine;
      phase = c.sent.phase;
      due = c.sent.due;
      dirty = ap (λ (t : List Bool). with_pages t (without c.number late)) c.sent.dirty ∙ sent_late old.dirty c.number late;
      entry = c.sent.entry;
      told = c.sent.told;
      wrote = wrote (without c.number late) old new _ c.sent.wrote;
    };
  }

  copy_fails : (old : LiveSeen) (dev n : ℕ) (new : LiveSeen) → CopyFails old dev n new → CopyFails (L old) dev n (L new)
  copy_fails old dev n new c = record { number = c.number; least = c.least; item_is = c.item_is; unread = unread old dev n new c.unread }

  guest : (old : LiveSeen) (e : Event) (reply : Reply) (new : LiveSeen) → AfterGuest old e reply new → AfterGuest (L old) e reply (L new)
  guest old e reply new a = record {
    is_applied = a.is_applied;
    dirty = ap (λ (t : List Bool). with_pages t late) a.dirty ∙ items_late (firsts_of (layout_of (now old))) old.dirty late (items_of a.is_applied.effect);
    rest = ap L a.rest;
  }

  -- What it lacks after the call.
  record Lags (old : LiveSeen) (e : LiveEvent) (reply : LiveReply) (new : LiveSeen) : Type 0 where
    still : List ℕ
    among : AreAmong still (still_behind reply late)
    does : Does (L old) e reply (if_dirty still new)

  all_late : AreAmong late late
  all_late = λ n is. is

  guests : (old : LiveSeen) (e : Event) (reply : LiveReply) (new : LiveSeen) → Guests old e reply new → Lags old (Guest e) reply new
  guests old e (r.Guest reply) new a = record { still = late; among = all_late; does = guest old e reply new a }
  guests old e _ new a = absurd a

  begun : (old : LiveSeen) (reply : LiveReply) (new : LiveSeen) → AfterBegin old reply new → Lags old Begin reply new
  begun old (r.Begun k) new a = record { still = []; among = λ n is. is; does = (a.0, begins old new a.1) }
  begun old (r.Mig errors.StreamFailed) new a = record { still = late; among = all_late; does = fails old new a }
  begun old _ new a = absurd a

  copied : (old : LiveSeen) (reply : LiveReply) (new : LiveSeen) → AfterCopy old reply new → Lags old Copy reply new
  copied old (r.Copied item) new a = record { still = without a.number late; among = without_among a.number late; does = copies old item new a }
  copied old r.RoundDone new a = record { still = late; among = all_late; does = (a.0, ap L a.1) }
  copied old (r.Mig (errors.DiskFailed dev n)) new a = record { still = late; among = all_late; does = copy_fails old dev n new a }
  copied old (r.Mig errors.StreamFailed) new a = record { still = late; among = all_late; does = fails old new a }
  copied old _ new a = absurd a

  does_late : (old : LiveSeen) (e : LiveEvent) (reply : LiveReply) (new : LiveSeen) → MayBeBehind e → Does old e reply new → Lags old e reply new
  does_late old (Guest e) reply new may a = guests old e reply new a
  does_late old Begin reply new may a = begun old reply new a
  does_late old Copy reply new may a = copied old reply new a
  does_late old EndRound reply new may a = absurd may
  does_late old Stop reply new may a = absurd may

  -- Whether the phase refuses it or not.
  pub record Served (o : Option MigError) (old : LiveSeen) (e : LiveEvent) (reply : LiveReply) (new : LiveSeen) : Type 0 where
    pub still : List ℕ
    pub among : AreAmong still (still_behind reply late)
    pub serves : MatchOption o (Does (L old) e reply (if_dirty still new)) (λ x. (reply ≡ r.Mig x) × (if_dirty still new ≡ L old))

  pub serves_late : (o : Option MigError) (old : LiveSeen) (e : LiveEvent) (reply : LiveReply) (new : LiveSeen) → MayBeBehind e → MatchOption o (Does old e reply new) (λ x. (reply ≡ r.Mig x) × (new ≡ old)) → Served o old e reply new
  serves_late None old e reply new may a = let d = does_late old e reply new may a in record { still = d.still; among = d.among; serves = d.does }
  serves_late (Some x) old e reply new may a = record { still = late; among = rw a.0 all_late; serves = (a.0, ap L a.1) }

pub still_among : (reply : LiveReply) (late pages : List ℕ) → AreAmong late pages → AreAmong (still_behind reply late) (still_behind reply pages)
still_among (r.Begun k) late pages among = λ n is. is
still_among _ late pages among = among
