-- A machine that is sent, and its sets, after each call.
use Rattle.std.proofs.Common.{◌≡◌, ◌≢◌, ℕ, zero, suc, ◌+◌, ◌*◌, ◌<◌, ◌≤◌, ◌^◌, Bool, true, false, List, [], ◌∷◌, length, map, replicate, set, None, Some, refl, sym, ap, subst, ◌∙◌, arith}
use Rattle.std.proofs.lemmas.Bool.{eq-eqb}
use Rattle.std.proofs.lemmas.List.{length-set, length-replicate}
use Rattle.dirtylog.specs.Members.{HasNone, has}
use Rattle.guestmem.specs.Item.{Item, after_all, page, sector}
use Rattle.machine.specs.Applied.{IsApplied, IsAppliedLogged, MayItems}
use Rattle.machine.specs.Effect.{items_of}
use Rattle.machine.specs.Layout.{IsItemIn, Layout, firsts_of, layout_of, number_in, number_of, pages_of, size_of}
use Rattle.machine.specs.Parked.{IsAppliedQuietly}
use Rattle.machine.specs.Seen.{Seen, state_of}
use Rattle.machine.specs.Sound.{IsSound}
use Rattle.machine.specs.State.{MachineState}
use Rattle.machine.specs.declared.event.Event.{Event}
use Rattle.machine.specs.declared.reply.Reply.{Reply}
use Rattle.machine.proofs.Numbering.{in_layout, number_below, same_layout}
use Rattle.machine.proofs.ParkedCalls.{untouched}
use Rattle.machine.proofs.Quiet.{IsQuiet, unlogged}
use Rattle.wire.specs.Sinks.{Digested, SinkState}
use Rattle.sender.specs.Calls.{EndsRound, Serves, with_items}
use Rattle.sender.specs.Dirty.{HasFirst, after_taking, may_take}
use Rattle.sender.specs.LiveState.{LiveSeen, last_round, refusal_for}
use Rattle.sender.specs.Stopping.{IsLive, RoundFits, SetsFit}
use Rattle.sender.specs.declared.dirty.Dirty.{Dirty}
use Rattle.sender.specs.declared.phase.Phase.{Phase}
use Rattle.sender.specs.declared.phase.Phase.TheVariants as phases
use Rattle.sender.specs.declared.event.LiveEvent.{LiveEvent}
use Rattle.sender.specs.declared.event.LiveEvent.TheVariants.{Guest, EndRound}
use Rattle.sender.specs.declared.event.LiveReply.TheVariants as r
use Rattle.sender.specs.declared.mig_error.MigError.{MigError}
use Rattle.sender.specs.declared.mig_error.MigError.TheVariants.{AlreadyStopped}
use Rattle.sender.proofs.Numbers.{length-firsts}
use Rattle.sender.proofs.Parts.{within_length}

-- A call that is not refused comes before the stream is closed.
pub going : (p : Phase) (e : LiveEvent) → refusal_for p e ≡ None → p ≢ phases.Stopped
going phases.Fresh e free is = cc
going (phases.Open k) e free is = cc
going phases.Failed e free is = cc
going phases.Stopped e free is = cc

pub member_below : (s : List Bool) (i : ℕ) → has s i ≡ true → i < length s
member_below [] i is = cc
member_below (b ∷ s) zero is = omega arith
member_below (b ∷ s) (suc i) is = omega (arith, member_below s i is)

-- What is no member stays none.
pub still_none : (s : List Bool) (n k : ℕ) → has s k ≡ false → has (set s n false) k ≡ false
still_none [] n k none = none
still_none (b ∷ s) zero zero none = refl
still_none (b ∷ s) zero (suc k) none = none
still_none (b ∷ s) (suc n) zero none = none
still_none (b ∷ s) (suc n) (suc k) none = still_none s n k none

-- A new machine that is sent.
pub live_first : (machine : Seen) (left set_ : List Bool) (firsts : List ℕ) (size : ℕ) → IsSound (state_of machine) → firsts ≡ firsts_of (layout_of (state_of machine)) → size ≡ size_of (layout_of (state_of machine)) → size < 2 ^ 64
    → left ≡ replicate size false → set_ ≡ replicate size false → IsLive machine phases.Fresh left set_ firsts 0
live_first machine left set_ firsts size sound are is few l s =
    let left_long : length left ≡ size = ap length l ∙ length-replicate size false in
    let set_long : length set_ ≡ size = ap length s ∙ length-replicate size false in
    record {
      sound = sound;
      sets = record {
        few = omega (arith, left_long, few);
        due_size = left_long ∙ is;
        dirty_size = set_long ∙ is;
        firsts_are = are;
        round = tt;
        reached = omega arith;
        passed = λ k below. absurd (omega (arith, below));
      };
    }

-- The sets keep their lengths, and the next due item is looked for from another number on.
pub fit_next : (l : Layout) (p q : Phase) (due new_due dirty new_dirty : List Bool) (firsts new_firsts : List ℕ) (at new_at : ℕ) → SetsFit l p due dirty firsts at → length new_due ≡ length due → length new_dirty ≡ length dirty → new_firsts ≡ firsts → RoundFits q
    → new_at ≤ length new_due → ((k : ℕ) → k < new_at → has new_due k ≡ false) → SetsFit l q new_due new_dirty new_firsts new_at
fit_next l p q due new_due dirty new_dirty firsts new_firsts at new_at sets due_long dirty_long firsts_same round reached passed = record {
  few = omega (arith, due_long, sets.few);
  due_size = due_long ∙ sets.due_size;
  dirty_size = dirty_long ∙ sets.dirty_size;
  firsts_are = firsts_same ∙ sets.firsts_are;
  round = round;
  reached = reached;
  passed = passed;
}

-- The machine is another of the same layout.
pub live_on : (old new : Seen) (p : Phase) (due dirty : List Bool) (firsts : List ℕ) (at : ℕ) → IsLive old p due dirty firsts at → IsSound (state_of new) → layout_of (state_of new) ≡ layout_of (state_of old) → IsLive new p due dirty firsts at
live_on old new p due dirty firsts at live sound same = record { sound = sound; sets = subst (λ l. SetsFit l p due dirty firsts at) (sym same) live.sets }

pub live_same : (old new : Seen) (p : Phase) (due dirty : List Bool) (firsts : List ℕ) (at : ℕ) → IsLive old p due dirty firsts at → state_of new ≡ state_of old → IsLive new p due dirty firsts at
live_same old new p due dirty firsts at live state = live_on old new p due dirty firsts at live (subst IsSound (sym state) live.sound) (ap layout_of state)

-- Only the phase is another, or the marks of the disks.
pub live_again : (old new : Seen) (p q : Phase) (due dirty : List Bool) (firsts : List ℕ) (at : ℕ) → IsLive old p due dirty firsts at → state_of new ≡ state_of old → RoundFits q → IsLive new q due dirty firsts at
live_again old new p q due dirty firsts at live state round =
    let same = live_same old new p due dirty firsts at live state in
    let sets = same.sets in
    record { sound = same.sound; sets = fit_next (layout_of (state_of new)) p q due due dirty dirty firsts firsts at at sets refl refl refl round sets.reached sets.passed }

-- An item left both sets.
pub live_sent : (old new : Seen) (p : Phase) (due new_due dirty new_dirty : List Bool) (firsts : List ℕ) (at n : ℕ) → IsLive old p due dirty firsts at → state_of new ≡ state_of old → new_due ≡ set due n false → length new_dirty ≡ length dirty
    → IsLive new p new_due new_dirty firsts at
live_sent old new p due new_due dirty new_dirty firsts at n live state d dirty_long =
    let same = live_same old new p due dirty firsts at live state in
    let sets = same.sets in
    let due_long : length new_due ≡ length due = ap length d ∙ length-set due n false in
    record {
      sound = same.sound;
      sets = fit_next (layout_of (state_of new)) p p due new_due dirty new_dirty firsts firsts at at sets due_long dirty_long refl sets.round (omega (arith, due_long, sets.reached)) (λ k below. rw d (still_none due n k (sets.passed k below)));
    }

-- Every set is another.
pub live_begun : (machine : Seen) (p q : Phase) (due new_due dirty new_dirty : List Bool) (firsts : List ℕ) (at : ℕ) → IsLive machine p due dirty firsts at → length new_due ≡ length due → length new_dirty ≡ length dirty → RoundFits q → IsLive machine q new_due new_dirty firsts 0
live_begun machine p q due new_due dirty new_dirty firsts at live due_long dirty_long round =
    record { sound = live.sound; sets = fit_next (layout_of (state_of machine)) p q due new_due dirty new_dirty firsts firsts at 0 live.sets due_long dirty_long refl round (omega arith) (λ k below. absurd (omega (arith, below))) }

-- The log may be told of every item.
first_of : (m : MachineState) (firsts : List ℕ) (i : Item) → firsts ≡ firsts_of (layout_of m) → IsItemIn (layout_of m) i → HasFirst firsts i
first_of m firsts (page n) are within = tt
first_of m firsts (sector dev n) are within =
    let below = within_length (map length m.disks) dev n within in
    omega (arith, below, ap length are, length-firsts (map length m.disks) (layout_of m).pages)

pub may_named : (m : MachineState) (d : Dirty) (p : Phase) (due : List Bool) (at : ℕ) → SetsFit (layout_of m) p due d.set d.firsts.items at → length m.ram ≡ 4096 * pages_of m → MayItems may_take d m
may_named m d p due at sets whole = λ i there.
    let within : IsItemIn (layout_of m) i = in_layout m i whole there in
    let below : number_of (layout_of m) i < length d.set = subst (λ n. number_of (layout_of m) i < n) (sym sets.dirty_size) (number_below (layout_of m) i within) in
    record {
      first = first_of m d.firsts.items i sets.firsts_are within;
      place = subst (λ firsts. number_in firsts i < length d.set) (sym sets.firsts_are) below;
      few = omega (arith, sets.few, sets.due_size, sets.dirty_size);
    }

pub may_all : (machine : Seen) (d : Dirty) (p : Phase) (due : List Bool) (at : ℕ) → IsLive machine p due d.set d.firsts.items at → MayItems may_take d (state_of machine)
may_all machine d p due at live = may_named (state_of machine) d p due at live.sets live.sound.whole_pages

-- The log after a step.
pub all_noted : (d : Dirty) (is : List Item) → after_all after_taking d is ≡ record d { set = with_items d.firsts.items d.set is }
all_noted d [] = refl
all_noted d (i ∷ is) = all_noted (after_taking d i) is

pub length-with_items : (firsts : List ℕ) (s : List Bool) (is : List Item) → length (with_items firsts s is) ≡ length s
length-with_items firsts s [] = refl
length-with_items firsts s (i ∷ is) = length-with_items firsts (set s (number_in firsts i) true) is ∙ length-set s (number_in firsts i) true

pub guest_free : (p : Phase) (e : Event) → p ≢ phases.Stopped → refusal_for p (Guest e) ≡ None
guest_free phases.Fresh e open_still = refl
guest_free (phases.Open k) e open_still = refl
guest_free phases.Stopped e open_still = absurd (open_still refl)
guest_free phases.Failed e open_still = refl

-- After a stop that closed the stream the guest's events are refused.
pub closed_refuses : (p : Phase) (e : Event) → p ≡ phases.Stopped → refusal_for p (Guest e) ≡ Some AlreadyStopped
closed_refuses p e closed = rw closed refl

pub guest_refused : (s : LiveSeen) (e : Event) (x : MigError) → (x ≡ AlreadyStopped) × (s.phase ≡ phases.Stopped) → Serves s (Guest e) (r.Mig x) s
guest_refused s e x closed =
    rw (closed_refuses s.phase e closed.1) (ap (λ (y : MigError). r.Mig y) closed.0, refl)

module _ (machine next : Seen) (d new : Dirty) (phase : Phase) (due : List Bool) (at : ℕ) (e : Event) (reply : Reply) (live : IsLive machine phase due d.set d.firsts.items at) (h : IsAppliedLogged after_taking machine d e reply next new) where
  noted : new ≡ record d { set = with_items d.firsts.items d.set (items_of h.is_applied.effect) }
  noted = h.logged ∙ all_noted d (items_of h.is_applied.effect)

  pub live_guest : IsLive next phase due new.set new.firsts.items at
  live_guest =
      let same = live_on machine next phase due d.set d.firsts.items at live h.is_applied.sound (same_layout (state_of machine) (state_of next) h.is_applied.shape) in
      let long = ap (λ (x : Dirty). length x.set) noted ∙ length-with_items d.firsts.items d.set (items_of h.is_applied.effect) in
      record {
        sound = same.sound;
        sets = fit_next (layout_of (state_of next)) phase phase due due d.set new.set d.firsts.items new.firsts.items at at same.sets refl long (ap (λ (x : Dirty). x.firsts.items) noted) same.sets.round same.sets.reached same.sets.passed;
      }

  pub dirty_noted : new.set ≡ with_items (firsts_of (layout_of (state_of machine))) d.set (items_of h.is_applied.effect)
  dirty_noted = ap (λ (x : Dirty). x.set) noted ∙ ap (λ (fs : List ℕ). with_items fs d.set (items_of h.is_applied.effect)) live.sets.firsts_are

  pub guest_served : (digest : Digested) (out : SinkState) → phase ≢ phases.Stopped → Serves (record { machine = machine; phase = phase; due = due; dirty = d.set; digest = digest; out = out }) (Guest e) (r.Guest reply) (record { machine = next; phase = phase; due = due; dirty = new.set; digest = digest; out = out })
  guest_served digest out open_still = rw (guest_free phase e open_still) (record {
    is_applied = h.is_applied;
    dirty = dirty_noted;
    rest = refl;
  })

-- What an event that writes into no item makes of it.
pub live_quiet : (machine next : Seen) (d : Dirty) (phase : Phase) (due : List Bool) (at : ℕ) (e : Event) (reply : Reply) → IsLive machine phase due d.set d.firsts.items at → IsApplied machine e reply next → IsQuiet e → IsLive next phase due d.set d.firsts.items at
live_quiet machine next d phase due at e reply live h quiet = live_guest machine next d d phase due at e reply live (unlogged after_taking machine next d e reply quiet h)

pub quiet_served : (machine next : Seen) (phase : Phase) (due dirty : List Bool) (digest : Digested) (out : SinkState) (e : Event) (reply : Reply) → IsApplied machine e reply next → IsQuiet e → phase ≢ phases.Stopped
    → Serves (record { machine = machine; phase = phase; due = due; dirty = dirty; digest = digest; out = out }) (Guest e) (r.Guest reply) (record { machine = next; phase = phase; due = due; dirty = dirty; digest = digest; out = out })
quiet_served machine next phase due dirty digest out e reply h quiet open_still =
    let quietly : IsAppliedQuietly machine e reply next = untouched machine next e reply quiet h in
    rw (guest_free phase e open_still) (record {
      is_applied = quietly.applied;
      dirty = rw quietly.untouched refl;
      rest = refl;
    })

-- The end of a round.
no_members : (s : List Bool) (n : ℕ) → length s ≡ n → HasNone s → s ≡ replicate n false
no_members [] zero e none = refl
no_members [] (suc n) e none = absurd (omega (arith, e))
no_members (b ∷ s) zero e none = absurd (omega (arith, e))
no_members (b ∷ s) (suc n) e none =
    let f : length s ≡ n = omega (arith, e) in
    let head : b ≡ false = none 0 in
    rw (head, ← no_members s n f (λ k. none (suc k))) refl

not_last : (phase : Phase) (round : ℕ) → phase ≡ phases.Open round → refusal_for phase EndRound ≡ None → round ≢ last_round
not_last phase round open_is free is =
    let free' = rw open_is at free in
    let h = rw (eq-eqb round last_round is) at free' in cc

pub served_round : (old new : LiveSeen) (k : ℕ) → refusal_for old.phase EndRound ≡ None → HasNone old.due → EndsRound old k new → Serves old EndRound (r.Begun k) new
served_round old new k free none ends = rw free (none, ends)

pub round_fits : (phase : Phase) (round : ℕ) → phase ≡ phases.Open round → RoundFits phase → refusal_for phase EndRound ≡ None → round + 1 ≤ last_round
round_fits phase round open_is fits free =
    let below : round ≤ last_round = rw open_is at fits in
    let some : round ≢ last_round = not_last phase round open_is free in
    omega (arith, below, some)
