-- A machine that is sent, after an event with a log of the caller's.
use Rattle.std.proofs.Common.{◌≡◌, ◌≢◌, ℕ, Bool, List, Option, None, Some, refl, ap, ◌∙◌}
use Rattle.std.specs.Prelude.{MatchOption}
use Rattle.guestmem.specs.Both.{both_of}
use Rattle.guestmem.specs.Item.{Item, after_all}
use Rattle.guestmem.specs.declared.both.Both.{Both}
use Rattle.guestmem.proofs.BothLogs.{both_take}
use Rattle.machine.specs.Applied.{IsAppliedLogged, MayItems}
use Rattle.machine.specs.Effect.{items_of}
use Rattle.machine.specs.Seen.{Seen, state_of}
use Rattle.machine.specs.declared.event.Event.{Event}
use Rattle.machine.specs.declared.reply.Reply.{Reply}
use Rattle.wire.specs.Sinks.{Digested, SinkState}
use Rattle.sender.specs.Calls.{Does, Guests}
use Rattle.sender.specs.Dirty.{after_taking, may_take}
use Rattle.sender.specs.LiveState.{LiveSeen, refusal_for}
use Rattle.sender.specs.Logged.{GuestsLogged, LoggedIsServed, ServesLogged}
use Rattle.sender.specs.Stopping.{IsLive}
use Rattle.sender.specs.declared.dirty.Dirty.{Dirty}
use Rattle.sender.specs.declared.phase.Phase.{Phase}
use Rattle.sender.specs.declared.phase.Phase.TheVariants as phases
use Rattle.sender.specs.declared.event.LiveEvent.TheVariants.{Guest}
use Rattle.sender.specs.declared.event.LiveReply.{LiveReply}
use Rattle.sender.specs.declared.event.LiveReply.TheVariants as r
use Rattle.sender.specs.declared.mig_error.MigError.{MigError}
use Rattle.sender.specs.declared.mig_error.MigError.TheVariants.{AlreadyStopped}
use Rattle.sender.proofs.Living.{closed_refuses, dirty_noted, guest_free, live_guest, may_all}

abbrev pub both_after : {L : Type 0} → (L → Item → L) → Both Dirty L → Item → Both Dirty L
both_after after both i = both_of (after_taking both.first i) (after both.second i)

-- Both may be told of every item.
pub may_both : {L : Type 0} (may : L → Item → Type 0) (machine : Seen) (d : Dirty) (log lent : L) (phase : Phase) (due : List Bool) (at : ℕ) → IsLive machine phase due d.set d.firsts.items at → lent ≡ log → MayItems may log (state_of machine)
    → MayItems (λ (b : Both Dirty L). λ (i : Item). may_take b.first i × may b.second i) (both_of d lent) (state_of machine)
may_both may machine d log lent phase due at live is told = λ i there. (may_all machine d phase due at live i there, rw is (told i there))

module _ {L : Type 0} (after : L → Item → L) (old new : Seen) (d : Dirty) (log lent : L) (told : Both Dirty L) (e : Event) (reply : Reply) (is : lent ≡ log) (h : IsAppliedLogged (both_after after) old (both_of d lent) e reply new told) where
  both_told : told ≡ both_of (after_all after_taking d (items_of h.is_applied.effect)) (after_all after log (items_of h.is_applied.effect))
  both_told = h.logged ∙ ap (λ (x : L). after_all (both_after after) (both_of d x) (items_of h.is_applied.effect)) is ∙ both_take after_taking after d log (items_of h.is_applied.effect)

  first_told : IsAppliedLogged after_taking old d e reply new told.first
  first_told = record { is_applied = h.is_applied; logged = ap (λ (b : Both Dirty L). b.first) both_told }

  second_told : told.second ≡ after_all after log (items_of h.is_applied.effect)
  second_told = ap (λ (b : Both Dirty L). b.second) both_told

  pub live_logged : (phase : Phase) (due : List Bool) (at : ℕ) → IsLive old phase due d.set d.firsts.items at → IsLive new phase due told.first.set told.first.firsts.items at
  live_logged phase due at live = live_guest old new d told.first phase due at e reply live first_told

  pub logged_served : (phase : Phase) (due : List Bool) (at : ℕ) → IsLive old phase due d.set d.firsts.items at → (digest : Digested) (out : SinkState) → phase ≢ phases.Stopped
      → ServesLogged after (record { machine = old; phase = phase; due = due; dirty = d.set; digest = digest; out = out }) log e (r.Guest reply) (record { machine = new; phase = phase; due = due; dirty = told.first.set; digest = digest; out = out }) told.second
  unfolding first_told
  logged_served phase due at live digest out open_still = rw (guest_free phase e open_still) (record {
    guest = record {
      is_applied = h.is_applied;
      dirty = dirty_noted old new d told.first phase due at e reply live first_told;
      rest = refl;
    };
    logged = second_told;
  })

-- After a stop that closed the stream an event is refused, and the log stays.
pub logged_refused : {L : Type 0} (after : L → Item → L) (s : LiveSeen) (log : L) (e : Event) (x : MigError) → (x ≡ AlreadyStopped) × (s.phase ≡ phases.Stopped) → ServesLogged after s log e (r.Mig x) s log
logged_refused after s log e x closed =
    rw (closed_refuses s.phase e closed.1) (ap (λ (y : MigError). r.Mig y) closed.0, refl, refl)

module _ {L : Type 0} (after : L → Item → L) (old : LiveSeen) (log : L) (e : Event) (new : LiveSeen) (new_log : L) where
  guests_of : (reply : LiveReply) → GuestsLogged after old log e reply new new_log → Guests old e reply new
  guests_of (r.Guest reply) h = h.guest
  guests_of _ h = h

  served_of : (reply : LiveReply) (o : Option MigError) → MatchOption o (GuestsLogged after old log e reply new new_log) (λ x. (reply ≡ r.Mig x) × (new ≡ old) × (new_log ≡ log)) → MatchOption o (Does old (Guest e) reply new) (λ x. (reply ≡ r.Mig x) × (new ≡ old))
  served_of reply None h = guests_of reply h
  served_of reply (Some x) h = (h.0, h.1)

pub logged_is_served : {L : Type 0} (after : L → Item → L) → LoggedIsServed after
logged_is_served after old log e reply new new_log h = served_of after old log e new new_log reply (refusal_for old.phase (Guest e)) h
