-- A stopped machine's writer was flushed after its last byte, and no call after the stop writes more.
use Rattle.std.proofs.Common.{◌≡◌, ◌≢◌, ℕ, true, refl, sym, ap, subst, ◌∙◌, inl, inr}
use Rattle.sender.specs.Calls.{AfterBegin, AfterCopy, AfterRound, AfterStop, Does, Guests, IsUnread, Serves}
use Rattle.sender.specs.LiveState.{LiveSeen, refusal_for}
use Rattle.sender.specs.declared.phase.Phase.{Phase}
use Rattle.sender.specs.declared.phase.Phase.TheVariants as phases
use Rattle.machine.specs.declared.event.Event.{Event}
use Rattle.sender.specs.declared.event.LiveEvent.{LiveEvent}
use Rattle.sender.specs.declared.event.LiveEvent.TheVariants.{Guest, Begin, Copy, EndRound, Stop}
use Rattle.sender.specs.declared.event.LiveReply.{LiveReply}
use Rattle.sender.specs.declared.event.LiveReply.TheVariants as r
use Rattle.sender.specs.declared.mig_error.MigError.TheVariants as errors
use Rattle.sender.proofs.Fresh.{told}
use Rattle.sender.proofs.Living.{going}

-- Once a stop answered Ok the writer is flushed.
abbrev pub IsFlushedIfStopped : LiveSeen → Type 0
IsFlushedIfStopped s = s.phase ≡ phases.Stopped → s.out.is_flushed ≡ true

-- The phase is that of before, which was not stopped.
not_now : (old new : LiveSeen) → new.phase ≡ old.phase → old.phase ≢ phases.Stopped → IsFlushedIfStopped new
not_now old new same going_on is = absurd (going_on (sym same ∙ is))

unread_now : (old mid new : LiveSeen) (dev n : ℕ) → IsUnread mid dev n new → mid.phase ≡ old.phase → old.phase ≢ phases.Stopped → IsFlushedIfStopped new
unread_now old mid new dev n u same going_on = not_now old new (ap (λ (x : LiveSeen). x.phase) u.rest ∙ same) going_on

-- Another phase than that of a stop.
other_phase : (new : LiveSeen) (p : Phase) → new.phase ≡ p → p ≢ phases.Stopped → IsFlushedIfStopped new
other_phase new p same other is = absurd (other (sym same ∙ is))

module _ (old new : LiveSeen) (going_on : old.phase ≢ phases.Stopped) where
  same_seen : new ≡ old → IsFlushedIfStopped new
  same_seen same = not_now old new (ap (λ (x : LiveSeen). x.phase) same) going_on

  guest_flushed : (e : Event) (reply : LiveReply) → Guests old e reply new → IsFlushedIfStopped new
  guest_flushed e (r.Guest reply) d = not_now old new (ap (λ (x : LiveSeen). x.phase) d.rest) going_on
  guest_flushed e _ d = absurd d

  begin_flushed : (reply : LiveReply) → AfterBegin old reply new → IsFlushedIfStopped new
  begin_flushed (r.Begun k) d = other_phase new (phases.Open 1) d.1.phase (λ is. cc)
  begin_flushed (r.Mig errors.StreamFailed) d = other_phase new phases.Failed d.phase (λ is. cc)
  begin_flushed _ d = absurd d

  copy_flushed : (reply : LiveReply) → AfterCopy old reply new → IsFlushedIfStopped new
  copy_flushed (r.Copied item) d = not_now old new d.sent.phase going_on
  copy_flushed r.RoundDone d = same_seen d.1
  copy_flushed (r.Mig (errors.DiskFailed dev n)) d = unread_now old old new dev n d.unread refl going_on
  copy_flushed (r.Mig errors.StreamFailed) d = other_phase new phases.Failed d.phase (λ is. cc)
  copy_flushed _ d = absurd d

  round_flushed : (reply : LiveReply) → AfterRound old reply new → IsFlushedIfStopped new
  round_flushed (r.Begun k) d = other_phase new (phases.Open k) d.1.phase (λ is. cc)
  round_flushed r.RoundOpen d = same_seen d.1
  round_flushed (r.Mig errors.StreamFailed) d = other_phase new phases.Failed d.phase (λ is. cc)
  round_flushed _ d = absurd d

  stop_flushed : (reply : LiveReply) → AfterStop old reply new → IsFlushedIfStopped new
  stop_flushed (r.Stopped pages sectors) d = λ _. d.flushed
  stop_flushed (r.Mig (errors.DiskFailed dev n)) d = unread_now old d.between new dev n d.unread d.are_sent.phase going_on
  stop_flushed (r.Mig errors.StreamFailed) d = other_phase new phases.Failed d.phase (λ is. cc)
  stop_flushed _ d = absurd d

  does_flushed : (e : LiveEvent) (reply : LiveReply) → Does old e reply new → IsFlushedIfStopped new
  does_flushed (Guest e) reply d = guest_flushed e reply d
  does_flushed Begin reply d = begin_flushed reply d
  does_flushed Copy reply d = copy_flushed reply d
  does_flushed EndRound reply d = round_flushed reply d
  does_flushed Stop reply d = stop_flushed reply d

pub stays_flushed : (old new : LiveSeen) (e : LiveEvent) (reply : LiveReply) → IsFlushedIfStopped old → Serves old e reply new → IsFlushedIfStopped new
stays_flushed old new e reply was s = elim (told (refusal_for old.phase e) (Does old e reply new) (λ x. (reply ≡ r.Mig x) × (new ≡ old)) s) as (λ _. IsFlushedIfStopped new)
    [ inl a ↦ does_flushed old new (going old.phase e a.0) e reply a.1 | inr b ↦ (let P : LiveSeen → Type 0 = IsFlushedIfStopped in subst P (sym b.2.1) was) ]
