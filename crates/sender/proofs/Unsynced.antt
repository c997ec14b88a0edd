-- A flush that fails in place of its step, and the history.
use Rattle.std.proofs.Common.{◌≡◌, ◌≢◌, ℕ, List, Bool, true, false, ◌||◌, refl, ap, sym, subst, ◌∙◌}
use Rattle.std.specs.Prelude.{All, Err, IsTrue, Ok, Result}
use Rattle.std.proofs.lemmas.List.{append-nil}
use Rattle.machine.specs.Effect.{Effect, applied}
use Rattle.machine.specs.Seen.{Marks, Seen, state_of}
use Rattle.machine.specs.Sound.{IsSound}
use Rattle.machine.specs.State.{MachineState}
use Rattle.machine.specs.Step.{HasEffect}
use Rattle.machine.specs.Outcome.{disk_failed}
use Rattle.machine.specs.Unsynced.{FailsFlushIf, makes_flush}
use Rattle.machine.specs.declared.event.Event.{Event}
use Rattle.machine.specs.declared.event.Event.TheVariants.{Step}
use Rattle.machine.specs.declared.reply.Reply.{Reply}
use Rattle.machine.specs.declared.reply.Reply.TheVariants.{DiskFailed}
use Rattle.machine.proofs.Numbering.{same_layout}
use Rattle.wire.specs.Sinks.{Digested, SinkState}
use Rattle.wire.specs.Stream.{texts}
use Rattle.sender.specs.Follows.{Relates}
use Rattle.sender.specs.History.{History, has_fault, text, then_came}
use Rattle.sender.specs.LiveState.{HasPlaces, LiveSeen, now}
use Rattle.sender.specs.Stopping.{IsLive}
use Rattle.sender.specs.Taking.{untaken}
use Rattle.sender.specs.Unsynced.{FailsLiveFlush, FailsLiveFlushIf, FailureFollows, FailureGoesOn, TakenFailureFollows, TriesFlush}
use Rattle.sender.specs.declared.event.LiveEvent.TheVariants.{Guest}
use Rattle.sender.specs.declared.event.LiveReply.TheVariants as r
use Rattle.sender.specs.declared.mig_error.MigError.{MigError}
use Rattle.sender.specs.declared.mig_error.MigError.TheVariants.{AlreadyStopped}
use Rattle.sender.specs.declared.phase.Phase.{Phase}
use Rattle.sender.specs.declared.phase.Phase.TheVariants as phases
use Rattle.sender.proofs.Following.{IsLogged, guest_follows}
use Rattle.sender.proofs.Living.{closed_refuses, guest_free, live_on}
use Rattle.sender.proofs.Taking.{places_untaken}

or_none : (b : Bool) → (b || false) ≡ b
or_none true = refl
or_none false = refl

pub no_text : (m : MachineState) (h : History) (e : Event) (reply : Reply) (f : Effect) → text m (then_came h (Guest e) (r.Guest reply) f) ≡ text m h
unfolding texts
no_text m h e reply f = append-nil (text m h)

-- After a stop that closed the stream it is refused.
pub flush_refused : (s : LiveSeen) (dev pick : ℕ) (x : MigError) → (x ≡ AlreadyStopped) × (s.phase ≡ phases.Stopped) → TriesFlush s dev pick (Err x) s
flush_refused s dev pick x closed =
    let P : MigError → Result Bool MigError = λ y. Err y in
    rw (closed_refuses s.phase (Step dev pick) closed.1) (ap P closed.0, refl)

module _ (m : MachineState) (h : History) (out : SinkState) (dev pick : ℕ) (old new : LiveSeen) (rel : Relates m h out old) (places : HasPlaces old) (goes : old.phase ≢ phases.Stopped) (f : FailsLiveFlush old dev pick new) where
  logged : IsLogged old (Step dev pick) DiskFailed new
  logged = record {
    effect = f.failed.effect;
    has = f.failed.has;
    changed = f.failed.changed;
    dirty = rw f.failed.untouched (ap (λ (x : LiveSeen). x.dirty) f.rest);
    phase = ap (λ (x : LiveSeen). x.phase) f.rest;
  }

  abbrev next : History
  next = then_came h (Guest (Step dev pick)) (r.Guest DiskFailed) f.failed.effect

  same_out : new.out ≡ old.out
  same_out = ap (λ (x : LiveSeen). x.out) f.rest

  allowed : HasEffect (now old) (Step dev pick) disk_failed DiskFailed f.failed.effect × IsSound (applied (now old) f.failed.effect)
  allowed = (f.failed.has, subst IsSound f.failed.changed f.failed.sound)

  goes_on : FailureGoesOn m h out dev pick new
  unfolding logged
  goes_on =
      let P : MachineState → Type 0 = λ x. HasEffect x (Step dev pick) disk_failed DiskFailed f.failed.effect × IsSound (applied x f.failed.effect) in
      let free = guest_free old.phase (Step dev pick) goes in
      record {
        effect = f.failed.effect;
        relates = record {
          follows = guest_follows m h (Step dev pick) DiskFailed old new rel.follows places logged (ap (λ (x : LiveSeen). x.due) f.rest);
          allowed = (rel.allowed, rw (← rel.follows.phase, free) (subst P rel.follows.machine allowed), tt);
          honest = subst (λ (marks : List Marks). All (λ x. IsTrue x.honest) marks) (sym f.failed.marks) rel.honest;
          fault = λ some. ap (λ (x : LiveSeen). x.phase) f.rest ∙ rel.fault (sym (or_none (has_fault h)) ∙ some);
          count = rw (or_none (has_fault h), same_out) rel.count;
          held = λ none. rw (no_text m h (Step dev pick) DiskFailed f.failed.effect, same_out) (rel.held (sym (or_none (has_fault h)) ∙ none));
          taken = λ none going. rw (no_text m h (Step dev pick) DiskFailed f.failed.effect, ap (λ (x : LiveSeen). x.digest) f.rest) (rel.taken (sym (or_none (has_fault h)) ∙ none) going);
        };
        text_is = no_text m h (Step dev pick) DiskFailed f.failed.effect;
      }

pub failure_follows : FailureFollows
failure_follows m h out dev pick old new rel places goes f = goes_on m h out dev pick old new rel places goes f

pub taken_failure_follows : TakenFailureFollows
taken_failure_follows m h out taken dev pick old new rel places goes f =
    failure_follows m h out dev pick (untaken taken old) (untaken taken new) rel (places_untaken taken old places) goes (record { failed = f.failed; rest = ap (untaken taken) f.rest })

-- What a machine that is being migrated keeps.
pub live_tried : (old new : Seen) (phase : Phase) (due dirty : List Bool) (firsts : List ℕ) (at dev pick : ℕ) (was : Bool) → IsLive old phase due dirty firsts at → FailsFlushIf was old dev pick new → IsLive new phase due dirty firsts at
live_tried old new phase due dirty firsts at dev pick true live f = live_on old new phase due dirty firsts at live f.sound (same_layout (state_of old) (state_of new) f.shape)
live_tried old new phase due dirty firsts at dev pick false live f = subst (λ (x : Seen). IsLive x phase due dirty firsts at) (sym f) live

-- The call.
answered_by : (old new : Seen) (phase : Phase) (due dirty : List Bool) (digest : Digested) (out : SinkState) (dev pick : ℕ) (was : Bool) → FailsFlushIf was old dev pick new
    → FailsLiveFlushIf was (record { machine = old; phase = phase; due = due; dirty = dirty; digest = digest; out = out }) dev pick (record { machine = new; phase = phase; due = due; dirty = dirty; digest = digest; out = out })
answered_by old new phase due dirty digest out dev pick true f = record { failed = f; rest = refl }
answered_by old new phase due dirty digest out dev pick false f = rw f refl

pub answered : (old new : Seen) (phase : Phase) (due dirty : List Bool) (digest : Digested) (out : SinkState) (dev pick : ℕ) (was : Bool) → phase ≢ phases.Stopped → was ≡ makes_flush (state_of old) dev pick → FailsFlushIf was old dev pick new
    → TriesFlush (record { machine = old; phase = phase; due = due; dirty = dirty; digest = digest; out = out }) dev pick (Ok was) (record { machine = new; phase = phase; due = due; dirty = dirty; digest = digest; out = out })
answered old new phase due dirty digest out dev pick was goes is f = rw (guest_free phase (Step dev pick) goes) (is, answered_by old new phase due dirty digest out dev pick was f)
