-- A step over a window with the pieces that are held of it, of a machine that is being migrated.
use Rattle.std.proofs.Common.{◌≡◌, ◌≢◌, ℕ, ◌*◌, Bool, List, length, refl, sym, ap, ◌∙◌}
use Rattle.std.specs.Prelude.{Err, IfErr, IfOk, None, Ok, Result, Some}
use Rattle.region.specs.declared.region.Region.{Region}
use Rattle.machine.specs.Beside.{IsLoggedOver}
use Rattle.machine.specs.Known.{IsSomeRam, Lent}
use Rattle.machine.specs.Parked.{ParkedSeen}
use Rattle.machine.specs.Stepped.{reply_in}
use Rattle.machine.specs.declared.event.Event.TheVariants.{Step}
use Rattle.machine.specs.declared.pieces.NotMade.{NotMade}
use Rattle.machine.specs.declared.stepped.Stepped.{Stepped}
use Rattle.wire.specs.Sinks.{Digested, SinkState}
use Rattle.sender.specs.Beside.{IsLiveMadeOver}
use Rattle.sender.specs.Dirty.{after_taking}
use Rattle.sender.specs.LiveState.{refusal_for}
use Rattle.sender.specs.Parked.{LiveParkedSeen, parked_layout}
use Rattle.sender.specs.Stopping.{SetsFit}
use Rattle.sender.specs.declared.dirty.Dirty.{Dirty}
use Rattle.sender.specs.declared.event.LiveEvent.TheVariants.{Guest}
use Rattle.sender.specs.declared.mig_error.MigError.{MigError}
use Rattle.sender.specs.declared.mig_error.MigError.TheVariants.{AlreadyStopped}
use Rattle.sender.specs.declared.phase.Phase.{Phase}
use Rattle.sender.specs.declared.phase.Phase.TheVariants as phases
use Rattle.sender.proofs.Living.{closed_refuses, guest_free}
use Rattle.sender.proofs.Over.{fit_over, made_over, some_over}

module _ (p next : ParkedSeen) (window left : Region) (dev pick : ℕ) (sent : List ℕ) (phase : Phase) (due : List Bool) (d new : Dirty) (at : ℕ) (was : SetsFit (parked_layout p) phase due d.set d.firsts.items at) where
  -- The call, as far as the pieces go: the step was made, or nothing has changed.
  abbrev Tried : Result Stepped NotMade → Type 0
  Tried r = IfOk r (λ s. IsLoggedOver after_taking p window d dev pick (reply_in s sent) left next new) × IfErr r (λ _. next ≡ p) × IfErr r (λ _. new ≡ d)

  abbrev seen_as : ParkedSeen → List Bool → Digested → SinkState → LiveParkedSeen
  seen_as q set digest out = record { machine = q; phase = phase; due = due; dirty = set; digest = digest; out = out }

  pub fit_tried : (r : Result Stepped NotMade) → Tried r → length window.content ≡ 4096 * length p.memory → SetsFit (parked_layout next) phase due new.set new.firsts.items at
  fit_tried (Ok s) h whole = fit_over p next window left dev pick (reply_in s sent) phase due d new at was h.0 whole
  fit_tried (Err e) h whole = rw (h.1, h.2) was

  pub some_tried : (r : Result Stepped NotMade) → Tried r → IsSomeRam (Lent p.memory) → IsSomeRam (Lent next.memory)
  some_tried (Ok s) h some = some_over p next window left dev pick (reply_in s sent) phase due d new at was h.0 some
  some_tried (Err e) h some = rw h.1 some

  pub made_tried : (r : Result Stepped NotMade) → Tried r → (digest : Digested) (out : SinkState)
      → IfOk r (λ s. IsLiveMadeOver (seen_as p d.set digest out) window dev pick (reply_in s sent) left (seen_as next new.set digest out))
  made_tried (Ok s) h digest out = made_over p next window left dev pick (reply_in s sent) phase due d new at was h.0 digest out
  made_tried (Err e) h digest out = tt

  pub same_tried : (r : Result Stepped NotMade) → Tried r → (digest : Digested) (out : SinkState)
      → IfErr r (λ _. seen_as next new.set digest out ≡ seen_as p d.set digest out)
  same_tried (Ok s) h digest out = tt
  same_tried (Err e) h digest out = rw (h.1, h.2) refl

-- Whether the phase refuses the step.
pub phase_closed : (phase : Phase) (dev pick : ℕ) (x : MigError) → (x ≡ AlreadyStopped) × (phase ≡ phases.Stopped) → refusal_for phase (Guest (Step dev pick)) ≡ Some x
phase_closed phase dev pick x h = closed_refuses phase (Step dev pick) h.1 ∙ ap Some (sym h.0)

pub phase_open : (phase : Phase) (dev pick : ℕ) → phase ≢ phases.Stopped → refusal_for phase (Guest (Step dev pick)) ≡ None
phase_open phase dev pick goes = guest_free phase (Step dev pick) goes
