-- A step over a window, of a machine that is being migrated.
use Rattle.std.proofs.Common.{◌≡◌, ◌≢◌, ℕ, ◌*◌, Bool, List, length, refl, sym, ap, subst, ◌∙◌, arith}
use Rattle.std.specs.Prelude.{Err, Ok, Result}
use Rattle.region.specs.declared.region.Region.{Region}
use Rattle.machine.specs.Applied.{MayItems}
use Rattle.machine.specs.Beside.{IsLoggedOver, window_memory}
use Rattle.machine.specs.Effect.{items_of}
use Rattle.machine.specs.Known.{IsSomeRam, Lent}
use Rattle.machine.specs.Layout.{Layout}
use Rattle.machine.specs.Parked.{ParkedSeen, back_with}
use Rattle.machine.specs.Seen.{Seen, state_of}
use Rattle.machine.specs.Stepped.{reply_in}
use Rattle.machine.specs.declared.event.Event.TheVariants.{Step}
use Rattle.machine.specs.declared.reply.Reply.{Reply}
use Rattle.machine.specs.declared.stepped.Stepped.{Stepped}
use Rattle.machine.proofs.Numbering.{same_layout}
use Rattle.wire.specs.Sinks.{Digested, SinkState}
use Rattle.sender.specs.Beside.{IsLiveMadeOver, TriesOver}
use Rattle.sender.specs.Calls.{with_items}
use Rattle.sender.specs.Dirty.{after_taking, may_take}
use Rattle.sender.specs.Parked.{LiveParkedSeen, parked_layout}
use Rattle.sender.specs.Stopping.{SetsFit}
use Rattle.sender.specs.declared.dirty.Dirty.{Dirty}
use Rattle.sender.specs.declared.mig_error.MigError.{MigError}
use Rattle.sender.specs.declared.mig_error.MigError.TheVariants.{AlreadyStopped}
use Rattle.sender.specs.declared.phase.Phase.{Phase}
use Rattle.sender.specs.declared.phase.Phase.TheVariants as phases
use Rattle.sender.proofs.Living.{all_noted, closed_refuses, fit_next, guest_free, length-with_items, may_named}
use Rattle.sender.proofs.Parking.{layout_is, some_still}

pub may_over : (m : Seen) (p : ParkedSeen) (phase : Phase) (due : List Bool) (d : Dirty) (at : ℕ) → SetsFit (parked_layout p) phase due d.set d.firsts.items at → length m.memory.bytes ≡ 4096 * length p.memory → m.devices ≡ p.devices → MayItems may_take d (state_of m)
may_over m p phase due d at was whole devices =
    may_named (state_of m) d phase due at (subst (λ (l : Layout). SetsFit l phase due d.set d.firsts.items at) (sym (layout_is m p whole (sym devices))) was) (omega (arith, whole))

module _ (p next : ParkedSeen) (window left : Region) (dev pick : ℕ) (reply : Reply) (phase : Phase) (due : List Bool) (d new : Dirty) (at : ℕ) (was : SetsFit (parked_layout p) phase due d.set d.firsts.items at) (h : IsLoggedOver after_taking p window d dev pick reply left next new) where
  noted : new ≡ record d { set = with_items d.firsts.items d.set (items_of h.made.applied.effect) }
  noted = h.logged ∙ all_noted d (items_of h.made.applied.effect)

  pub made_over : (digest : Digested) (out : SinkState)
      → IsLiveMadeOver (record { machine = p; phase = phase; due = due; dirty = d.set; digest = digest; out = out }) window dev pick reply left (record { machine = next; phase = phase; due = due; dirty = new.set; digest = digest; out = out })
  made_over digest out = record {
    made = h.made;
    dirty = ap (λ (x : Dirty). x.set) noted ∙ ap (λ (fs : List ℕ). with_items fs d.set (items_of h.made.applied.effect)) was.firsts_are;
    rest = refl;
  }

  pub fit_over : length window.content ≡ 4096 * length p.memory → SetsFit (parked_layout next) phase due new.set new.firsts.items at
  fit_over whole =
      let later = h.made.applied.later in
      let old = back_with p (window_memory p window) in
      let after = back_with next h.made.after in
      let size : length h.made.after.bytes ≡ 4096 * length next.memory = omega (arith, whole, later.bytes, later.versions, ap length h.made.lent.versions_are) in
      let same : parked_layout p ≡ parked_layout next = sym (layout_is old p whole refl) ∙ sym (same_layout (state_of old) (state_of after) h.made.applied.shape) ∙ layout_is after next size refl in
      let long : length new.set ≡ length d.set = ap (λ (x : Dirty). length x.set) noted ∙ length-with_items d.firsts.items d.set (items_of h.made.applied.effect) in
      let sets : SetsFit (parked_layout next) phase due d.set d.firsts.items at = subst (λ (l : Layout). SetsFit l phase due d.set d.firsts.items at) same was in
      fit_next (parked_layout next) phase phase due due d.set new.set d.firsts.items new.firsts.items at at sets refl long (ap (λ (x : Dirty). x.firsts.items) noted) sets.round sets.reached sets.passed

  pub some_over : IsSomeRam (Lent p.memory) → IsSomeRam (Lent next.memory)
  some_over some = some_still p.memory next.memory (omega (arith, h.made.applied.later.versions, ap length h.made.lent.versions_are)) some

-- The call: refused by the phase, or made.
pub over_refused : (p : LiveParkedSeen) (window : Region) (dev pick : ℕ) (sent : List ℕ) (x : MigError) → (x ≡ AlreadyStopped) × (p.phase ≡ phases.Stopped) → TriesOver p window dev pick (Err x) sent window p
over_refused p window dev pick sent x closed =
    let P : MigError → Result Stepped MigError = λ y. Err y in
    rw (closed_refuses p.phase (Step dev pick) closed.1) (ap P closed.0, refl, refl)

pub over_made : (p next : LiveParkedSeen) (window left : Region) (dev pick : ℕ) (stepped : Stepped) (sent : List ℕ) → p.phase ≢ phases.Stopped → IsLiveMadeOver p window dev pick (reply_in stepped sent) left next → TriesOver p window dev pick (Ok stepped) sent left next
over_made p next window left dev pick stepped sent goes made = rw (guest_free p.phase (Step dev pick) goes) made
