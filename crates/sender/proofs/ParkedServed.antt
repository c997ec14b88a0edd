-- Calls of a machine that is being migrated, while its RAM is lent.
use Rattle.std.proofs.Common.{◌≡◌, ◌≢◌, ℕ, Bool, true, false, List, refl, sym, ap, subst, ◌∙◌}
use Rattle.std.specs.Prelude.{MatchOption, Option, Some, None, Err, Ok, Result}
use Rattle.region.specs.declared.region.Region.{Region}
use Rattle.guestmem.specs.Memory.{IsMemory, Memory}
use Rattle.machine.specs.Applied.{IsApplied}
use Rattle.machine.specs.Known.{Lent}
use Rattle.machine.specs.Layout.{Layout, layout_of, size_of}
use Rattle.machine.specs.Parked.{IsAppliedUncalled, IsDoneLent, ParkedSeen, back_with, parked_sectors}
use Rattle.machine.specs.Seen.{Seen, state_of}
use Rattle.machine.specs.Sound.{IsSound}
use Rattle.machine.specs.Unsynced.{FailsFlush, FlushesDisk}
use Rattle.machine.specs.declared.event.Event.{Event}
use Rattle.machine.specs.declared.event.Event.TheVariants.{Step}
use Rattle.machine.specs.declared.reply.Reply.{Reply}
use Rattle.machine.proofs.Numbering.{same_layout}
use Rattle.machine.proofs.ParkedCalls.{parked_flush_fails, parked_is_applied, parked_is_flushed, untouched}
use Rattle.machine.proofs.Quiet.{IsQuiet}
use Rattle.sender.specs.Calls.{Serves, guest_reply}
use Rattle.sender.specs.HereOrLent.{EndsOver, FlushesLiveOver, LeavesMachine, LeavesRest, SaysWhether, ServesOver, TriesFlushOver}
use Rattle.sender.specs.LiveState.{HasPlaces, LiveSeen, live_with, now, refusal_for}
use Rattle.sender.specs.Parked.{IsLiveParked, LiveParkedSeen, parked_layout}
use Rattle.sender.specs.ParkedCalls.{AfterParked, EndsLent, FlushesLiveParked, GuestsParked, IsDoneLiveLent, IsServedUncalled, LiveParkedFlushFails, LiveParkedIsFlushed, LiveParkedIsServed, ServesParked, TriesParkedFlush}
use Rattle.sender.specs.Stopping.{SetsFit}
use Rattle.sender.specs.Unsynced.{FailsLiveFlush, FlushesLiveDisk, TriesFlush}
use Rattle.sender.specs.declared.event.LiveEvent.TheVariants.{Guest}
use Rattle.sender.specs.declared.event.LiveReply.{LiveReply}
use Rattle.sender.specs.declared.event.LiveReply.TheVariants as r
use Rattle.sender.specs.declared.mig_error.MigError.{MigError}
use Rattle.sender.specs.declared.phase.Phase.{Phase}
use Rattle.sender.specs.declared.phase.Phase.TheVariants as phases
use Rattle.sender.proofs.Living.{closed_refuses, guest_free}

-- The sets are those of the pages and of the sectors, which stay.
pub sets_stay : (p next : ParkedSeen) (phase : Phase) (due dirty : List Bool) (firsts : List ℕ) (at : ℕ) → SetsFit (parked_layout p) phase due dirty firsts at → next.memory ≡ p.memory → parked_sectors next ≡ parked_sectors p
    → SetsFit (parked_layout next) phase due dirty firsts at
sets_stay p next phase due dirty firsts at fit versions sectors =
    let same : parked_layout next ≡ parked_layout p = rw (versions, sectors) refl in
    subst (λ (l : Layout). SetsFit l phase due dirty firsts at) (sym same) fit

applied_in : (l next : LiveSeen) (e : Event) (reply : Reply) → l.phase ≢ phases.Stopped → Serves l (Guest e) (r.Guest reply) next → IsApplied l.machine e reply next.machine
applied_in l next e reply goes serves = (rw (guest_free l.phase e goes) at serves).is_applied

failed_in : (l next : LiveSeen) (dev pick : ℕ) → l.phase ≢ phases.Stopped → TriesFlush l dev pick (Ok true) next → FailsFlush l.machine dev pick next.machine
failed_in l next dev pick goes tries = (rw (guest_free l.phase (Step dev pick) goes) at tries).1.failed

-- A call whose clauses are said of a machine here or lent, where it is lent.
pub served_parked : (p next : LiveParkedSeen) (e : Event) (result : Result Reply MigError) → IsQuiet e → ServesOver Lent p e (guest_reply result) next → LeavesRest p result next → ServesParked p e (guest_reply result) next
served_parked p next e (Ok reply) quiet h left =
    let goes : p.phase ≢ phases.Stopped = left.runs in
    rw (guest_free p.phase e goes) (record {
      applied = record {
        versions = h.0;
        sectors = left.sectors;
        calls = left.calls;
        applied = λ m mem bytes count. untouched (back_with p.machine m) (back_with next.machine m) e reply quiet (applied_in (live_with p m) (live_with next m) e reply goes (h.1 m mem bytes count));
      };
      rest = left.rest;
    })
served_parked p next e (Err x) quiet h left = rw (closed_refuses p.phase e left.refused.1) (ap (λ (y : MigError). r.Mig y) left.refused.0, left.refused.2)

pub flushed_parked : {T E : Type 0} (p next : LiveParkedSeen) (dev : ℕ) (result : Result T E) → FlushesLiveOver Lent p dev result next → ((m : Memory) → FlushesLiveDisk (live_with p m) dev result (live_with next m)) → next ≡ record p { machine = next.machine } → FlushesLiveParked p dev result next
flushed_parked p next dev result h whatever rest = record { flushes = record { versions = h.0; flushes = λ m. (whatever m).flushes }; rest = rest }

pub tried_parked : (p next : LiveParkedSeen) (dev pick : ℕ) (result : Result Bool MigError) → TriesFlushOver Lent p dev pick result next → LeavesRest p result next → SaysWhether p dev pick result next → TriesParkedFlush p dev pick result next
tried_parked p next dev pick (Ok true) h left says =
    let goes : p.phase ≢ phases.Stopped = left.runs in
    rw (guest_free p.phase (Step dev pick) goes) (
      says.0,
      record {
        failed = record { versions = h.0; sectors = left.sectors; calls = left.calls; failed = λ m mem bytes count. failed_in (live_with p m) (live_with next m) dev pick goes (h.1 m mem bytes count) };
        rest = left.rest;
      },
    )
tried_parked p next dev pick (Ok false) h left says =
    let goes : p.phase ≢ phases.Stopped = left.runs in
    rw (guest_free p.phase (Step dev pick) goes) (says.0, says.1 refl)
tried_parked p next dev pick (Err x) h left says =
    let P : MigError → Result Bool MigError = λ y. Err y in
    rw (closed_refuses p.phase (Step dev pick) left.refused.1) (ap P left.refused.0, left.refused.2)

pub ended_parked : (p next : LiveParkedSeen) (reply : LiveReply) → EndsOver Lent p reply next → LeavesMachine p next → EndsLent p reply next
ended_parked p next reply h left = record { serves = h.1; parked = left.machine; due_size = left.due_size; dirty_size = left.dirty_size; goes = left.goes }

-- What was done with the machine that was lent was done with the one that is sent.
done_live : (l : LiveSeen) (p next : LiveParkedSeen) (region : Region) (does : Seen → Type 0) (does_live : LiveSeen → Type 0) → HasPlaces l → IsLiveParked l region p → next ≡ record p { machine = next.machine } → (was : IsDoneLent l.machine region next.machine does) → IsSound (state_of was.after)
    → layout_of (state_of was.after) ≡ layout_of (now l) → does_live (record l { machine = was.after }) → IsDoneLiveLent l region next does_live
done_live l p next region does does_live places lent rest was sound same done = record {
  after = record l { machine = was.after };
  done = done;
  parked = record { parked = was.parked; rest = rest ∙ ap (λ (x : LiveParkedSeen). record x { machine = next.machine }) lent.rest };
  places = record { sound = sound; few = places.few; due_size = places.due_size ∙ ap size_of (sym same); dirty_size = places.dirty_size ∙ ap size_of (sym same) };
  memory = was.memory;
  phase = refl;
}

done_lent : (l : LiveSeen) (p next : LiveParkedSeen) (region : Region) (e : Event) (reply : Reply) → HasPlaces l → IsMemory l.machine.memory → IsLiveParked l region p → refusal_for l.phase (Guest e) ≡ None → AfterParked p e reply next
    → IsDoneLiveLent l region next (IsServedUncalled l e (r.Guest reply))
done_lent l p next region e reply places mem lent free did =
    let was : IsDoneLent l.machine region next.machine (IsAppliedUncalled l.machine e reply) = parked_is_applied l.machine p.machine next.machine region e reply mem places.sound.bytes lent.parked did.applied in
    let applied = was.done.quietly.applied in
    done_live l p next region (IsAppliedUncalled l.machine e reply) (IsServedUncalled l e (r.Guest reply)) places lent did.rest was applied.sound (same_layout (now l) (state_of was.after) applied.shape) (record {
      serves = rw free (record {
        is_applied = applied;
        dirty = rw was.done.quietly.untouched refl;
        rest = refl;
      });
      calls = was.done.calls;
    })

refused_lent : (l : LiveSeen) (p next : LiveParkedSeen) (region : Region) (e : Event) (reply : LiveReply) (x : MigError) → HasPlaces l → IsLiveParked l region p → refusal_for l.phase (Guest e) ≡ Some x → reply ≡ r.Mig x → next ≡ p
    → IsDoneLiveLent l region next (IsServedUncalled l e reply)
refused_lent l p next region e reply x places lent refused is same = record {
  after = l;
  done = record { serves = rw refused (is, refl); calls = refl };
  parked = subst (λ (q : LiveParkedSeen). IsLiveParked l region q) (sym same) lent;
  places = places;
  memory = refl;
  phase = refl;
}

by_reply : (l : LiveSeen) (p next : LiveParkedSeen) (region : Region) (e : Event) (reply : LiveReply) → HasPlaces l → IsMemory l.machine.memory → IsLiveParked l region p → refusal_for l.phase (Guest e) ≡ None → GuestsParked p e reply next
    → IsDoneLiveLent l region next (IsServedUncalled l e reply)
by_reply l p next region e (r.Guest reply) places mem lent free did = done_lent l p next region e reply places mem lent free did
by_reply l p next region e _ places mem lent free did = absurd did

by_refusal : (o : Option MigError) (l : LiveSeen) (p next : LiveParkedSeen) (region : Region) (e : Event) (reply : LiveReply) → HasPlaces l → IsMemory l.machine.memory → IsLiveParked l region p → refusal_for l.phase (Guest e) ≡ o
    → MatchOption o (GuestsParked p e reply next) (λ x. (reply ≡ r.Mig x) × (next ≡ p)) → IsDoneLiveLent l region next (IsServedUncalled l e reply)
by_refusal None l p next region e reply places mem lent free did = by_reply l p next region e reply places mem lent free did
by_refusal (Some x) l p next region e reply places mem lent refused did = refused_lent l p next region e reply x places lent refused did.0 did.1

pub live_parked_is_served : LiveParkedIsServed
live_parked_is_served l p next region e reply places mem lent serves =
    let phase : p.phase ≡ l.phase = ap (λ (x : LiveParkedSeen). x.phase) lent.rest in
    by_refusal (refusal_for l.phase (Guest e)) l p next region e reply places mem lent refl
    (subst (λ (f : Phase). MatchOption (refusal_for f (Guest e)) (GuestsParked p e reply next) (λ x. (reply ≡ r.Mig x) × (next ≡ p))) phase serves)

pub live_parked_is_flushed : LiveParkedIsFlushed
live_parked_is_flushed l p next region dev result places lent f =
    let was : IsDoneLent l.machine region next.machine (FlushesDisk l.machine dev result) = parked_is_flushed l.machine p.machine next.machine region dev result lent.parked f.flushes in
    done_live l p next region (FlushesDisk l.machine dev result) (FlushesLiveDisk l dev result) places lent f.rest was (rw was.done.state places.sound) (ap layout_of was.done.state) (record { flushes = was.done; rest = refl })

pub live_parked_flush_fails : LiveParkedFlushFails
live_parked_flush_fails l p next region dev pick places mem lent f =
    let was : IsDoneLent l.machine region next.machine (FailsFlush l.machine dev pick) = parked_flush_fails l.machine p.machine next.machine region dev pick mem places.sound.bytes lent.parked f.failed in
    done_live l p next region (FailsFlush l.machine dev pick) (FailsLiveFlush l dev pick) places lent f.rest was was.done.sound (same_layout (now l) (state_of was.after) was.done.shape) (record { failed = was.done; rest = refl })
