-- The history of a machine that is being migrated goes on by a turn of its devices.
use Rattle.std.proofs.Common.{◌≡◌, ◌≢◌, ◌<◌, ◌^◌, ℕ, Bool, List, [], ◌∷◌, ◌++◌, length, map, Some, None, inl, inr, ◌⊎◌, refl, sym, ap, subst, ◌∙◌}
use Rattle.std.specs.Prelude.{Ok}
use Rattle.machine.specs.Effect.{items_of}
use Rattle.machine.specs.Layout.{firsts_of, layout_of, size_of}
use Rattle.machine.specs.State.{MachineState}
use Rattle.machine.specs.Turn.{AreMade, Ends, counted, step_of}
use Rattle.machine.specs.declared.event.Event.{Event}
use Rattle.machine.specs.declared.reply.Reply.{Reply}
use Rattle.machine.specs.declared.turn.Turn.{Turn}
use Rattle.machine.specs.declared.turn.TurnEnd.{TurnEnd}
use Rattle.machine.specs.declared.work.Work.{Work}
use Rattle.machine.proofs.DeviceTurns.{IsOn, MakesLast, ended, ends_by}
use Rattle.machine.proofs.Numbering.{same_layout}
use Rattle.wire.specs.Sinks.{SinkState}
use Rattle.sender.specs.Calls.{AfterGuest, Serves}
use Rattle.sender.specs.History.{History, then_came}
use Rattle.sender.specs.LiveState.{HasPlaces, LiveSeen, now, refusal_for}
use Rattle.sender.specs.Marks.{IsBehind}
use Rattle.sender.specs.Ran.{CallsServed}
use Rattle.sender.specs.Taking.{untaken}
use Rattle.sender.specs.Turns.{MakesLiveStep, StepsStayBehind, TakesLiveTurn, TurnStaysBehind, guest_step, live_devices}
use Rattle.sender.specs.declared.event.LiveEvent.TheVariants.{Guest}
use Rattle.sender.specs.declared.event.LiveReply.TheVariants as r
use Rattle.sender.specs.declared.mig_error.MigError.{MigError}
use Rattle.sender.specs.declared.phase.Phase.TheVariants as phases
use Rattle.sender.proofs.Behind.{taken_stays_behind}
use Rattle.sender.proofs.StepBeside.{may_guest}
use Rattle.sender.proofs.Fresh.{told}
use Rattle.sender.proofs.Living.{length-with_items}

-- The turn of a machine that is not stopped has ended.
pub ended_running : (called : ℕ → ℕ) (old : LiveSeen) (turn : Turn) (count : ℕ) (mid : LiveSeen) (at : Turn) (end : TurnEnd) (sent : List ℕ) (new : LiveSeen) (after : Turn) → old.phase ≢ phases.Stopped
    → IsOn live_devices (MakesLiveStep called) old turn count mid at → Ends live_devices (MakesLiveStep called) count mid at end sent new after → TakesLiveTurn called old turn (Ok end) sent new after
ended_running called old turn count mid at end sent new after running on end_is = (running, ended live_devices (MakesLiveStep called) old turn count mid at end sent new after on end_is)

-- The sets have a place for each item after an event of the guest too.
places_after : (old new : LiveSeen) (e : Event) (reply : Reply) → HasPlaces old → AfterGuest old e reply new → HasPlaces new
places_after old new e reply places after =
    let same : layout_of (now new) ≡ layout_of (now old) = same_layout (now old) (now new) after.is_applied.shape in
    let due = ap (λ (x : LiveSeen). x.due) after.rest in
    record {
      sound = after.is_applied.sound;
      few = subst (λ (x : List Bool). length x < 2 ^ 64) (sym due) places.few;
      due_size = ap (λ (x : List Bool). length x) due ∙ places.due_size ∙ sym (ap size_of same);
      dirty_size = ap (λ (x : List Bool). length x) after.dirty ∙ length-with_items (firsts_of (layout_of (now old))) old.dirty (items_of after.is_applied.effect) ∙ places.dirty_size ∙ sym (ap size_of same);
    }

by_answer : (old new : LiveSeen) (e : Event) (reply : Reply) → HasPlaces old → ((refusal_for old.phase (Guest e) ≡ None) × AfterGuest old e reply new) ⊎ ((x : MigError) × (refusal_for old.phase (Guest e) ≡ Some x) × ((r.Guest reply ≡ r.Mig x) × (new ≡ old))) → HasPlaces new
by_answer old new e reply places (inl done) = places_after old new e reply places done.1
by_answer old new e reply places (inr refused) = subst HasPlaces (sym refused.2.1) places

places_served : (old new : LiveSeen) (e : Event) (reply : Reply) → HasPlaces old → Serves old (Guest e) (r.Guest reply) new → HasPlaces new
places_served old new e reply places served =
    by_answer old new e reply places (told (refusal_for old.phase (Guest e)) (AfterGuest old e reply new) (λ x. (r.Guest reply ≡ r.Mig x) × (new ≡ old)) served)

module _ (called : ℕ → ℕ) (m : MachineState) (out : SinkState) (taken pages : List ℕ) (new : LiveSeen) where
  -- These steps lead from a state to the last one, and the history goes on by them.
  abbrev GoOn : History → LiveSeen → List Work → List Reply → Type 0
  GoOn h old ws rs = CallsServed old (map guest_step ws) (map r.Guest rs) new × StepsStayBehind m h out ws rs pages (untaken taken new)

  first_on : (h : History) (old next : LiveSeen) (w : Work) (reply : Reply) (ws : List Work) (rs : List Reply) → IsBehind m h out pages (untaken taken old) → HasPlaces old → MakesLiveStep called old (step_of w) reply next
      → ((h : History) → IsBehind m h out pages (untaken taken next) → HasPlaces next → GoOn h next ws rs) → GoOn h old (w ∷ ws) (reply ∷ rs)
  first_on h old next w reply ws rs behind places made rest =
      let gone = taken_stays_behind m h out taken pages (guest_step w) (r.Guest reply) old next behind places (may_guest pages (step_of w)) made.0 in
      let on = rest (then_came h (guest_step w) (r.Guest reply) gone.effect) gone.behind (places_served old next (step_of w) reply places made.0) in
      ((next, made.0, on.0), (gone.effect, on.1))

  none_on : (h : History) (mid : LiveSeen) → IsBehind m h out pages (untaken taken mid) → new ≡ mid → GoOn h mid [] []
  none_on h mid behind same = (same, subst (λ (l : LiveSeen). IsBehind m h out pages (untaken taken l)) (sym same) behind)

  last_on : (h : History) (mid : LiveSeen) (ws : List Work) (rs : List Reply) → IsBehind m h out pages (untaken taken mid) → HasPlaces mid → MakesLast (MakesLiveStep called) mid ws rs new → GoOn h mid ws rs
  last_on h mid [] [] behind places last = none_on h mid behind last
  last_on h mid (w ∷ []) (s ∷ []) behind places last = first_on h mid new w s [] [] behind places last (λ next after there. none_on next new after refl)
  last_on h mid [] (s ∷ rs) behind places last = absurd last
  last_on h mid (w ∷ []) [] behind places last = absurd last
  last_on h mid (w ∷ []) (s ∷ q ∷ rs) behind places last = absurd last
  last_on h mid (w ∷ v ∷ ws) rs behind places last = absurd last

  all_on : (h : History) (old : LiveSeen) (turn : Turn) (ws xs : List Work) (rs ys : List Reply) (mid : LiveSeen) (at : Turn) → AreMade live_devices (MakesLiveStep called) old turn ws rs mid at → IsBehind m h out pages (untaken taken old) → HasPlaces old
      → MakesLast (MakesLiveStep called) mid xs ys new → GoOn h old (ws ++ xs) (rs ++ ys)
  all_on h old turn [] xs [] ys mid at done behind places last = last_on h old xs ys behind places (subst (λ (l : LiveSeen). MakesLast (MakesLiveStep called) l xs ys new) done.0 last)
  all_on h old turn [] xs (s ∷ rs) ys mid at done behind places last = absurd done
  all_on h old turn (w ∷ ws) xs [] ys mid at done behind places last = absurd done
  all_on h old turn (w ∷ ws) xs (s ∷ rs) ys mid at done behind places last =
      first_on h old done.0 w s (ws ++ xs) (rs ++ ys) behind places done.1.made (λ next after there. all_on next done.0 (counted turn w) ws xs rs ys mid at done.4 after there last)

pub turn_stays_behind : TurnStaysBehind
turn_stays_behind called m h out taken pages old turn end sent new after behind places taken_turn =
    let t = taken_turn.1 in
    let last = ends_by live_devices (MakesLiveStep called) (length t.works) t.between t.at end sent new after t.ended in
    let on = all_on called m out taken pages new h old turn t.works last.0 t.replies last.1 t.between t.at t.made behind places last.3 in
    (last.0, last.1, last.2, on.0, on.1)
