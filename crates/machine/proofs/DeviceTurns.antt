-- A turn of the devices goes on by one step, and is its steps.
use Rattle.std.proofs.Common.{◌≡◌, ℕ, ◌+◌, ◌≤◌, List, [], ◌∷◌, ◌++◌, length, length-append, append-nil, inl, inr, arith, map, None, true, refl, ap}
use Rattle.std.specs.Prelude.{slice_get}
use Rattle.std.proofs.lemmas.List.{map-append}
use Rattle.machine.specs.Calls.{HaveCalled}
use Rattle.machine.specs.Seen.{Seen}
use Rattle.machine.specs.State.{DeviceState}
use Rattle.machine.specs.Stepped.{reply_in}
use Rattle.machine.specs.MachineTurn.{MakesStep, TurnIsSteps, devices_in}
use Rattle.machine.specs.Turn.{AreMade, Ends, EndsBy, MakesNext, Once, Turns, counted, goes_on, is_entropy, step_of}
use Rattle.machine.specs.declared.event.Event.{Event}
use Rattle.machine.specs.declared.reply.Reply.{Reply}
use Rattle.machine.specs.declared.reply.Reply.TheVariants as replies
use Rattle.machine.specs.declared.turn.Turn.{Turn}
use Rattle.machine.specs.declared.turn.TurnEnd.{TurnEnd}
use Rattle.machine.specs.declared.turn.TurnEnd.TheVariants as ends
use Rattle.machine.specs.declared.work.Work.{Work}
use Rattle.machine.proofs.Calling.{called_more}

-- One step more was made.
pub made_more : {S : Type 0} (devices : S → List DeviceState) (makes : S → Event → Reply → S → Type 0) (old : S) (turn : Turn) (ws : List Work) (rs : List Reply) (now : S) (at : Turn) (w : Work) (r : Reply) (new : S)
    → AreMade devices makes old turn ws rs now at → MakesNext devices makes now at.last w r new → 1 ≤ at.left → goes_on (is_entropy (slice_get (devices now) w.dev)) r ≡ true
    → AreMade devices makes old turn (ws ++ w ∷ []) (rs ++ r ∷ []) new (counted at w)
made_more devices makes old turn [] [] now at w r new done one left on =
    (new, rw (done.0, done.1) at one, rw (done.1) at left, rw (done.0) at on, (refl, ap (λ (t : Turn). counted t w) done.1))
made_more devices makes old turn [] (s ∷ rs) now at w r new done one left on = absurd done
made_more devices makes old turn (v ∷ ws) [] now at w r new done one left on = absurd done
made_more devices makes old turn (v ∷ ws) (s ∷ rs) now at w r new done one left on = (done.0, done.1, done.2, done.3, made_more devices makes done.0 (counted turn v) ws rs now at w r new done.4 one left on)

-- The steps of a turn so far, and how many they are.
pub record IsOn {S : Type 0} (devices : S → List DeviceState) (makes : S → Event → Reply → S → Type 0) (old : S) (turn : Turn) (count : ℕ) (now : S) (at : Turn) : Type 0 where
  pub works : List Work
  pub replies : List Reply
  pub made : AreMade devices makes old turn works replies now at
  pub long : length works ≡ count
  pub left : at.left + count ≡ turn.left

pub begins : {S : Type 0} (devices : S → List DeviceState) (makes : S → Event → Reply → S → Type 0) (old : S) (turn : Turn) → IsOn devices makes old turn 0 old turn
begins devices makes old turn = record { works = []; replies = []; made = (refl, refl); long = refl; left = omega arith }

pub goes : {S : Type 0} (devices : S → List DeviceState) (makes : S → Event → Reply → S → Type 0) (old : S) (turn : Turn) (count : ℕ) (now : S) (at : Turn) (sent : List ℕ) (new : S) (after : Turn)
    → IsOn devices makes old turn count now at → 1 ≤ at.left → Once devices makes now at None sent new after → IsOn devices makes old turn (count + 1) new after
goes devices makes old turn count now at sent new after on left once = record {
  works = on.works ++ once.0 ∷ [];
  replies = on.replies ++ once.1 ∷ [];
  made = rw (once.4) (made_more devices makes old turn on.works on.replies now at once.0 once.1 new on.made once.2 left once.3);
  long = rw (length-append on.works (once.0 ∷ []), on.long) refl;
  left = rw (once.4) (omega (arith, on.left, left));
}

pub ended : {S : Type 0} (devices : S → List DeviceState) (makes : S → Event → Reply → S → Type 0) (old : S) (turn : Turn) (count : ℕ) (now : S) (at : Turn) (end : TurnEnd) (sent : List ℕ) (new : S) (after : Turn)
    → IsOn devices makes old turn count now at → Ends devices makes count now at end sent new after → Turns devices makes old turn end sent new after
ended devices makes old turn count now at end sent new after on end_is = record { works = on.works; replies = on.replies; between = now; at = at; made = on.made; ended = rw (on.long) end_is }

-- The step that ended a turn, if one did, made this of the state.
abbrev pub MakesLast : {S : Type 0} → (S → Event → Reply → S → Type 0) → S → List Work → List Reply → S → Type 0
MakesLast makes mid [] [] new = new ≡ mid
MakesLast makes mid (w ∷ []) (r ∷ []) new = makes mid (step_of w) r new
MakesLast makes mid ws rs new = ⊥

-- The steps are events one after another.
steps_called : (called : ℕ → ℕ) (old : Seen) (turn : Turn) (ws : List Work) (rs : List Reply) (new : Seen) (at : Turn) → AreMade devices_in (MakesStep called) old turn ws rs new at → HaveCalled called old (map step_of ws) rs new
steps_called called old turn [] [] new at done = done.0
steps_called called old turn [] (s ∷ rs) new at done = absurd done
steps_called called old turn (w ∷ ws) [] new at done = absurd done
steps_called called old turn (w ∷ ws) (r ∷ rs) new at done = (done.0, done.1.made.0, done.1.made.1, steps_called called done.0 (counted turn w) ws rs new at done.4)

-- What ended it, in events: the step that did, or none.
pub ends_by : {S : Type 0} (devices : S → List DeviceState) (makes : S → Event → Reply → S → Type 0) (count : ℕ) (mid : S) (at : Turn) (end : TurnEnd) (sent : List ℕ) (new : S) (after : Turn) → Ends devices makes count mid at end sent new after
    → (ws : List Work) × (rs : List Reply) × EndsBy (devices mid) at end sent ws rs after × MakesLast makes mid ws rs new
ends_by devices makes count mid at ends.Idle sent new after e = ([], [], (refl, refl, e.2), e.1)
ends_by devices makes count mid at ends.Unfinished sent new after (inl e) = ([], [], inl (refl, refl, e.3), e.2)
ends_by devices makes count mid at ends.Unfinished sent new after (inr e) = (e.2.0 ∷ [], replies.NoMemory ∷ [], inr (e.2.0, e.2.1.next, refl, refl, e.2.2), e.2.1.made)
ends_by devices makes count mid at ends.SyncOwed sent new after e = ([], [], (e.1.0, e.1.1, refl, refl, e.1.4), e.1.3)
ends_by devices makes count mid at ends.NoMemory sent new after e = (e.2.0 ∷ [], replies.NoMemory ∷ [], (e.2.0, e.2.1.next, refl, refl, e.2.2), e.2.1.made)
ends_by devices makes count mid at (ends.Answer s) sent new after e = (e.1.0 ∷ [], reply_in s sent ∷ [], (e.1.0, e.1.1.next, refl, refl, e.1.4), e.1.1.made)

last_called : (called : ℕ → ℕ) (old mid new : Seen) (ws xs : List Work) (rs ys : List Reply) → HaveCalled called old (map step_of ws) rs mid → MakesLast (MakesStep called) mid xs ys new → HaveCalled called old (map step_of (ws ++ xs)) (rs ++ ys) new
last_called called old mid new ws [] rs [] done last = rw (append-nil ws, append-nil rs, last) done
last_called called old mid new ws (w ∷ []) rs (r ∷ []) done last = rw (map-append step_of ws (w ∷ [])) (called_more called old mid new (map step_of ws) rs (step_of w) r done last.0 last.1)
last_called called old mid new ws [] rs (r ∷ ys) done last = absurd last
last_called called old mid new ws (w ∷ []) rs [] done last = absurd last
last_called called old mid new ws (w ∷ []) rs (r ∷ s ∷ ys) done last = absurd last
last_called called old mid new ws (w ∷ v ∷ xs) rs ys done last = absurd last

pub turn_is_steps : TurnIsSteps
turn_is_steps called old turn end sent new after t =
    let last = ends_by devices_in (MakesStep called) (length t.works) t.between t.at end sent new after t.ended in
    (last.0, last.1, last.2, last_called called old t.between new t.works last.0 t.replies last.1 (steps_called called old turn t.works t.replies t.between t.at t.made) last.3)
