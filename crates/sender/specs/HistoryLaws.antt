-- What follows from the definition of a history.
use Rattle.std.specs.Prelude.{◌≡◌, ℕ, ◌<◌, ◌⊎◌, List, length, map, true, false, Some}
use Rattle.machine.specs.Effect.{Effect}
use Rattle.machine.specs.Layout.{Layout, item_at, layout_of, size_of}
use Rattle.machine.specs.Outcome.{outcome_of}
use Rattle.machine.specs.Run.{IsRun}
use Rattle.machine.specs.Sound.{IsSound}
use Rattle.machine.specs.State.{MachineState}
use Rattle.sender.specs.declared.event.LiveEvent.{LiveEvent}
use Rattle.sender.specs.declared.event.LiveReply.{LiveReply}
use Rattle.sender.specs.declared.phase.Phase.TheVariants as phases
use Rattle.wire.specs.Stream.{IsStream, last_named, record_of}
use Rattle.sender.specs.History.{AllAllowed, History, entries, guest_events, guest_replies, is_stale, machine_after, nothing, onward, phase_of, sends, text, then_came, touches}

-- A page or sector that is not stale has the content that the last record that names it gives.
abbrev pub FreshIsLast : Type 0
FreshIsLast = (m : MachineState) (h : History) (i : ℕ) → AllAllowed m h → i < size_of (layout_of m) → is_stale (layout_of m) h i ≡ false
    → last_named (item_at (layout_of m) i) (entries m h) ≡ Some (record_of (machine_after m h) (item_at (layout_of m) i))

-- The item was sent, and was not written since it was last sent.
abbrev pub IsFreshItem : Layout → History → ℕ → Type 0
IsFreshItem l nothing i = ⊥
IsFreshItem l (then_came h e reply f) i = (sends l (is_stale l h) e reply i ≡ true) ⊎ (IsFreshItem l h i × (touches l e reply f i ≡ false))

-- An item is not stale exactly where it was sent, and was not written since it was last sent.
abbrev pub StaleIsNotFresh : Type 0
StaleIsNotFresh = (l : Layout) (h : History) (i : ℕ) → (is_stale l h i ≡ false → IsFreshItem l h i) × (IsFreshItem l h i → is_stale l h i ≡ false)

-- Once a stop answered Ok, what was written is a stream of the machine.
abbrev pub StoppedIsStream : Type 0
StoppedIsStream = (m : MachineState) (h : History) → AllAllowed m h → IsSound m → phase_of h ≡ phases.Stopped → IsStream (text m h) (machine_after m h)

-- The machine after a history is the one that the guest's events alone give, each with the outcome of its reply.
abbrev pub AfterIsRun : Type 0
AfterIsRun = (m : MachineState) (h : History) → AllAllowed m h → IsRun m (guest_events h) (map outcome_of (guest_replies h)) (guest_replies h) (machine_after m h)

-- Events and replies determine the history: there is at most one for given lists of them.
abbrev pub OneHistory : Type 0
OneHistory = (m : MachineState) (events : List LiveEvent) (replies : List LiveReply) (fs gs : List Effect) → length fs ≡ length gs → AllAllowed m (onward nothing events replies fs) → AllAllowed m (onward nothing events replies gs)
    → onward nothing events replies fs ≡ onward nothing events replies gs
