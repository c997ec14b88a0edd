-- A turn of the devices of a machine, with the calls that its steps make of disks.
use Rattle.std.specs.Prelude.{ℕ, List, ◌++◌, map}
use Rattle.machine.specs.Applied.{IsApplied}
use Rattle.machine.specs.Calls.{HasCalled, HaveCalled}
use Rattle.machine.specs.Seen.{Seen, state_of}
use Rattle.machine.specs.State.{DeviceState}
use Rattle.machine.specs.Turn.{EndsBy, Turns, step_of}
use Rattle.machine.specs.declared.event.Event.{Event}
use Rattle.machine.specs.declared.reply.Reply.{Reply}
use Rattle.machine.specs.declared.turn.Turn.{Turn}
use Rattle.machine.specs.declared.turn.TurnEnd.{TurnEnd}
use Rattle.machine.specs.declared.work.Work.{Work}

-- A step of a machine, and the calls that it made of its disk.
abbrev pub MakesStep : (ℕ → ℕ) → Seen → Event → Reply → Seen → Type 0
MakesStep called old e reply new = IsApplied old e reply new × HasCalled called old e reply new

abbrev pub devices_in : Seen → List DeviceState
devices_in m = (state_of m).devices

-- A turn of a machine.
abbrev pub TakesTurn : (ℕ → ℕ) → Seen → Turn → TurnEnd → List ℕ → Seen → Turn → Type 0
TakesTurn called old turn end sent new after = Turns devices_in (MakesStep called) old turn end sent new after

-- A turn is its steps, events one after another: those that were made and went on, each with its reply, and the one that ended it, if one did.
abbrev pub TurnIsSteps : Type 0
TurnIsSteps = (called : ℕ → ℕ) (old : Seen) (turn : Turn) (end : TurnEnd) (sent : List ℕ) (new : Seen) (after : Turn) (t : TakesTurn called old turn end sent new after)
    → (ws : List Work) × (rs : List Reply) × EndsBy (devices_in t.between) t.at end sent ws rs after × HaveCalled called old (map step_of (t.works ++ ws)) (t.replies ++ rs) new
