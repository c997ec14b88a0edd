use Rattle.std.specs.Prelude.{◌≡◌, List, [], ◌∷◌}
use Rattle.machine.specs.State.{MachineState}
use Rattle.machine.specs.Outcome.{Outcome}
use Rattle.machine.specs.Step.{IsStep}
use Rattle.machine.specs.declared.event.Event.{Event}
use Rattle.machine.specs.declared.reply.Reply.{Reply}

-- The steps of a list of events in order, with their outcomes: all replies, and the last machine.
abbrev pub IsRun : MachineState → List Event → List Outcome → List Reply → MachineState → Type 0
IsRun m [] [] [] last = last ≡ m
IsRun m (e ∷ es) (o ∷ os) (r ∷ rs) last = (next : MachineState) × IsStep m e o r next × IsRun next es os rs last
IsRun m es os rs last = ⊥
