-- Bytes that are taken out of the writer between two calls.
use Rattle.std.specs.Prelude.{◌≡◌, ◌++◌, List, ℕ, IsTrue}
use Rattle.machine.specs.Sound.{IsSound}
use Rattle.machine.specs.State.{MachineState}
use Rattle.machine.specs.Effect.{Effect}
use Rattle.wire.specs.Sinks.{SinkState}
use Rattle.wire.specs.Stream.{IsStream}
use Rattle.sender.specs.Calls.{Serves}
use Rattle.sender.specs.Follows.{Relates}
use Rattle.sender.specs.History.{History, phase_of, then_came}
use Rattle.sender.specs.LiveState.{HasPlaces, LiveSeen, now}
use Rattle.sender.specs.declared.event.LiveEvent.{LiveEvent}
use Rattle.sender.specs.declared.event.LiveReply.{LiveReply}
use Rattle.sender.specs.declared.phase.Phase.TheVariants as phases

-- The machine as if the writer still held what was taken, before what it holds now.
abbrev pub untaken : List ℕ → LiveSeen → LiveSeen
untaken taken s = record s { out = record s.out { held = taken ++ s.out.held } }

-- No call depends on what the writer holds: each does the same, whatever was taken before.
abbrev pub CallsIgnoreTaken : Type 0
CallsIgnoreTaken = (taken : List ℕ) (old new : LiveSeen) (e : LiveEvent) (reply : LiveReply) → Serves old e reply new → Serves (untaken taken old) e reply (untaken taken new)

-- So the history continues as if nothing had been taken.
pub record TakenGoesOn (m : MachineState) (h : History) (out : SinkState) (taken : List ℕ) (e : LiveEvent) (reply : LiveReply) (new : LiveSeen) : Type 0 where
  pub effect : Effect
  pub relates : Relates m (then_came h e reply effect) out (untaken taken new)

abbrev pub TakenFollow : Type 0
TakenFollow = (m : MachineState) (h : History) (out : SinkState) (taken : List ℕ) (e : LiveEvent) (reply : LiveReply) (old new : LiveSeen) → Relates m h out (untaken taken old) → HasPlaces old → Serves old e reply new
    → TakenGoesOn m h out taken e reply new

-- Once a stop answered Ok: if the writer was honest, what was taken and what the writer holds are together what it held
-- before, followed by a stream of the machine.
pub record IsWhole (out : SinkState) (taken : List ℕ) (s : LiveSeen) : Type 0 where
  pub stream : List ℕ
  pub is_stream : IsStream stream (now s)
  pub whole : IsTrue out.honest → taken ++ s.out.held ≡ out.held ++ stream

abbrev pub TakenAreWhole : Type 0
TakenAreWhole = (m : MachineState) (h : History) (out : SinkState) (taken : List ℕ) (s : LiveSeen) → Relates m h out (untaken taken s) → IsSound m → phase_of h ≡ phases.Stopped → IsWhole out taken s
