-- A turn of the devices of a machine that is being migrated.
use Rattle.std.specs.Prelude.{◌≡◌, ◌≢◌, ℕ, List, [], ◌∷◌, ◌++◌, map, Result, Ok, Err}
use Rattle.machine.specs.Effect.{Effect}
use Rattle.machine.specs.State.{DeviceState, MachineState}
use Rattle.machine.specs.Turn.{EndsBy, Turns, step_of}
use Rattle.machine.specs.declared.event.Event.{Event}
use Rattle.machine.specs.declared.reply.Reply.{Reply}
use Rattle.machine.specs.declared.turn.Turn.{Turn}
use Rattle.machine.specs.declared.turn.TurnEnd.{TurnEnd}
use Rattle.machine.specs.declared.work.Work.{Work}
use Rattle.wire.specs.Sinks.{SinkState}
use Rattle.sender.specs.Calls.{Serves}
use Rattle.sender.specs.History.{History, then_came}
use Rattle.sender.specs.LiveState.{HasPlaces, LiveSeen, now}
use Rattle.sender.specs.Marks.{IsBehind}
use Rattle.sender.specs.Ran.{CallsServed}
use Rattle.sender.specs.Reads.{HasLiveCalled}
use Rattle.sender.specs.Taking.{untaken}
use Rattle.sender.specs.declared.event.LiveEvent.{LiveEvent}
use Rattle.sender.specs.declared.event.LiveEvent.TheVariants.{Guest}
use Rattle.sender.specs.declared.event.LiveReply.TheVariants as r
use Rattle.sender.specs.declared.mig_error.MigError.{MigError}
use Rattle.sender.specs.declared.mig_error.MigError.TheVariants.{AlreadyStopped}
use Rattle.sender.specs.declared.phase.Phase.TheVariants as phases

abbrev pub live_devices : LiveSeen → List DeviceState
live_devices l = (now l).devices

-- A step that was served, and the calls that it made of its disk.
abbrev pub MakesLiveStep : (ℕ → ℕ) → LiveSeen → Event → Reply → LiveSeen → Type 0
MakesLiveStep called old e reply new = Serves old (Guest e) (r.Guest reply) new × HasLiveCalled called old (Guest e) (r.Guest reply) new

-- The turn of such a machine: its steps and its end. It is refused once the machine is stopped.
abbrev pub TakesLiveTurn : (ℕ → ℕ) → LiveSeen → Turn → Result TurnEnd MigError → List ℕ → LiveSeen → Turn → Type 0
TakesLiveTurn called old turn (Ok end) sent new after = (old.phase ≢ phases.Stopped) × Turns live_devices (MakesLiveStep called) old turn end sent new after
TakesLiveTurn called old turn (Err x) sent new after = (old.phase ≡ phases.Stopped) × (x ≡ AlreadyStopped) × (new ≡ old) × (after ≡ turn)

abbrev pub guest_step : Work → LiveEvent
guest_step w = Guest (step_of w)

-- The history goes on by these steps, each with its reply, and the machine is behind by no more pages.
abbrev pub StepsStayBehind : MachineState → History → SinkState → List Work → List Reply → List ℕ → LiveSeen → Type 0
StepsStayBehind m h out [] [] pages new = IsBehind m h out pages new
StepsStayBehind m h out (w ∷ ws) (reply ∷ rs) pages new = (effect : Effect) × StepsStayBehind m (then_came h (guest_step w) (r.Guest reply) effect) out ws rs pages new
StepsStayBehind m h out ws rs pages new = ⊥

-- A turn is its steps, each served as a call of its own with its reply: those after which it went on, and the one that ended it, if one did.
-- The history goes on by them.
abbrev pub TurnStaysBehind : Type 0
TurnStaysBehind = (called : ℕ → ℕ) (m : MachineState) (h : History) (out : SinkState) (taken pages : List ℕ) (old : LiveSeen) (turn : Turn) (end : TurnEnd) (sent : List ℕ) (new : LiveSeen) (after : Turn) → IsBehind m h out pages (untaken taken old) → HasPlaces old
    → (t : TakesLiveTurn called old turn (Ok end) sent new after) → (ws : List Work) × (rs : List Reply) × EndsBy (live_devices t.1.between) t.1.at end sent ws rs after
    × CallsServed old (map guest_step (t.1.works ++ ws)) (map r.Guest (t.1.replies ++ rs)) new × StepsStayBehind m h out (t.1.works ++ ws) (t.1.replies ++ rs) pages (untaken taken new)
