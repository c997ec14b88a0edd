-- What a host does for a guest that runs, by whether its machine is being migrated.
use Rattle.std.specs.Prelude.{◌≡◌, ℕ, Bool, List, Result, Ok, Err}
use Rattle.machine.specs.Applied.{IsApplied}
use Rattle.machine.specs.Seen.{Seen, state_of}
use Rattle.machine.specs.MachineTurn.{TakesTurn}
use Rattle.machine.specs.Unsynced.{FailsFlushIf, makes_flush}
use Rattle.machine.specs.declared.event.Event.{Event}
use Rattle.machine.specs.declared.reply.Reply.{Reply}
use Rattle.machine.specs.declared.turn.Turn.{Turn}
use Rattle.machine.specs.declared.turn.TurnEnd.{TurnEnd}
use Rattle.sender.specs.Calls.{Serves, guest_reply}
use Rattle.sender.specs.LiveState.{LiveSeen}
use Rattle.sender.specs.declared.event.LiveEvent.TheVariants.{Guest}
use Rattle.sender.specs.declared.mig_error.MigError.{MigError}

-- A machine that is not being migrated refuses nothing by its phase: it has none.
abbrev pub IsServed : Seen → Event → Result Reply MigError → Seen → Type 0
IsServed old e (Ok reply) new = IsApplied old e reply new
IsServed old e (Err x) new = ⊥

-- One that is being migrated refuses once it is stopped, and else exactly the items that the event writes into become dirty.
abbrev pub IsServedLive : LiveSeen → Event → Result Reply MigError → LiveSeen → Type 0
IsServedLive old e result new = Serves old (Guest e) (guest_reply result) new

-- A flush that fails in place of its step, of a machine that is not being migrated. The result says whether the step of this pick flushes a
-- disk. Of one that is being migrated it is `TriesFlush`.
abbrev pub IsFlushTried : Seen → ℕ → ℕ → Result Bool MigError → Seen → Type 0
IsFlushTried old dev pick (Ok was) new = (was ≡ makes_flush (state_of old) dev pick) × FailsFlushIf was old dev pick new
IsFlushTried old dev pick (Err x) new = ⊥

-- A turn of the devices of a machine that is not being migrated. Of one that is being migrated it is `TakesLiveTurn`.
abbrev pub IsTurnTaken : (ℕ → ℕ) → Seen → Turn → Result TurnEnd MigError → List ℕ → Seen → Turn → Type 0
IsTurnTaken called old turn (Ok end) sent new after = TakesTurn called old turn end sent new after
IsTurnTaken called old turn (Err x) sent new after = ⊥
