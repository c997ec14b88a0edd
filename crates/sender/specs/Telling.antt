-- Which digest is told, where it is not made by the writer.
use Rattle.std.specs.Prelude.{◌≡◌, List, ℕ, [], IsTrue, length}
use Rattle.sha2.specs.Sha256.{sha256}
use Rattle.machine.specs.Sound.{IsSound}
use Rattle.machine.specs.State.{MachineState}
use Rattle.wire.specs.Sinks.{SinkState}
use Rattle.wire.specs.Telling.{EndsIn}
use Rattle.wire.specs.declared.record_head.TheConstants.{COMMIT_RECORD}
use Rattle.sender.specs.Follows.{Relates}
use Rattle.sender.specs.History.{History, phase_of}
use Rattle.sender.specs.LiveState.{LiveSeen}
use Rattle.sender.specs.Taking.{untaken}
use Rattle.sender.specs.declared.phase.Phase.TheVariants as phases

-- Once a stop answered Ok, and all that an honest writer held was taken but the record that closes the stream, that record has the digest of
-- what was taken. The writer held nothing at first.
abbrev pub TakenIsDigested : Type 0
TakenIsDigested = (m : MachineState) (h : History) (out : SinkState) (taken : List ℕ) (s : LiveSeen) → Relates m h out (untaken taken s) → IsSound m → phase_of h ≡ phases.Stopped → IsTrue out.honest → out.held ≡ []
    → length s.out.held ≡ COMMIT_RECORD → EndsIn s.out.held (sha256 taken)
