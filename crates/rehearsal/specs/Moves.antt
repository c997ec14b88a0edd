-- A migration that a host makes call by call: the machine that is being migrated, from its first call on, and what is made of
-- its bytes.
use Rattle.std.specs.Prelude.{◌≡◌, ◌++◌, ℕ, List, [], IsTrue}
use Rattle.machine.specs.Seen.{AreHonest, Seen, state_of}
use Rattle.machine.specs.Sound.{IsSound}
use Rattle.machine.specs.State.{MachineState, base_of}
use Rattle.receiver.specs.Disks.{AreHonestDisks}
use Rattle.receiver.specs.Receiving.{HasBeenFed, Received}
use Rattle.sender.specs.Follows.{Relates}
use Rattle.sender.specs.History.{History, nothing}
use Rattle.sender.specs.LiveState.{LiveSeen, now}
use Rattle.sender.specs.Taking.{untaken}
use Rattle.sender.specs.declared.phase.Phase.TheVariants as phases
use Rattle.wire.specs.Sinks.{Covers, Digested, SinkState, Takes}
use Rattle.wire.specs.Stream.{IsStream}

-- This happened to the machine since its migration to this writer began, and these bytes were taken out of the writer.
abbrev pub IsMoving : MachineState → History → SinkState → List ℕ → LiveSeen → Type 0
IsMoving m h out taken s = Relates m h out (untaken taken s)

-- This holds at first, with an empty history and nothing taken.
abbrev pub FirstIsMoving : Type 0
FirstIsMoving = (machine : Seen) (s : LiveSeen) → AreHonest machine → s.machine ≡ machine → s.phase ≡ phases.Fresh → Covers s.digest [] → IsMoving (state_of machine) nothing s.out [] s

-- Each call keeps this, and adds to the history. So does a taking: the writer then holds what was not taken, and its
-- digest is of the same bytes.
abbrev pub TakingsStayMoving : Type 0
TakingsStayMoving = (m : MachineState) (h : History) (out writer : SinkState) (digest : Digested) (taken more : List ℕ) (s : LiveSeen) → IsMoving m h out taken s
    → s.out.held ≡ more ++ writer.held → writer.failures ≡ s.out.failures → writer.honest ≡ s.out.honest → Takes s.digest [] digest → IsMoving m h out (taken ++ more) (record s { out = writer; digest = digest })

-- A receiver that was finished gave this machine. Its RAM begins at the address that the receiver was told.
pub record GivesMachine (r : Received) (arrived : Seen) : Type 0 where
  pub stream : AreHonestDisks r.marks → (b : List ℕ) → HasBeenFed r b → IsStream b (state_of arrived)
  pub based : base_of (state_of arrived).devices ≡ r.ram.base

-- Once a stop answered Ok, a receiver over honest disks that was told where RAM begins, and was fed what was taken and what was
-- left, in any pieces, gives the machine that was stopped. The writer was honest and held nothing at first.
abbrev pub ArrivedIsMoved : Type 0
ArrivedIsMoved = (m : MachineState) (h : History) (out : SinkState) (taken : List ℕ) (s : LiveSeen) (r : Received) (arrived : Seen) → IsMoving m h out taken s → IsSound m → IsTrue out.honest → out.held ≡ []
    → s.phase ≡ phases.Stopped → base_of (now s).devices ≡ r.ram.base → AreHonestDisks r.marks → HasBeenFed r (taken ++ s.out.held) → GivesMachine r arrived → state_of arrived ≡ now s
