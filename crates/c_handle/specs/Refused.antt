-- The state after an event that was refused, whatever the contents of the handle: nothing changed.
use Rattle.std.specs.Prelude.{◌≡◌, ◌≤◌, ◌<◌, ℕ, Bool, List, Option, map}
use Rattle.machine.specs.Parked.{ParkedSeen, WhateverRam, back_with}
use Rattle.machine.specs.Seen.{Seen, all_marks, no_marks, state_of}
use Rattle.machine.specs.declared.event.Event.{Event}
use Rattle.sender.specs.LiveState.{LiveSeen}
use Rattle.sender.specs.Parked.{LiveParkedSeen}
use Rattle.c_machine.specs.Plain.{ArePlain}
use Rattle.c_handle.specs.Told.{Tells, WritesKept}
use Rattle.c_handle.specs.Kept.{LoanSeen, StillLent, MovingLent, State, Still, Moving, Arriving, Lent, parked_in}

-- The disks of the machine of a handle lie in memory.
abbrev pub ArePlainIn : State → Type 0
ArePlainIn (Still m) = ArePlain m
ArePlainIn (Moving l) = ArePlain l.machine
ArePlainIn (Arriving r) = Unit {0}
ArePlainIn (Lent x) = map (λ d. d.marks) (parked_in x).devices ≡ map (λ d. no_marks) (parked_in x).devices

-- It is the same machine: its state, the marks of its disks and the versions of its pages are as they were.
pub record IsSameMachine (m next : Seen) : Type 0 where
  pub state : state_of next ≡ state_of m
  pub marks : all_marks next ≡ all_marks m
  pub versions : next.memory.versions ≡ m.memory.versions

-- Of one that is sent also what is due and what is dirty, and what waits.
pub record IsSameSent (l next : LiveSeen) : Type 0 where
  pub machine : IsSameMachine l.machine next.machine
  pub rest : next ≡ record l { machine = next.machine }

-- While RAM is lent: it is the same machine, whatever RAM holds meanwhile.
pub record IsSameLent (p next : ParkedSeen) : Type 0 where
  pub versions : next.memory ≡ p.memory
  pub machine : WhateverRam p (λ m. state_of (back_with next m) ≡ state_of (back_with p m))

pub record IsSameSentLent (l next : LiveParkedSeen) : Type 0 where
  pub parked : IsSameLent l.machine next.machine
  pub rest : next ≡ record l { machine = next.machine }

abbrev pub IsSameLoan : LoanSeen → LoanSeen → Type 0
IsSameLoan (StillLent p) (StillLent next) = IsSameLent p next
IsSameLoan (MovingLent l) (MovingLent next) = IsSameSentLent l next
IsSameLoan _ _ = ⊥

abbrev pub IsSameKept : State → State → Type 0
IsSameKept (Still m) (Still next) = IsSameMachine m next
IsSameKept (Moving l) (Moving next) = IsSameSent l next
IsSameKept (Arriving r) (Arriving next) = next ≡ r
IsSameKept (Lent x) (Lent next) = IsSameLoan x next
IsSameKept _ _ = ⊥

-- A status from 1 to 63 says that the event was refused, or that memory was: nothing changed, and no number is returned.
abbrev pub RefusedTellsNothing : Type 0
RefusedTellsNothing = (k next : State) (e : Event) (status number before : ℕ) → ArePlainIn k → Tells k e status number before next → 1 ≤ status → status < 64 → IsSameKept k next × (number ≡ before)

-- The same of a write of RAM, and no page is logged.
abbrev pub RefusedWritesNothing : Type 0
RefusedWritesNothing = (k next : State) (log new_log : Option (List Bool)) (addr : ℕ) (bytes : List ℕ) (status : ℕ) → ArePlainIn k → WritesKept k log addr bytes status next new_log → 1 ≤ status → status < 64 → IsSameKept k next × (new_log ≡ log)
