-- A call that serves an event keeps the size of RAM.
use Rattle.std.proofs.Common.{◌≡◌, ◌*◌, ℕ, List, length, Bool}
use Rattle.std.specs.Prelude.{Option}
use Rattle.machine.specs.declared.event.Event.{Event}
use Rattle.machine.specs.Parked.{ParkedSeen}
use Rattle.sender.specs.LiveState.{LiveSeen}
use Rattle.sender.specs.Parked.{LiveParkedSeen}
use Rattle.sender.specs.declared.event.LiveEvent.{LiveEvent}
use Rattle.c_handle.specs.Kept.{FitsLog, StillLent, MovingLent, State, Moving, Lent, ram_in}
use Rattle.c_handle.specs.Told.{IsServed, IsServedLent, IsToldLent}
use Rattle.c_handle.proofs.SamePages.{applied_lent, served, served_lent}

pub served_so : (log : Option (List Bool)) (places : ℕ) (k : State) (l next : LiveSeen) (e : LiveEvent) (status number before : ℕ) → FitsLog log (ram_in places k) → IsServed l e status number before next → k ≡ Moving l → FitsLog log (length next.machine.memory.bytes)
served_so log places k l next e status number before fits s is = served log places k l next e s.reply fits s.serves is

pub served_lent_so : (log : Option (List Bool)) (places : ℕ) (k : State) (p next : LiveParkedSeen) (e : Event) (status number before : ℕ) → FitsLog log (ram_in places k) → IsServedLent p e status number before next → k ≡ Lent (MovingLent p) → FitsLog log (4096 * length next.machine.memory)
served_lent_so log places k p next e status number before fits s is = served_lent log places k p next e s.reply fits s.serves is

pub told_lent_so : (log : Option (List Bool)) (places : ℕ) (k : State) (p next : ParkedSeen) (e : Event) (status number before : ℕ) → FitsLog log (ram_in places k) → IsToldLent p e status number before next → k ≡ Lent (StillLent p) → FitsLog log (4096 * length next.memory)
told_lent_so log places k p next e status number before fits t is = applied_lent log places k p next e t.reply fits t.applied is
