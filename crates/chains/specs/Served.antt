-- A step that was made at a queue.
use Rattle.std.specs.Prelude.{◌≡◌, ℕ, List, Result, Ok, Err}
use Rattle.guestmem.specs.Item.{Item}
use Rattle.guestmem.specs.Memory.{Memory}
use Rattle.guestmem.specs.Rises.{Touches}
use Rattle.guestmem.specs.Writes.{set_all, touched}
use Rattle.chains.specs.Frame.{IsUntouched}
use Rattle.chains.specs.LongQueue.{IsLongQueue}
use Rattle.chains.specs.Look.{Sees}
use Rattle.chains.specs.Service.{Answer, Empty, Malformed, Did, Service, deed_in}
use Rattle.chains.specs.State.{RingState}
use Rattle.chains.specs.Transmit.{MayWantMemory}
use Rattle.chains.specs.declared.looking.Wanted.{Wanted}
use Rattle.chains.specs.declared.looking.Wanted.TheVariants.{Room, Message, Request}
use Rattle.chains.specs.declared.next.Next.{Next}
use Rattle.chains.specs.declared.served.Served.{Served}
use Rattle.chains.specs.declared.served.Unserved.{Unserved}
use Rattle.chains.specs.declared.served.Unserved.TheVariants as why

-- This was done: the answer, RAM, the ring and the state after it, and which items were touched. What touching is, as that a log has
-- taken them in, `touches` says.
pub record IsDone {S : Type 0} (touches : List Item → Type 0) (ram : List ℕ) (s : Service S) (answer : Answer) (new_ram : List ℕ) (new_ring : RingState) (new_state : S) : Type 0 where
  pub answer_is : answer ≡ s.answer
  pub ram_is : new_ram ≡ set_all ram s.writes
  pub ring_is : new_ring ≡ s.ring
  pub state_is : new_state ≡ s.state
  pub items_are : touches (touched s.writes)

-- A step was made at a queue of which a device wants such chains, by what it sees there.
pub record IsServed {S : Type 0} (touches : List Item → Type 0) (ram : List ℕ) (q : RingState) (wanted : Wanted) (step : Next → Service S) (answer : Answer) (new_ram : List ℕ) (new_ring : RingState) (new_state : S) : Type 0 where
  pub seen : Next
  pub sees : Sees wanted ram q seen
  pub done : IsDone touches ram (step seen) answer new_ram new_ring new_state

-- What a step finds, or leaves: RAM, a log, the ring, and the state that the step changes beside these.
pub record Scene (L S : Type 0) : Type 0 where
  pub ram : Memory
  pub log : L
  pub ring : RingState
  pub state : S

abbrev pub scene : {L S : Type 0} → Memory → L → RingState → S → Scene L S
scene ram log ring state = record { ram = ram; log = log; ring = ring; state = state }

-- That of a step that changes nothing beside RAM, the log and the ring.
abbrev pub bare_scene : {L : Type 0} → Memory → L → RingState → Scene L (Unit {0})
bare_scene ram log ring = scene ram log ring tt

-- Memory may be refused only at a queue with a longer row of descriptors than is handled without an allocation, or for a
-- message.
abbrev pub MayRefuse : Wanted → List ℕ → RingState → Type 0
MayRefuse Room ram q = IsLongQueue ram q
MayRefuse (Request header) ram q = IsLongQueue ram q
MayRefuse (Message form) ram q = MayWantMemory ram q form

-- A step was refused memory, where that may be, and has changed nothing.
pub record IsRefused {L S : Type 0} (wanted : Wanted) (old new : Scene L S) : Type 0 where
  pub may : MayRefuse wanted old.ram.bytes old.ring
  pub untouched : IsUntouched old.ram new.ram old.ring new.ring old.log new.log
  pub state_is : new.state ≡ old.state

-- A step of these two scenes was made, with this answer.
abbrev pub IsServedWith : {L S : Type 0} → (L → Item → L) → Scene L S → Scene L S → Wanted → (List ℕ → RingState → S → Next → Service S) → Answer → Type 0
IsServedWith after old new wanted step answer =
    IsServed (Touches after old.log new.log old.ram new.ram) old.ram.bytes old.ring wanted (step old.ram.bytes old.ring old.state) answer new.ram.bytes new.ring new.state

-- A call ended so: the step was made, and the buffer for a message holds these bytes; or memory was refused. `step` is the step by RAM,
-- the ring, the state that it changes beside these, and what the device sees.
abbrev pub HasRun : {L S : Type 0} → (L → Item → L) → Scene L S → Scene L S → Wanted → (List ℕ → RingState → S → Next → Service S) → Result Served Unserved → List ℕ → Type 0
HasRun after old new wanted step (Err why.Empty) sent = IsServedWith after old new wanted step Empty
HasRun after old new wanted step (Err why.Malformed) sent = IsServedWith after old new wanted step Malformed
HasRun after old new wanted step (Err why.NoMemory) sent = IsRefused wanted old new
HasRun after old new wanted step (Ok s) sent = IsServedWith after old new wanted step (Did (deed_in s.done sent) s.is_due)
