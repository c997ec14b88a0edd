-- What a step at a queue returns and changes. There is one form for the steps of all devices.
use Rattle.std.specs.Prelude.{ℕ, Bool, List, []}
use Rattle.guestmem.specs.Writes.{Write}
use Rattle.chains.specs.State.{RingState}
use Rattle.chains.specs.Publish.{event_note}
use Rattle.chains.specs.declared.chain.Chain.{Chain}
use Rattle.chains.specs.declared.next.Next.{Next}
use Rattle.chains.specs.declared.next.Next.TheVariants as next
use Rattle.chains.specs.declared.served.Done.{Done}
use Rattle.chains.specs.declared.served.Done.TheVariants as done

-- What a step did with a chain: its request was taken; it was published with this used length; these bytes of it were sent, and it was
-- published with no byte written into it; or what the device had for it was dropped, and the chain stays.
pub data Deed : Type 0 where
  Taken : Deed
  Completed : ℕ → Deed
  Sent : List ℕ → Deed
  Dropped : Deed

-- What a step answers: that the queue is empty, that what is there is malformed for the device, or what was done with the chain and
-- whether an interrupt is due.
pub data Answer : Type 0 where
  Empty : Answer
  Malformed : Answer
  Did : Deed → Bool → Answer

-- What a step returns and changes: its answer, writes of RAM, the ring's positions, and the state that the step changes beside these.
pub record Service (S : Type 0) : Type 0 where
  pub answer : Answer
  pub writes : List Write
  pub ring : RingState
  pub state : S

-- The step, by what the device does with a chain, and what it sees in the queue. If the queue is empty the event note is written. What is
-- malformed is not taken, and nothing is written.
abbrev pub service_of : {S : Type 0} → RingState → S → (Chain → Service S) → Next → Service S
service_of q state on_chain next.Empty = record { answer = Empty; writes = event_note q; ring = q; state = state }
service_of q state on_chain next.Malformed = record { answer = Malformed; writes = []; ring = q; state = state }
service_of q state on_chain (next.Chain c) = on_chain c

-- The same of a state that the step's own is a part of.
abbrev pub with_state : {S T : Type 0} → (S → T) → Service S → Service T
with_state whole s = record { answer = s.answer; writes = s.writes; ring = s.ring; state = whole s.state }

-- What a call did, where the buffer for a message holds these bytes.
abbrev pub deed_in : Done → List ℕ → Deed
deed_in done.Taken sent = Taken
deed_in (done.Completed len) sent = Completed len
deed_in done.Sent sent = Sent sent
deed_in done.Dropped sent = Dropped
