-- The look of a device at the next chain of a queue.
use Rattle.std.specs.Prelude.{◌≡◌, ℕ, nat_lt, ◌==◌, ◌&&◌, not, Bool, true, List, [], length, if◌then◌else◌, Result, Ok, Err}
use Rattle.guestmem.specs.Writes.{Write}
use Rattle.chains.specs.State.{RingState}
use Rattle.chains.specs.Places.{places}
use Rattle.chains.specs.Publish.{event_note}
use Rattle.chains.specs.Ring.{Answers}
use Rattle.chains.specs.LongQueue.{IsLongQueue}
use Rattle.chains.specs.declared.chain.Chain.{Chain}
use Rattle.chains.specs.declared.next.Next.{Next}
use Rattle.chains.specs.declared.next.Next.TheVariants.{Empty, Malformed, Chain as Found}
use Rattle.chains.specs.declared.looking.Wanted.{Wanted}
use Rattle.chains.specs.declared.looking.Wanted.TheVariants.{Room, Message, Request}
use Rattle.chains.specs.declared.served.Unserved.{Unserved}
use Rattle.chains.specs.declared.served.Unserved.TheVariants as why
use Rattle.chains.specs.Transmit.{is_message}

-- A chain that a device can use. Into one that takes bytes it only writes: the receive queues of a network device and of a
-- console (VIRTIO 1.2, 5.1.6.3 and 5.3.6) and the queue of an entropy device (5.4.6.1). From one with a message it only reads
-- (5.1.6.2 and 5.3.6). One with a request has a header, and a byte for the status (5.2.6).
abbrev pub fits : Wanted → Chain → Bool
fits Room c = length (places c.readable) == 0 && not (length (places c.writable) == 0)
fits (Message form) c = is_message form c
fits (Request header) c = not (nat_lt (length (places c.readable)) header) && not (length (places c.writable) == 0)

-- What a device sees where a queue answers so: a chain that it cannot use is malformed too.
abbrev pub seen_as : Wanted → Next → Next
seen_as wanted Empty = Empty
seen_as wanted Malformed = Malformed
seen_as wanted (Found c) = if fits wanted c then Found c else Malformed

-- A device that wants such chains sees this at the taking position of a queue.
pub record Sees (wanted : Wanted) (ram : List ℕ) (q : RingState) (seen : Next) : Type 0 where
  pub answer : Next
  pub answers : Answers ram q answer
  pub is : seen ≡ seen_as wanted answer

-- What a look may return, with the chain that it has filled in.
abbrev pub LookGives : Wanted → List ℕ → RingState → Result (Unit {0}) Unserved → Chain → Type 0
LookGives wanted ram q (Err why.Empty) c = Sees wanted ram q Empty
LookGives wanted ram q (Err why.Malformed) c = Sees wanted ram q Malformed
LookGives wanted ram q (Err why.NoMemory) c = IsLongQueue ram q
LookGives wanted ram q (Ok done) c = Sees wanted ram q (Found c) × (fits wanted c ≡ true)

-- What a look writes: the event note if the queue is empty.
abbrev pub look_writes : RingState → Result (Unit {0}) Unserved → List Write
look_writes q (Err why.Empty) = event_note q
look_writes q _ = []

-- `P`, unless the queue is empty.
abbrev pub UnlessEmpty : Result (Unit {0}) Unserved → Type 0 → Type 0
UnlessEmpty (Err why.Empty) P = Unit {0}
UnlessEmpty _ P = P
