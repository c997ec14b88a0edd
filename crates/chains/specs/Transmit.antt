-- The step of a queue through which the guest sends: the transmit queue of a network device (VIRTIO 1.2, 5.1.6.2) and of
-- a console (VIRTIO 1.2, 5.3.6).
use Rattle.std.specs.Prelude.{◌≡◌, ℕ, nat_lt, ◌&&◌, not, Bool, true, false, List, length, drop, ◌⊎◌}
use Rattle.guestmem.specs.Writes.{Write, set_all}
use Rattle.chains.specs.State.{RingState}
use Rattle.chains.specs.Places.{places, read_places}
use Rattle.chains.specs.Publish.{published, is_interrupt_due, after_take, after_publish}
use Rattle.chains.specs.Ring.{Answers}
use Rattle.chains.specs.Service.{Did, Sent, Service, service_of}
use Rattle.chains.specs.LongQueue.{IsLongQueue}
use Rattle.chains.specs.declared.chain.Chain.{Chain}
use Rattle.chains.specs.declared.next.Next.{Next}
use Rattle.chains.specs.declared.next.Next.TheVariants as next
use Rattle.chains.specs.declared.transmitting.MessageForm.{MessageForm}

-- A chain that holds a message: its readable bytes are neither too few nor too many. Its writable bytes do not count.
abbrev pub is_message : MessageForm → Chain → Bool
is_message form c = not (nat_lt (length (places c.readable)) form.least) && not (nat_lt form.most (length (places c.readable)))

-- The message: the readable bytes after the header.
abbrev pub message_of : ℕ → List ℕ → ℕ → Chain → List ℕ
message_of base ram header c = drop header (read_places base ram (places c.readable))

-- The chain is published with no byte written into it.
abbrev pub handed_back : RingState → Chain → List Write
handed_back q c = published (after_take q c.slots) c.id c.slots 0 false

-- The message of a chain is sent, and the chain is published.
abbrev pub send : {S : Type 0} → ℕ → List ℕ → RingState → S → Chain → Service S
send header ram q state c = record {
  answer = Did (Sent (message_of q.base ram header c)) (is_interrupt_due (after_take q c.slots) c.slots (set_all ram (handed_back q c)));
  writes = handed_back q c;
  ring = after_publish (after_take q c.slots) c.slots;
  state = state;
}

-- The step, by what the device sees in the queue. It changes nothing beside RAM and the ring.
abbrev pub transmit_step : {S : Type 0} → MessageForm → List ℕ → RingState → S → Next → Service S
transmit_step form ram q state seen = service_of q state (send form.header ram q state) seen

-- A message waits in a queue.
pub record HasMessage (ram : List ℕ) (q : RingState) (form : MessageForm) : Type 0 where
  pub chain : Chain
  pub answers : Answers ram q (next.Chain chain)
  pub is : is_message form chain ≡ true

-- The queues at which such a step may need to allocate memory: for a long chain, or for a message.
abbrev pub MayWantMemory : List ℕ → RingState → MessageForm → Type 0
MayWantMemory ram q form = IsLongQueue ram q ⊎ HasMessage ram q form
