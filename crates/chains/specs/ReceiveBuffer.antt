-- Chains of a queue through which a device gives bytes to the guest: the receive queues of a network device and of a
-- console (VIRTIO 1.2, 5.1.6.3 and 5.3.6) and the queue of an entropy device (VIRTIO 1.2, 5.4.6).
use Rattle.std.specs.Prelude.{◌≡◌, ℕ, nat_lt, Bool, List, ◌++◌, length}
use Rattle.guestmem.specs.Item.{Item}
use Rattle.guestmem.specs.Writes.{Write, set_all, touched}
use Rattle.chains.specs.State.{RingState}
use Rattle.chains.specs.Places.{places, place_writes}
use Rattle.chains.specs.Publish.{published, is_interrupt_due, after_take, after_publish}
use Rattle.chains.specs.Service.{Completed, Did, Service}
use Rattle.chains.specs.declared.chain.Chain.{Chain}

-- What giving bytes to a chain writes: they go to the first writable places, and the chain is published with their count as
-- its used length, as written into if there are any.
abbrev pub filled : RingState → Chain → List ℕ → List Write
filled q c bytes =
    place_writes q.base (places c.writable) bytes
    ++ published (after_take q c.slots) c.id c.slots (length bytes) (nat_lt 0 (length bytes))

-- These bytes are given to a chain, and this state is left.
unfoldable pub give : {S : Type 0} → List ℕ → RingState → List ℕ → S → Chain → Service S
give ram q bytes left c = record {
  answer = Did (Completed (length bytes)) (is_interrupt_due (after_take q c.slots) c.slots (set_all ram (filled q c bytes)));
  writes = filled q c bytes;
  ring = after_publish (after_take q c.slots) c.slots;
  state = left;
}

-- Bytes were given to a chain: whether an interrupt is due, RAM and the ring after it, and which items were touched. What touching is,
-- as that a log has taken them in, `touches` says.
pub record IsFilled (touches : List Item → Type 0) (ram : List ℕ) (q : RingState) (c : Chain) (bytes : List ℕ) (is_due : Bool) (new_ram : List ℕ) (new_ring : RingState) : Type 0 where
  pub due_is : is_due ≡ is_interrupt_due (after_take q c.slots) c.slots new_ram
  pub ram_is : new_ram ≡ set_all ram (filled q c bytes)
  pub ring_is : new_ring ≡ after_publish (after_take q c.slots) c.slots
  pub items_are : touches (touched (filled q c bytes))
