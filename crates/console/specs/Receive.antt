-- The step of a queue through which a device gives bytes to the guest: the receive queue of a console (VIRTIO 1.2, 5.3.6)
-- and the queue of an entropy device (VIRTIO 1.2, 5.4.6).
use Rattle.std.specs.Prelude.{ℕ, min, List, length, take, drop}
use Rattle.chains.specs.State.{RingState}
use Rattle.chains.specs.Places.{places}
use Rattle.chains.specs.ReceiveBuffer.{give}
use Rattle.chains.specs.Service.{Service, service_of}
use Rattle.chains.specs.declared.chain.Chain.{Chain}
use Rattle.chains.specs.declared.next.Next.{Next}

-- How many of the bytes held are written into the chain.
abbrev pub count_into : List ℕ → Chain → ℕ
count_into held c = min (length (places c.writable)) (length held)

-- The first bytes held are given to the chain, as many as it takes.
abbrev pub give_some : List ℕ → RingState → List ℕ → Chain → Service (List ℕ)
give_some ram q held c = give ram q (take (count_into held c) held) (drop (count_into held c) held) c

-- The step with bytes held, by what the device sees in the queue. The state is the bytes that are left.
abbrev pub receive_step : List ℕ → RingState → List ℕ → Next → Service (List ℕ)
receive_step ram q held seen = service_of q held (give_some ram q held) seen
