-- The step of the receive queue of a network device (VIRTIO 1.2, 5.1.6.3 and 5.1.6.4).
use Rattle.std.specs.Prelude.{ℕ, nat_lt, false, List, [], ◌∷◌, ◌++◌, length, if◌then◌else◌}
use Rattle.chains.specs.State.{RingState}
use Rattle.chains.specs.Places.{places}
use Rattle.chains.specs.ReceiveBuffer.{give}
use Rattle.chains.specs.Service.{Did, Dropped, Service, service_of}
use Rattle.chains.specs.declared.chain.Chain.{Chain}
use Rattle.chains.specs.declared.next.Next.{Next}
use Rattle.net.specs.Header.{header}

-- The frame is dropped. The chain is not taken, and nothing is written.
abbrev pub drop_frame : RingState → List (List ℕ) → Service (List (List ℕ))
drop_frame q rest = record { answer = Did Dropped false; writes = []; ring = q; state = rest }

-- A chain that takes bytes gets the header and the first frame, if both fit; else the frame is dropped. If there is no frame no step
-- is made.
abbrev pub give_first : List ℕ → RingState → List (List ℕ) → Chain → Service (List (List ℕ))
give_first ram q [] c = drop_frame q []
give_first ram q (frame ∷ rest) c =
    if nat_lt (length (places c.writable)) (length (header ++ frame)) then drop_frame q rest else give ram q (header ++ frame) rest c

-- The step, by what the device sees in the queue. The state is the frames that are left.
abbrev pub receive_step : List ℕ → RingState → List (List ℕ) → Next → Service (List (List ℕ))
receive_step ram q frames seen = service_of q frames (give_first ram q frames) seen
