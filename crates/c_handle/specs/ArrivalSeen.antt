-- What contracts see of a machine whose stream arrives in pieces.
use denote.RawPtr.{Ptr}
use Rattle.std.specs.Prelude.{ℕ, List, Option}
use Rattle.receiver.specs.Receiving.{Received}
use Rattle.receiver.specs.declared.ram_terms.RamTerms.{RamTerms}

-- Over disks of the library: the terms of RAM, where the RAM lies that was handed in, and the bytes so far, in which the header is not
-- whole; then the receiver over disks of the sizes that the header says; or nothing, after a refusal. Over images of the caller: the
-- receiver, in each stage.
pub data ArrivalSeen : Type 0 where
  AtHead : RamTerms → Option Ptr → List ℕ → ArrivalSeen
  AtBody : Received → ArrivalSeen
  Refused : ArrivalSeen
  Over : Received → ArrivalSeen
