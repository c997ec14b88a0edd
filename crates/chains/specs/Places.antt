use Rattle.std.specs.Prelude.{ℕ, zero, suc, ◌+◌, ◌-◌, List, [], ◌∷◌, ◌++◌, All, map, length, take, drop, slice_index}
use Rattle.guestmem.specs.Address.{IsWithin, index_of}
use Rattle.guestmem.specs.Writes.{Write}
use Rattle.chains.specs.declared.segs.Seg.{Seg}

-- `count` consecutive addresses, from `address` on.
abbrev pub addresses : ℕ → ℕ → List ℕ
addresses address zero = []
addresses address (suc count) = address ∷ addresses (address + 1) count

-- The places of segments: the guest-physical address of each of their bytes, in order. How a message is cut into segments makes no
-- difference (VIRTIO 1.2, 2.7.4).
abbrev pub places : List Seg → List ℕ
places [] = []
places (seg ∷ segs) = addresses seg.addr seg.len ++ places segs

-- The last place of segments, as a list, which is empty where they have none.
abbrev pub last_place : List Seg → List ℕ
last_place segs = take 1 (drop (length (places segs) - 1) (places segs))

-- What reading these places returns, in a RAM with this base: the byte at each, in order.
abbrev pub read_places : ℕ → List ℕ → List ℕ → List ℕ
read_places base ram at = map (λ place. slice_index ram (index_of base place)) at

-- The writes of bytes to places, in order, in a RAM with this base: if an address is a place twice, the later byte wins.
abbrev pub place_writes : ℕ → List ℕ → List ℕ → List Write
place_writes base [] bytes = []
place_writes base (place ∷ at) [] = []
place_writes base (place ∷ at) (byte ∷ bytes) = record { index = index_of base place; byte = byte } ∷ place_writes base at bytes

-- Each segment lies inside a RAM of `len` bytes with this base. An empty one may lie at its end.
abbrev pub AreSegmentsInside : ℕ → ℕ → List Seg → Type 0
AreSegmentsInside base len segs = All (λ seg. IsWithin base len seg.addr seg.len) segs
