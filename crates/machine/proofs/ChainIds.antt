-- The id of a chain fits 16 bits.
use Rattle.std.proofs.Common.{◌≡◌, ℕ, ◌+◌, ◌%◌, ◌^◌, ◌<◌, ◌≤◌, Bool, true, false, List, [], ◌∷◌, ◌++◌, refl, arith}
use Rattle.std.specs.Bool.{MatchBool}
use Rattle.guestmem.specs.Number.{IsBytes}
use Rattle.chains.proofs.ChainLaws.{split_bounded}
use Rattle.chains.specs.Descriptor.{descriptor_at, descriptor_in}
use Rattle.chains.specs.PackedChain.{AreConsecutive, IsPackedChain}
use Rattle.chains.specs.Ring.{IsChain}
use Rattle.chains.specs.SplitChain.{IsSplitChain}
use Rattle.chains.specs.State.{RingState}
use Rattle.chains.specs.declared.chain.Chain.{Chain}
use Rattle.chains.specs.declared.descriptor.Descriptor.{Descriptor}

-- The id in a descriptor is a number of two bytes.
id_small : (ram : List ℕ) (table index : ℕ) → IsBytes ram → (descriptor_at true ram table index).id < 2 ^ 16
unfolding descriptor_at descriptor_in
id_small ram table index are = omega arith

last_small : (ram : List ℕ) (table size slot : ℕ) (front : List Descriptor) (last : Descriptor) → IsBytes ram → AreConsecutive ram table size slot (front ++ last ∷ []) → last.id < 2 ^ 16
last_small ram table size slot [] last are h = rw h.0 (id_small ram table slot are)
last_small ram table size slot (d ∷ []) last are h = last_small ram table size ((slot + 1) % size) [] last are h.2
last_small ram table size slot (d ∷ e ∷ front) last are h = last_small ram table size ((slot + 1) % size) (e ∷ front) last are h.2

id_by : (ram : List ℕ) (q : RingState) (c : Chain) (packed : Bool) → q.is_packed ≡ packed → IsBytes ram → q.size ≤ 256 → MatchBool packed (IsPackedChain ram q c) (IsSplitChain ram q c) → c.id < 2 ^ 16
id_by ram q c true layout are few s = rw s.is (last_small ram q.descriptors q.size q.taking.place s.front s.last are s.list.consecutive)
id_by ram q c false layout are few s =
    let id : MatchBool false (Unit {0}) ((c.slots ≡ 1) × (c.id < q.size)) = rw layout at (split_bounded ram q c layout s).id in
    omega (arith, id.1, few)

-- In a RAM of bytes every chain of a queue of at most 256 slots has such an id.
pub id_fits : (ram : List ℕ) (q : RingState) (c : Chain) → IsBytes ram → q.size ≤ 256 → IsChain ram q c → c.id < 2 ^ 16
id_fits ram q c are few s = id_by ram q c q.is_packed refl are few s
