use Rattle.std.specs.Prelude.{◌≡◌, ◌≢◌, ℕ, zero, suc, ◌+◌, ◌/◌, ◌%◌, ◌++◌, [], ◌∷◌, List, length, Bool, true, false}
use Rattle.std.specs.Bool.{MatchBool}
use Rattle.guestmem.specs.Address.{index_of}
use Rattle.chains.specs.declared.descriptor.Descriptor.{Descriptor}
use Rattle.chains.specs.declared.descriptor.TheConstants.{DESCRIPTOR_SIZE}
use Rattle.chains.specs.declared.chain.Chain.{Chain}
use Rattle.chains.specs.State.{RingState}
use Rattle.chains.specs.Descriptor.{descriptor_at}
use Rattle.chains.specs.Whole.{IsTable, ArePlain, IsWhole, readable_of, writable_of}

-- A descriptor is available to a device with this wrap counter: AVAIL equals the counter, and USED does not (VIRTIO 1.2,
-- 2.8.1).
abbrev pub IsAvailable : Bool → Descriptor → Type 0
IsAvailable wrap d = (d.avail_flag ≡ wrap) × (d.used_flag ≢ wrap)

-- A packed queue is empty if the descriptor at the taking position is not available (VIRTIO 1.2, 2.8.2).
abbrev pub IsPackedEmpty : List ℕ → RingState → Type 0
IsPackedEmpty ram q = ¬ (IsAvailable q.taking.wrap (descriptor_at true ram q.descriptors q.taking.place))

-- These are the descriptors of consecutive slots of a ring of `size` slots, from `slot` on and wrapping around: each but
-- the last has the flag NEXT, and the last has not (VIRTIO 1.2, 2.8.6). AVAIL and USED of those after the first are not
-- checked.
abbrev pub AreConsecutive : List ℕ → ℕ → ℕ → ℕ → List Descriptor → Type 0
AreConsecutive ram table size slot [] = ⊥
AreConsecutive ram table size slot (d ∷ []) = (d ≡ descriptor_at true ram table slot) × (d.has_next ≡ false)
AreConsecutive ram table size slot (d ∷ e ∷ ds) =
    (d ≡ descriptor_at true ram table slot) × (d.has_next ≡ true) × AreConsecutive ram table size ((slot + 1) % size) (e ∷ ds)

-- `count` descriptors of a table, from entry `index` on.
abbrev pub entries_from : List ℕ → ℕ → ℕ → ℕ → List Descriptor
entries_from ram table index zero = []
entries_from ram table index (suc count) = descriptor_at true ram table index ∷ entries_from ram table (index + 1) count

-- An indirect descriptor is the only one of its chain in the ring, and is replaced by all entries of its table, in order
-- (VIRTIO 1.2, 2.8.7). Of their flags only WRITE counts. Whether the indirect descriptor itself is writable makes no
-- difference.
pub record IsPackedTable (base : ℕ) (ram : List ℕ) (front : List Descriptor) (last : Descriptor) (all : List Descriptor) : Type 0 where
  pub alone : front ≡ []
  pub table : IsTable base ram last
  pub entries : all ≡ entries_from ram (index_of base last.addr) 0 (last.len / DESCRIPTOR_SIZE)

-- `front` and `last` are the descriptors of the slots at the taking position (VIRTIO 1.2, 2.8.5). `all` is that list; or,
-- if the last one is indirect, which needs the feature INDIRECT_DESC, the entries of its table.
pub record IsPackedList (ram : List ℕ) (q : RingState) (front : List Descriptor) (last : Descriptor) (all : List Descriptor) : Type 0 where
  pub consecutive : AreConsecutive ram q.descriptors q.size q.taking.place (front ++ last ∷ [])
  pub plain : ArePlain front
  pub replaced : MatchBool last.is_indirect ((q.has_indirect ≡ true) × IsPackedTable q.base ram front last all) (all ≡ front ++ last ∷ [])

-- The chain at the taking position of a packed queue (VIRTIO 1.2, 2.8). The id is that of the last descriptor of its
-- slots.
pub record IsPackedChain (ram : List ℕ) (q : RingState) (c : Chain) : Type 0 where
  pub front : List Descriptor
  pub last : Descriptor
  pub all : List Descriptor
  pub list : IsPackedList ram q front last all
  pub whole : IsWhole q.base ram q.size all
  pub is : c ≡ record { id = last.id; slots = length front + 1; readable = readable_of all; writable = writable_of all }
