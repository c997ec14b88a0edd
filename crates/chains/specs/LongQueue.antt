-- The queues at which memory may be refused. The row is counted as a walk goes, whether it comes to a chain or not: a more exact
-- account of the walk would be the walk again.
use Rattle.std.specs.Prelude.{◌≡◌, ℕ, ◌+◌, ◌/◌, ◌%◌, ◌<◌, ◌≤◌, ◌++◌, [], ◌∷◌, List, length, true, false, ◌⊎◌}
use Rattle.std.specs.Bool.{MatchBool}
use Rattle.guestmem.specs.Address.{index_of}
use Rattle.chains.specs.declared.descriptor.Descriptor.{Descriptor}
use Rattle.chains.specs.declared.descriptor.TheConstants.{DESCRIPTOR_SIZE}
use Rattle.chains.specs.declared.limits.TheConstants.{SHORT_CHAIN_MAX}
use Rattle.chains.specs.State.{RingState}
use Rattle.chains.specs.Descriptor.{descriptor_at}
use Rattle.chains.specs.Whole.{IsTable, ArePlain}
use Rattle.chains.specs.SplitChain.{AreLinked, head, waiting}
use Rattle.chains.specs.PackedChain.{entries_from}
use Rattle.chains.specs.Ring.{IsEmptyQueue}

-- These descriptors are a row in a table of `entries` entries: the first is at `index`, and each but the last has NEXT and
-- names the next one (VIRTIO 1.2, 2.7.5). The last may have NEXT too: a row may be only the beginning of a list.
abbrev pub AreInRow : List ℕ → ℕ → ℕ → ℕ → List Descriptor → Type 0
AreInRow ram table entries index [] = ⊥
AreInRow ram table entries index (d ∷ []) = (index < entries) × (d ≡ descriptor_at false ram table index)
AreInRow ram table entries index (d ∷ e ∷ ds) =
    (index < entries) × (d ≡ descriptor_at false ram table index) × (d.has_next ≡ true) × AreInRow ram table entries d.next (e ∷ ds)

-- A row that continues in a table: the list from the head on ends with an indirect descriptor, and the row is the
-- descriptors before it, none of which is indirect, followed by a row from entry 0 of its table (VIRTIO 1.2, 2.7.5.3).
pub record IsRowIntoTable (ram : List ℕ) (q : RingState) (row : List Descriptor) : Type 0 where
  pub front : List Descriptor
  pub last : Descriptor
  pub inner : List Descriptor
  pub linked : AreLinked ram q.descriptors q.size (head ram q) (front ++ last ∷ [])
  pub plain : ArePlain front
  pub feature : q.has_indirect ≡ true
  pub named : last.is_indirect ≡ true
  pub table : IsTable q.base ram last
  pub in_row : AreInRow ram (index_of q.base last.addr) (last.len / DESCRIPTOR_SIZE) 0 inner
  pub parts : row ≡ front ++ inner

-- A row at the taking position of a split queue.
abbrev pub IsSplitRow : List ℕ → RingState → List Descriptor → Type 0
IsSplitRow ram q row = AreInRow ram q.descriptors q.size (head ram q) row ⊎ IsRowIntoTable ram q row

-- These are the descriptors of consecutive slots of a ring of `size` slots, from `slot` on and wrapping around: each but
-- the last has NEXT (VIRTIO 1.2, 2.8.6), and the last may have it too.
abbrev pub AreInSlots : List ℕ → ℕ → ℕ → ℕ → List Descriptor → Type 0
AreInSlots ram table size slot [] = ⊥
AreInSlots ram table size slot (d ∷ []) = d ≡ descriptor_at true ram table slot
AreInSlots ram table size slot (d ∷ e ∷ ds) =
    (d ≡ descriptor_at true ram table slot) × (d.has_next ≡ true) × AreInSlots ram table size ((slot + 1) % size) (e ∷ ds)

-- The row is all entries of the table of this indirect descriptor, which has no NEXT (VIRTIO 1.2, 2.8.7).
pub record IsRowOfTable (ram : List ℕ) (q : RingState) (d : Descriptor) (row : List Descriptor) : Type 0 where
  pub feature : q.has_indirect ≡ true
  pub named : d.is_indirect ≡ true
  pub alone : d.has_next ≡ false
  pub table : IsTable q.base ram d
  pub entries : row ≡ entries_from ram (index_of q.base d.addr) 0 (d.len / DESCRIPTOR_SIZE)

-- A row at the taking position of a packed queue.
abbrev pub IsPackedRow : List ℕ → RingState → List Descriptor → Type 0
IsPackedRow ram q row = AreInSlots ram q.descriptors q.size q.taking.place row ⊎ IsRowOfTable ram q (descriptor_at true ram q.descriptors q.taking.place) row

-- There is a long row among these: one of more descriptors than are handled without allocating memory, and no more than
-- there are slots.
pub record HasLongRow (IsRow : List Descriptor → Type 0) (size : ℕ) : Type 0 where
  pub row : List Descriptor
  pub is_row : IsRow row
  pub long : SHORT_CHAIN_MAX < length row
  pub few : length row ≤ size

-- A long row is at the taking position of a split queue. It has no more chains than slots: of one with more no descriptor is read.
pub record IsLongSplit (ram : List ℕ) (q : RingState) : Type 0 where
  pub available : waiting ram q ≤ q.size
  pub has : HasLongRow (IsSplitRow ram q) q.size

-- A long row is at the taking position of a packed queue.
abbrev pub IsLongPacked : List ℕ → RingState → Type 0
IsLongPacked ram q = HasLongRow (IsPackedRow ram q) q.size

-- A queue is long: it is not empty, and a long row of descriptors is at its taking position, whether they make a chain or
-- not.
pub record IsLongQueue (ram : List ℕ) (q : RingState) : Type 0 where
  pub waiting : ¬ (IsEmptyQueue ram q)
  pub long : MatchBool q.is_packed (IsLongPacked ram q) (IsLongSplit ram q)
