use Rattle.std.specs.Prelude.{◌≡◌, ℕ, ◌+◌, ◌-◌, ◌*◌, ◌/◌, ◌%◌, ◌<◌, ◌≤◌, ◌++◌, [], ◌∷◌, List, Bool, true, false}
use Rattle.std.specs.Bool.{MatchBool}
use Rattle.guestmem.specs.Address.{index_of}
use Rattle.guestmem.specs.Number.{number_at}
use Rattle.chains.specs.declared.descriptor.Descriptor.{Descriptor}
use Rattle.chains.specs.declared.descriptor.TheConstants.{DESCRIPTOR_SIZE}
use Rattle.chains.specs.declared.chain.Chain.{Chain}
use Rattle.chains.specs.State.{RingState}
use Rattle.chains.specs.Descriptor.{descriptor_at}
use Rattle.chains.specs.Whole.{IsTable, ArePlain, IsWhole, readable_of, writable_of}

-- The driver's index: how many chains it has made available, modulo 65,536 (VIRTIO 1.2, 2.7.6).
abbrev pub available_index : List ℕ → RingState → ℕ
available_index ram q = number_at ram (q.driver + 2) 2

-- A split queue is empty if the driver's index equals the taking position (VIRTIO 1.2, 2.7.6).
abbrev pub IsSplitEmpty : List ℕ → RingState → Type 0
IsSplitEmpty ram q = available_index ram q ≡ q.taking.place

-- The number of chains that the driver has made available and the device has not taken.
abbrev pub waiting : List ℕ → RingState → ℕ
waiting ram q = (available_index ram q + 65536 - q.taking.place) % 65536

-- The head of the chain at the taking position: the index of its first descriptor (VIRTIO 1.2, 2.7.6).
abbrev pub head : List ℕ → RingState → ℕ
head ram q = number_at ram (q.driver + 4 + 2 * (q.taking.place % q.size)) 2

-- These are the descriptors of one list in a table of `entries` entries: the first is at `index`, each names the next one,
-- and the last has no NEXT (VIRTIO 1.2, 2.7.5).
abbrev pub AreLinked : List ℕ → ℕ → ℕ → ℕ → List Descriptor → Type 0
AreLinked ram table entries index [] = ⊥
AreLinked ram table entries index (d ∷ []) = (index < entries) × (d ≡ descriptor_at false ram table index) × (d.has_next ≡ false)
AreLinked ram table entries index (d ∷ e ∷ ds) =
    (index < entries) × (d ≡ descriptor_at false ram table index) × (d.has_next ≡ true) × AreLinked ram table entries d.next (e ∷ ds)

-- `all` is `front`, followed by the list that begins at entry 0 of the table that `last` names. No entry of that list is
-- indirect. Whether `last` itself is writable makes no difference.
pub record IsFromTable (base : ℕ) (ram : List ℕ) (front : List Descriptor) (last : Descriptor) (all : List Descriptor) : Type 0 where
  pub table : IsTable base ram last
  pub inner : List Descriptor
  pub linked : AreLinked ram (index_of base last.addr) (last.len / DESCRIPTOR_SIZE) 0 inner
  pub plain : ArePlain inner
  pub parts : all ≡ front ++ inner

-- `all` is `direct`, except that its last descriptor, if it is indirect, which needs the feature INDIRECT_DESC, is replaced
-- by the list of its table (VIRTIO 1.2, 2.7.5.3). Only the last one may be indirect: any other would be indirect and have
-- NEXT.
pub record IsReplaced (base : ℕ) (ram : List ℕ) (has_indirect : Bool) (direct all : List Descriptor) : Type 0 where
  pub front : List Descriptor
  pub last : Descriptor
  pub parts : direct ≡ front ++ last ∷ []
  pub plain : ArePlain front
  pub whole : MatchBool last.is_indirect ((has_indirect ≡ true) × IsFromTable base ram front last all) (all ≡ direct)

-- The chain at the taking position of a split queue (VIRTIO 1.2, 2.7): `direct` is the list of descriptors from the head
-- on, and `all` is that list with an indirect descriptor replaced by its table.
pub record IsSplitChain (ram : List ℕ) (q : RingState) (c : Chain) : Type 0 where
  pub direct : List Descriptor
  pub all : List Descriptor
  pub available : waiting ram q ≤ q.size
  pub linked : AreLinked ram q.descriptors q.size (head ram q) direct
  pub replaced : IsReplaced q.base ram q.has_indirect direct all
  pub whole : IsWhole q.base ram q.size all
  pub is : c ≡ record { id = head ram q; slots = 1; readable = readable_of all; writable = writable_of all }
