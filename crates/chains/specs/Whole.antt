use Rattle.std.specs.Prelude.{◌≡◌, ℕ, ◌+◌, ◌%◌, ◌<◌, ◌≤◌, ◌^◌, List, length, true, false, not, filter, map, sum, All, slice_index_or}
use Rattle.guestmem.specs.Address.{IsWithin}
use Rattle.chains.specs.declared.descriptor.Descriptor.{Descriptor}
use Rattle.chains.specs.declared.descriptor.TheConstants.{DESCRIPTOR_SIZE}
use Rattle.chains.specs.declared.segs.Seg.{Seg}

-- A table that an indirect descriptor names (VIRTIO 1.2, 2.7.5.3 and 2.8.7): one or more whole entries, inside RAM.
pub record IsTable (base : ℕ) (ram : List ℕ) (d : Descriptor) : Type 0 where
  pub some : 0 < d.len
  pub whole : d.len % DESCRIPTOR_SIZE ≡ 0
  pub inside : IsWithin base (length ram) d.addr d.len

-- None of the descriptors is indirect.
abbrev pub ArePlain : List Descriptor → Type 0
ArePlain ds = All (λ d. d.is_indirect ≡ false) ds

-- No readable descriptor comes after a writable one, even if one of them has no bytes (VIRTIO 1.2, 2.7.4.2 and 2.8.17).
abbrev pub IsInOrder : List Descriptor → Type 0
IsInOrder ds = (k : ℕ) (d : Descriptor) → k + 1 < length ds → (slice_index_or ds k d).is_writable ≡ true → (slice_index_or ds (k + 1) d).is_writable ≡ true

-- The rules for the descriptors of a chain in a ring of `size` slots, after an indirect descriptor was replaced by its
-- table: there are no more than slots, each buffer lies inside RAM (an empty one may lie at its end), the readable ones
-- come first, and there are fewer than 2^32 bytes in all (VIRTIO 1.2, 2.7.5 allows one more byte).
pub record IsWhole (base : ℕ) (ram : List ℕ) (size : ℕ) (ds : List Descriptor) : Type 0 where
  pub few : length ds ≤ size
  pub inside : All (λ d. IsWithin base (length ram) d.addr d.len) ds
  pub in_order : IsInOrder ds
  pub total : sum (map (λ d. d.len) ds) < 2 ^ 32

-- The buffer of a descriptor.
abbrev pub segment : Descriptor → Seg
segment d = record { addr = d.addr; len = d.len }

-- The segments that the device may read.
abbrev pub readable_of : List Descriptor → List Seg
readable_of ds = map segment (filter (λ d. not d.is_writable) ds)

-- The segments that the device may write.
abbrev pub writable_of : List Descriptor → List Seg
writable_of ds = map segment (filter (λ d. d.is_writable) ds)
