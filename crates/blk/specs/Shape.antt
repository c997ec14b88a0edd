-- What a block device is to its driver (VIRTIO 1.2, 5.2).
use Rattle.std.specs.Prelude.{◌≡◌, ◌≤◌, ℕ, ◌+◌, ◌^◌, Bool, List, [], ◌∷◌, ◌++◌, length, replicate, if◌then◌else◌}
use Rattle.byteorder.specs.Endian.{little_bytes}
use Rattle.guestmem.specs.Number.{IsBytes}
use Rattle.blk.specs.declared.shape.TheConstants.{OUTSIDE_GREATEST, SECTORS_GREATEST}

-- The feature bits that a block device offers in addition to those of every device: FLUSH 9, WRITE_ZEROES 14, and RO 5 if it
-- is read-only (VIRTIO 1.2, 5.2.3).
abbrev pub features_of : Bool → ℕ
features_of read_only = if read_only then 2 ^ 9 + 2 ^ 14 + 2 ^ 5 else 2 ^ 9 + 2 ^ 14

-- Those of a device whose disk is outside: SEG_MAX 2 besides.
abbrev pub outside_features_of : Bool → ℕ
outside_features_of read_only = features_of read_only + 2 ^ 2

-- The configuration space, in 57 bytes (VIRTIO 1.2, 5.2.4): the number of sectors at 0; at 48 how many sectors one request may
-- clear, 4,096; at 52 how many ranges one request may have, 1; and at 56 whether clearing may unmap, 0. The fields between belong to
-- features that the device does not offer, and are 0.
unfoldable pub configuration_of : ℕ → List ℕ
configuration_of sectors = little_bytes 8 sectors ++ (replicate 40 0 ++ (little_bytes 4 4096 ++ (little_bytes 4 1 ++ 0 ∷ [])))

-- That of a device whose disk is outside: at 12 how many segments of data one request may have, 254, besides.
unfoldable pub outside_configuration_of : ℕ → List ℕ
outside_configuration_of sectors = little_bytes 8 sectors ++ (replicate 4 0 ++ (little_bytes 4 254 ++ (replicate 32 0 ++ (little_bytes 4 4096 ++ (little_bytes 4 1 ++ 0 ∷ [])))))

-- What a block device may be made as: it has 1 to 4,294,967,295 sectors, and an id of 20 bytes.
pub record IsBlockShape (sectors : ℕ) (id : List ℕ) : Type 0 where
  pub some : 1 ≤ sectors
  pub few : sectors ≤ SECTORS_GREATEST
  pub id_size : length id ≡ 20
  pub id_bytes : IsBytes id

-- What a device may be made as whose disk is outside: it has 1 to 2^54 sectors, and an id of 20 bytes.
pub record IsOutsideShape (sectors : ℕ) (id : List ℕ) : Type 0 where
  pub some : 1 ≤ sectors
  pub few : sectors ≤ OUTSIDE_GREATEST
  pub id_size : length id ≡ 20
  pub id_bytes : IsBytes id
