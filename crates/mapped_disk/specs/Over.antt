-- The image over the bytes of a region.
use Rattle.std.specs.Prelude.{◌≡◌, ℕ, ◌*◌, length}
use Rattle.region.specs.Address.{address}
use Rattle.region.specs.declared.region.Region.{Region}
use Rattle.blk.specs.Disk.{AreSectors}
use Rattle.mapped_disk.specs.Bytes.{cut}
use Rattle.mapped_disk.specs.declared.image.Image.{Image}

-- The bytes of the region are those of this many sectors.
pub record IsOver (region : Region) (sectors : ℕ) : Type 0 where
  pub count : length region.content ≡ sectors * 512
  pub whole : AreSectors (cut sectors region.content)

-- The image of these sectors. It lies where the region does.
abbrev pub image_over : Region → ℕ → Image
image_over region sectors = record { at = address region; sectors = sectors; content = cut sectors region.content }
