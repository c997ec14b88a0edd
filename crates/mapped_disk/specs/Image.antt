-- What an image owns.
use Rattle.std.specs.Prelude.{◌≡◌, ℕ, ◌*◌, List, length}
use base.Fml.{Fml, ftrue, fsep, fex}
use base.Stored.{Coded}
use denote.Array.{Array}
use denote.Builtin.{u8}
use denote.RawPtr.{Ptr}
use Rattle.region.specs.Region.{region_owns}
use Rattle.blk.specs.Disk.{AreSectors}
use Rattle.mapped_disk.specs.Bytes.{bytes_of}

-- These are as many sectors.
pub record IsContent (sectors : ℕ) (content : List (List ℕ)) : Type 0 where
  pub count : length content ≡ sectors
  pub whole : AreSectors content

-- There are as many sectors as the image says, and it owns what a region of their bytes does: n of them are n * 512 bytes, fewer
-- than 2^63. An image of no sectors owns nothing, and its pointer may be anything.
abbrev pub image_owns : Ptr → ℕ → List (List ℕ) → Fml
image_owns at sectors content = fsep (fex (IsContent sectors content) (λ _. ftrue)) (region_owns at (sectors * 512) (bytes_of content))

-- How a list of sectors is stored.
abbrev pub image_coded : Coded (List (List ℕ))
image_coded = (Array (Array u8 512) 0).coded
