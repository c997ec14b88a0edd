-- Images in memory of the caller.
use Rattle.std.specs.Prelude.{◌≡◌, ℕ, List, [], All, length, map}
use Rattle.mapped_disk.specs.declared.image.Image.{Image}

-- The sectors of each image, and how many they are.
abbrev pub contents : List Image → List (List (List ℕ))
contents images = map (λ i. i.content) images

abbrev pub counts : List Image → List ℕ
counts images = map (λ i. length i.content) images

-- Each of the images was replaced by one of no sectors.
pub record AreTaken (old new : List Image) : Type 0 where
  pub count : length new ≡ length old
  pub empty : All (λ i. i.content ≡ []) new
