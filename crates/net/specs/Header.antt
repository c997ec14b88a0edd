use Rattle.std.specs.Prelude.{ℕ, List, [], ◌∷◌}

-- The header before a frame that the guest receives (VIRTIO 1.2, 5.1.6): flags and the fields of offloads and checksum are
-- 0, and num_buffers, the last two bytes, is 1.
unfoldable pub header : List ℕ
header = 0 ∷ 0 ∷ 0 ∷ 0 ∷ 0 ∷ 0 ∷ 0 ∷ 0 ∷ 0 ∷ 0 ∷ 1 ∷ 0 ∷ []
