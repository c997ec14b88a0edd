-- How shapes are decoded. That this is the inverse of the encoding is proved in `proofs/`.
use Rattle.std.specs.Prelude.{ℕ, List, [], ◌∷◌, length, take, drop, nat_eq, nat_lt, not, ◌==◌, ◌||◌, if◌then◌else◌, Option, Some, None}
use Rattle.guestmem.specs.Number.{number_at}
use Rattle.machine.specs.declared.shape.Shape.{Shape}
use Rattle.machine.specs.declared.shape.Shape.TheVariants.{Net, LongNet, Block, Outside, Console, Entropy}
use Rattle.net.specs.declared.limits.TheConstants.{FRAME_MAX}
use Rattle.blk.specs.declared.shape.TheConstants.{OUTSIDE_GREATEST, SECTORS_GREATEST}

-- The shape of a network device, whose device ID comes before the bytes, and the bytes after the shape.
unfoldable pub net_shape_of : List ℕ → Option (Shape × List ℕ)
net_shape_of bytes = if nat_lt (length bytes) 6 then None else Some (Net (take 6 bytes), drop 6 bytes)

-- The shape of a network device for long frames, whose number comes before the bytes, and the bytes after the shape.
unfoldable pub long_net_shape_of : List ℕ → Option (Shape × List ℕ)
long_net_shape_of bytes =
    if nat_lt (length bytes) 8 || not (nat_lt FRAME_MAX (number_at bytes 6 2)) then None
    else Some (LongNet (take 6 bytes) (number_at bytes 6 2), drop 8 bytes)

-- The shape of a block device, whose device ID comes before the bytes, and the bytes after the shape.
unfoldable pub block_shape_of : List ℕ → Option (Shape × List ℕ)
block_shape_of bytes =
    if nat_lt (length bytes) 29 || nat_lt 1 (number_at bytes 8 1) then None
    else if (number_at bytes 0 8 == 0) || nat_lt SECTORS_GREATEST (number_at bytes 0 8) then None
    else Some (Block (number_at bytes 0 8) (nat_eq (number_at bytes 8 1) 1) (take 20 (drop 9 bytes)), drop 20 (drop 9 bytes))

-- The shape of a block device whose disk is outside, whose number comes before the bytes, and the bytes after the shape.
unfoldable pub outside_shape_of : List ℕ → Option (Shape × List ℕ)
outside_shape_of bytes =
    if nat_lt (length bytes) 29 || nat_lt 1 (number_at bytes 8 1) then None
    else if (number_at bytes 0 8 == 0) || nat_lt OUTSIDE_GREATEST (number_at bytes 0 8) then None
    else Some (Outside (number_at bytes 0 8) (nat_eq (number_at bytes 8 1) 1) (take 20 (drop 9 bytes)), drop 20 (drop 9 bytes))

-- The shape at the front of the bytes, and the bytes after it.
unfoldable pub shape_of : List ℕ → Option (Shape × List ℕ)
shape_of [] = None
shape_of (number ∷ bytes) =
    if number == 1 then net_shape_of bytes
    else if number == 2 then block_shape_of bytes
    else if number == 3 then Some (Console, bytes)
    else if number == 4 then Some (Entropy, bytes)
    else if number == 129 then long_net_shape_of bytes
    else if number == 130 then outside_shape_of bytes
    else None
