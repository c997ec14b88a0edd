-- What a handle owns.
use Rattle.std.specs.Prelude.{◌≡◌, Option, Some, None}
use Rattle.std.specs.Coded.{coded_option}
use Rattle.std.specs.Box.Ownership.{box_owns}
use Rattle.std.specs.declared.alloc.Global.{Global}
use Rattle.std.specs.contracts.impls.GlobalAllocator.TheImpl.{ghosts as global}
use base.Fml.{Fml, ftrue, fex}
use base.Stored.{Coded}
use denote.RawPtr.{Ptr, null_ptr}
use denote.RattleType.{RattleType}
use Rattle.c_handle.specs.Kept.{KeptSeen}
use Rattle.c_handle.specs.contracts.kept.Kept as contracts

-- The type of the contents of a handle.
abbrev pub kept_row : RattleType
kept_row = contracts.the_row

-- The pointer of a handle is null, or the machine lies there in a block of the C library's heap.
abbrev pub machine_owns : Global → Ptr → Option KeptSeen → Fml
machine_owns alloc at None = fex (at ≡ null_ptr) (λ _. ftrue)
machine_owns alloc at (Some m) = box_owns (global.dealloc_token alloc) kept_row at m

abbrev pub machine_coded : Coded (Option KeptSeen)
machine_coded = coded_option kept_row.coded
