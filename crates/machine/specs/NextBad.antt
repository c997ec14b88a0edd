-- The bad sectors of a device's disk, and reads of its good ones.
use Rattle.std.specs.Prelude.{ℕ, Option, map, true, Result, Ok, Err, Bool}
use Rattle.dirtylog.specs.Members.{IsLeastFrom}
use Rattle.blk.specs.Sectors.{is_bad}
use Rattle.machine.specs.State.{MachineState}
use Rattle.machine.specs.Step.{disk_of}

-- The least bad sector of a device's disk from sector `from` on, or None if there is none.
abbrev pub IsNextBad : MachineState → ℕ → ℕ → Option ℕ → Type 0
IsNextBad m dev from next = IsLeastFrom (map is_bad (disk_of m dev)) from next

-- The result of a read of a good sector, as that of a read of any sector, which also says that it is good.
abbrev pub found_good : {T E : Type 0} → Result T E → Result Bool E
found_good (Ok done) = Ok true
found_good (Err e) = Err e
