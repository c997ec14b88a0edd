-- Which sectors of the disks of a machine are bad.
use Rattle.std.specs.Prelude.{List, map, Bool}
use Rattle.blk.specs.Sectors.{Sector, is_bad}

abbrev pub bad_on : List (List Sector) → List (List Bool)
bad_on disks = map (map is_bad) disks
