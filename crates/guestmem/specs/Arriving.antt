-- A RAM whose pages come, wherever they go.
use Rattle.guestmem.specs.Memory.{Memory}
use Rattle.guestmem.specs.declared.arriving.Room.{Room}
use Rattle.guestmem.specs.declared.arriving.Room.TheVariants.{Fresh, Given}

-- The RAM so far.
abbrev pub ram_in : Room → Memory
ram_in (Fresh ram) = ram
ram_in (Given ram) = ram
