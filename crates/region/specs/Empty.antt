-- Where there are no bytes.
use Rattle.std.specs.Prelude.{[]}
use denote.RawPtr.{null_ptr}
use Rattle.region.specs.declared.region.Region.{Region}
use Rattle.region.specs.declared.slot.Slot.{Slot}
use Rattle.region.specs.Slot.{slot_of}

-- The region of no bytes at the null pointer.
abbrev pub empty_region : Region
empty_region = record { at = null_ptr; len = 0; content = [] }

-- The slot in which it lies: all 0.
abbrev pub empty_slot : Slot
empty_slot = slot_of empty_region
