-- What a slot has in common with the region that lies in it: all.
use Rattle.region.specs.declared.region.Region.{Region}
use Rattle.region.specs.declared.slot.Slot.{Slot}

-- The region that lies in a slot.
abbrev pub region_of : Slot → Region
region_of s = record { at = s.at; len = s.len; content = s.content }

-- The slot in which a region lies.
abbrev pub slot_of : Region → Slot
slot_of r = record { at = r.at; len = r.len; content = r.content }
