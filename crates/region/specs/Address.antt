-- Where a region lies.
use denote.RawPtr.{Ptr}
use Rattle.region.specs.declared.region.Region.{Region}

-- The address of its first byte. Of a region of no bytes it may be anything.
abbrev pub address : Region → Ptr
address r = r.at
