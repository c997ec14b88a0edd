-- Requests in the body of a block device. Every number is little-endian.
use Rattle.std.specs.Prelude.{ℕ, List, [], ◌∷◌, ◌++◌, length}
use Rattle.std.specs.List.{flat_map}
use Rattle.chains.specs.declared.segs.Seg.{Seg}
use Rattle.blk.specs.Request.{verdict_byte}
use Rattle.blk.specs.declared.request.Kind.{Kind}
use Rattle.blk.specs.declared.request.Kind.TheVariants.{Refused, In, Out, Flush, GetId, Zero}
use Rattle.blk.specs.declared.request.Request.{Request}
use Rattle.wire.specs.Numbers.{spelled, digits}

-- A segment, in 12 bytes: its address and its length.
abbrev pub seg_widths : List ℕ
seg_widths = 8 ∷ 4 ∷ []

abbrev pub seg_numbers : Seg → List ℕ
seg_numbers s = s.addr ∷ s.len ∷ []

unfoldable pub seg_text : Seg → List ℕ
seg_text s = spelled seg_widths (seg_numbers s)

abbrev pub segs_text : List Seg → List ℕ
segs_text segs = flat_map seg_text segs

-- The number that encodes the kind of a request.
abbrev pub kind_number : Kind → ℕ
kind_number Refused = 0
kind_number In = 1
kind_number Out = 2
kind_number Flush = 3
kind_number GetId = 4
kind_number Zero = 5

-- The head of a request, in 26 bytes: its id and its slots, its kind and its verdict (the number of the status), its first
-- sector, its units and how many of them are done, and the counts of its readable and of its writable segments.
abbrev pub request_widths : List ℕ
request_widths = 2 ∷ 2 ∷ 1 ∷ 1 ∷ 8 ∷ 4 ∷ 4 ∷ 2 ∷ 2 ∷ []

abbrev pub request_numbers : Request → ℕ → ℕ → List ℕ
request_numbers r readable writable = r.id ∷ r.slots ∷ kind_number r.kind ∷ verdict_byte r.verdict ∷ r.first ∷ r.units ∷ r.done ∷ readable ∷ writable ∷ []

unfoldable pub head_text : Request → ℕ → ℕ → List ℕ
head_text r readable writable = spelled request_widths (request_numbers r readable writable)

-- A request: its head, and its segments, the readable ones first.
abbrev pub request_text : Request → List ℕ
request_text r = head_text r (length r.readable) (length r.writable) ++ (segs_text r.readable ++ segs_text r.writable)

-- Requests one after another, with their count before them in one byte.
abbrev pub requests_text : List Request → List ℕ
requests_text requests = digits 1 (length requests) ++ flat_map request_text requests
