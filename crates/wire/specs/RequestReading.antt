-- How requests are decoded. That this is the inverse of the encoding is proved in `proofs/`.
use Rattle.std.specs.Prelude.{ℕ, zero, suc, ◌+◌, ◌*◌, List, [], ◌∷◌, length, take, drop, nat_lt, ◌==◌, ◌||◌, if◌then◌else◌, Option, Some, None}
use Rattle.guestmem.specs.Number.{number_at}
use Rattle.chains.specs.declared.segs.Seg.{Seg}
use Rattle.blk.specs.declared.request.Kind.{Kind}
use Rattle.blk.specs.declared.request.Kind.TheVariants.{Refused, In, Out, Flush, GetId, Zero}
use Rattle.blk.specs.declared.request.Verdict.{Verdict}
use Rattle.blk.specs.declared.request.Verdict.TheVariants.{Good, IoError, Unsupported}
use Rattle.blk.specs.declared.request.Request.{Request}
use Rattle.wire.specs.Numbers.{numbers}
use Rattle.wire.specs.RequestText.{seg_widths, request_widths}

abbrev pub seg_from : List ℕ → Seg
seg_from (a ∷ b ∷ rest) = record { addr = a; len = b }
seg_from numbers = record { addr = 0; len = 0 }

-- The segment in the first 12 bytes.
unfoldable pub seg_of : List ℕ → Seg
seg_of bytes = seg_from (numbers seg_widths 0 bytes)

-- The first n segments, of 12 bytes each.
unfoldable pub segs_of : ℕ → List ℕ → List Seg
segs_of zero bytes = []
segs_of (suc n) bytes = seg_of bytes ∷ segs_of n (drop 12 bytes)

-- The kind of a request, by a number that is at most 5, and its verdict, by one that is at most 2.
abbrev pub kind_of : ℕ → Kind
kind_of n = if n == 0 then Refused else if n == 1 then In else if n == 2 then Out else if n == 3 then Flush else if n == 4 then GetId else Zero

abbrev pub verdict_of : ℕ → Verdict
verdict_of n = if n == 0 then Good else if n == 1 then IoError else Unsupported

abbrev pub request_from : List ℕ → List Seg → List Seg → Request
request_from (a ∷ b ∷ c ∷ d ∷ e ∷ f ∷ g ∷ rest) readable writable = record { id = a; slots = b; kind = kind_of c; verdict = verdict_of d; first = e; units = f; done = g; readable = readable; writable = writable }
request_from numbers readable writable = record { id = 0; slots = 0; kind = Refused; verdict = Good; first = 0; units = 0; done = 0; readable = readable; writable = writable }

-- The request with these segments whose head is the first 26 bytes.
unfoldable pub headed_by : List ℕ → List Seg → List Seg → Request
headed_by bytes readable writable = request_from (numbers request_widths 0 bytes) readable writable

-- The request whose head is at the front of `bytes`, with this many readable and writable segments at the front of `rest`, and
-- the bytes after them.
abbrev pub request_with : List ℕ → ℕ → ℕ → List ℕ → Option (Request × List ℕ)
request_with bytes readable writable rest =
    if nat_lt (length rest) (12 * (readable + writable)) then None
    else Some (
      headed_by bytes (segs_of readable (take (12 * readable) rest)) (segs_of writable (take (12 * writable) (drop (12 * readable) rest))),
      drop (12 * writable) (drop (12 * readable) rest),
    )

-- The request at the front of the bytes, and the bytes after it.
unfoldable pub request_of : List ℕ → Option (Request × List ℕ)
request_of bytes =
    if nat_lt (length bytes) 26 || nat_lt 5 (number_at bytes 4 1) || nat_lt 2 (number_at bytes 5 1) then None
    else request_with bytes (number_at bytes 22 2) (number_at bytes 24 2) (drop 26 bytes)
