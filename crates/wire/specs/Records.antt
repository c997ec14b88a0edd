-- The records of a stream. The encoding of each is a head and a body.
use Rattle.std.specs.Prelude.{◌≡◌, ◌≢◌, not, ◌<◌, ◌^◌, ℕ, Bool, true, false, ◌==◌, ◌&&◌, if◌then◌else◌, List, [], ◌++◌, length, drop, Option, Some, None, option_map}
use Rattle.guestmem.specs.Number.{IsBytes}
use Rattle.guestmem.specs.Zeros.{are_zeros}
use Rattle.wire.specs.RecordHeads.{spelled_head}
use Rattle.wire.specs.declared.record.Record as slices
use Rattle.wire.specs.declared.record.Record.TheVariants as read
use Rattle.wire.specs.declared.record_head.RecordHead.{RecordHead}
use Rattle.wire.specs.declared.record_head.RecordHead.TheVariants.{Page, Sector, RoundEnd, Device, Commit, ZeroPage}

-- A page of RAM; a sector of a device's disk, bad where it has no bytes; the end of a round of copying; a device, by its
-- number and its body; the digest of all bytes before it, with which a stream ends; and, since version 2, a page of zeros.
pub data Record : Type 0 where
  page : ℕ → List ℕ → Record
  sector : ℕ → ℕ → Option (List ℕ) → Record
  round_end : ℕ → Record
  device : ℕ → List ℕ → Record
  commit : List ℕ → Record
  zero_page : ℕ → Record

-- The record that was read from a slice.
abbrev pub told : slices.Record → Record
told (read.Page number bytes) = page number bytes.now
told (read.Sector dev number bytes) = sector dev number (option_map (λ b. b.now) bytes)
told (read.RoundEnd number) = round_end number
told (read.Device number bytes) = device number bytes.now
told (read.Commit digest) = commit digest.now
told (read.ZeroPage number) = zero_page number

abbrev pub head_of : Record → RecordHead
head_of (page n bytes) = Page n
head_of (sector d n (Some bytes)) = Sector d n true
head_of (sector d n None) = Sector d n false
head_of (round_end n) = RoundEnd n
head_of (device d body) = Device d (length body)
head_of (commit digest) = Commit
head_of (zero_page n) = ZeroPage n

abbrev pub body_of : Record → List ℕ
body_of (page n bytes) = bytes
body_of (sector d n (Some bytes)) = bytes
body_of (sector d n None) = []
body_of (round_end n) = []
body_of (device d body) = body
body_of (commit digest) = digest
body_of (zero_page n) = []

unfoldable pub spelled_record : Record → List ℕ
spelled_record r = spelled_head (head_of r) ++ body_of r

-- The record with this head and this body. Where a body has no bytes, `bytes` has none.
abbrev pub record_with : RecordHead → List ℕ → Record
record_with (Page n) bytes = page n bytes
record_with (Sector d n true) bytes = sector d n (Some bytes)
record_with (Sector d n false) bytes = sector d n None
record_with (RoundEnd n) bytes = round_end n
record_with (Device d len) bytes = device d bytes
record_with Commit bytes = commit bytes
record_with (ZeroPage n) bytes = zero_page n

-- A record can be encoded if each number fits its field, and a page, a sector and a digest have their lengths.
abbrev pub HasSpelling : Record → Type 0
HasSpelling (page n bytes) = (n < 2 ^ 32) × (length bytes ≡ 4096) × IsBytes bytes
HasSpelling (sector d n (Some bytes)) = (d < 256) × (n < 2 ^ 32) × (length bytes ≡ 512) × IsBytes bytes
HasSpelling (sector d n None) = (d < 256) × (n < 2 ^ 32)
HasSpelling (round_end n) = n < 2 ^ 32
HasSpelling (device d body) = (d < 256) × (length body < 2 ^ 32) × IsBytes body
HasSpelling (commit digest) = (length digest ≡ 32) × IsBytes digest
HasSpelling (zero_page n) = n < 2 ^ 32

-- Whether a page with these bytes is encoded as a page of zeros: where they are all 0, since version 2.
abbrev pub is_zero_page : ℕ → List ℕ → Bool
is_zero_page version bytes = not (version == 1) && are_zeros bytes

-- The record of a page, in a version of the stream.
abbrev pub page_record : ℕ → ℕ → List ℕ → Record
page_record version n bytes = if is_zero_page version bytes then zero_page n else page n bytes

-- A version has this record. So a page has one encoding in each.
abbrev pub IsOf : ℕ → Record → Type 0
IsOf version (page n bytes) = is_zero_page version bytes ≡ false
IsOf version (zero_page n) = version ≢ 1
IsOf version _ = Unit {0}

-- The first `len` bytes are the encoding of this record, which the version has.
pub record BeginsRecord (version : ℕ) (bytes : List ℕ) (r : Record) (len : ℕ) : Type 0 where
  pub spells : HasSpelling r
  pub has : IsOf version r
  pub long : length (spelled_record r) ≡ len
  pub whole : bytes ≡ spelled_record r ++ drop len bytes

-- The bytes do not begin with the encoding of any record that the version has.
abbrev pub BeginsNoRecord : ℕ → List ℕ → Type 0
BeginsNoRecord version bytes = (r : Record) (rest : List ℕ) → HasSpelling r → IsOf version r → ¬ (bytes ≡ spelled_record r ++ rest)
