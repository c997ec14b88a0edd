-- The head of each record: its tag and its fields of fixed length. The body follows it.
use Rattle.std.specs.Prelude.{◌≡◌, ◌≢◌, ◌<◌, ◌≤◌, ◌^◌, ℕ, true, false, List, [], ◌∷◌, ◌++◌, drop, length}
use Rattle.wire.specs.Numbers.{digits, flag}
use Rattle.wire.specs.declared.record_head.RecordHead.{RecordHead}
use Rattle.wire.specs.declared.record_head.RecordHead.TheVariants.{Page, Sector, RoundEnd, Device, Commit, ZeroPage}
use Rattle.wire.specs.declared.record_head.FoundHead.{FoundHead}
use Rattle.wire.specs.declared.record_head.FoundHead.TheVariants.{More, NoSuchTag, NoSuchMark, Whole}

-- The encoding of a head.
abbrev pub spelled_head : RecordHead → List ℕ
spelled_head (Page number) = 1 ∷ digits 4 number
spelled_head (Sector device number is_good) = 2 ∷ (device ∷ (digits 4 number ++ (flag is_good ∷ [])))
spelled_head (RoundEnd number) = 3 ∷ digits 4 number
spelled_head (Device number len) = 4 ∷ (number ∷ digits 4 len)
spelled_head Commit = 5 ∷ []
spelled_head (ZeroPage number) = 6 ∷ digits 4 number

-- The length of the body that follows a head.
abbrev pub body_len : RecordHead → ℕ
body_len (Page number) = 4096
body_len (Sector device number true) = 512
body_len (Sector device number false) = 0
body_len (RoundEnd number) = 0
body_len (Device number len) = len
body_len Commit = 32
body_len (ZeroPage number) = 0

-- Each number fits its field.
abbrev pub FitsHead : RecordHead → Type 0
FitsHead (Page number) = number < 2 ^ 32
FitsHead (Sector device number is_good) = (device < 256) × (number < 2 ^ 32)
FitsHead (RoundEnd number) = number < 2 ^ 32
FitsHead (Device number len) = (number < 256) × (len < 2 ^ 32)
FitsHead Commit = Unit {0}
FitsHead (ZeroPage number) = number < 2 ^ 32

-- The bytes begin with the encoding of this head.
pub record BeginsHead (bytes : List ℕ) (head : RecordHead) : Type 0 where
  pub fits : FitsHead head
  pub whole : bytes ≡ spelled_head head ++ drop (length (spelled_head head)) bytes

-- The bytes do not begin with the encoding of any head.
abbrev pub BeginsNoHead : List ℕ → Type 0
BeginsNoHead bytes = (head : RecordHead) (rest : List ℕ) → FitsHead head → ¬ (bytes ≡ spelled_head head ++ rest)

-- The bytes begin with no whole head, but can be continued to one of this length, and to none that is shorter.
pub record IsHeadCut (bytes : List ℕ) (len : ℕ) : Type 0 where
  pub none : BeginsNoHead bytes
  pub head : RecordHead
  pub more : List ℕ
  pub fits : FitsHead head
  pub whole : spelled_head head ≡ bytes ++ more
  pub long : length (spelled_head head) ≡ len
  pub least : (other : RecordHead) (rest : List ℕ) → spelled_head other ≡ bytes ++ rest → len ≤ length (spelled_head other)

-- The bytes begin with a tag that no head has.
pub record BeginsNoTag (bytes : List ℕ) : Type 0 where
  pub tag : ℕ
  pub more : List ℕ
  pub whole : bytes ≡ tag ∷ more
  pub never : (head : RecordHead) (rest : List ℕ) → spelled_head head ≢ tag ∷ rest

-- The bytes begin with the tag and the fields of a sector, whose mark is neither 0 nor 1.
pub record BeginsNoMark (bytes : List ℕ) : Type 0 where
  pub device : ℕ
  pub number : ℕ
  pub mark : ℕ
  pub more : List ℕ
  pub whole : bytes ≡ 2 ∷ (device ∷ (digits 4 number ++ (mark ∷ more)))
  pub fits : number < 2 ^ 32
  pub never : 1 < mark

-- What a reader of heads finds at the front of the bytes.
abbrev pub ReadsHead : List ℕ → FoundHead → Type 0
ReadsHead bytes (More len) = IsHeadCut bytes len
ReadsHead bytes NoSuchTag = BeginsNoTag bytes
ReadsHead bytes NoSuchMark = BeginsNoMark bytes
ReadsHead bytes (Whole head) = BeginsHead bytes head
