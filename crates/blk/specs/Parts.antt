-- Laws of the answers of a disk outside: a run of sectors is its parts, and requests stay sound.
use Rattle.std.specs.Prelude.{◌≡◌, ℕ, ◌+◌, ◌%◌, ◌<◌, List, ◌++◌, length, true}
use Rattle.guestmem.specs.Writes.{set_all}
use Rattle.chains.specs.State.{RingState}
use Rattle.blk.specs.Outside.{Answer, Did, Gave, answer_step}
use Rattle.blk.specs.Sound.{AreSound}
use Rattle.blk.specs.declared.disk.TheConstants.{SECTOR_SIZE}
use Rattle.blk.specs.declared.request.Request.{Request}
use Rattle.blk.specs.declared.shape.Limits.{Limits}

-- The disk answers the k-th outstanding request, from 0, for a run of units. That is what it is to answer for the first of them, and then for
-- the others: all three answers are awaited, and RAM and the requests are the same.
pub record IsInParts (base : ℕ) (requests : List Request) (k : ℕ) (whole first second : Answer) : Type 0 where
  pub whole_is_taken : (answer_step base requests k whole).taken ≡ true
  pub first_is_taken : (answer_step base requests k first).taken ≡ true
  pub second_is_taken : (answer_step base (answer_step base requests k first).requests k second).taken ≡ true
  pub ram_is : (ram : List ℕ) → set_all ram (answer_step base requests k whole).writes ≡ set_all (set_all ram (answer_step base requests k first).writes) (answer_step base (answer_step base requests k first).requests k second).writes
  pub requests_are : (answer_step base requests k whole).requests ≡ (answer_step base (answer_step base requests k first).requests k second).requests

-- A run of sectors that is awaited may be cut after any of them.
abbrev pub BytesAreTheirParts : Type 0
BytesAreTheirParts = (base : ℕ) (requests : List Request) (k : ℕ) (front back : List ℕ) → (answer_step base requests k (Gave (front ++ back))).taken ≡ true → 0 < length front → length front % SECTOR_SIZE ≡ 0 → 0 < length back
    → IsInParts base requests k (Gave (front ++ back)) (Gave front) (Gave back)

-- Two answers that are awaited in turn are one run.
abbrev pub PartsAreTheirBytes : Type 0
PartsAreTheirBytes = (base : ℕ) (requests : List Request) (k : ℕ) (front back : List ℕ) → (answer_step base requests k (Gave front)).taken ≡ true → (answer_step base (answer_step base requests k (Gave front)).requests k (Gave back)).taken ≡ true
    → IsInParts base requests k (Gave (front ++ back)) (Gave front) (Gave back)

-- The same of units that were done.
abbrev pub UnitsAreTheirParts : Type 0
UnitsAreTheirParts = (base : ℕ) (requests : List Request) (k m n : ℕ) → (answer_step base requests k (Did (m + n))).taken ≡ true → 0 < m → 0 < n → IsInParts base requests k (Did (m + n)) (Did m) (Did n)

abbrev pub PartsAreTheirUnits : Type 0
PartsAreTheirUnits = (base : ℕ) (requests : List Request) (k m n : ℕ) → (answer_step base requests k (Did m)).taken ≡ true → (answer_step base (answer_step base requests k (Did m)).requests k (Did n)).taken ≡ true
    → IsInParts base requests k (Did (m + n)) (Did m) (Did n)

-- Whatever a disk answers, the requests stay sound.
abbrev pub AnswersLeaveSound : Type 0
AnswersLeaveSound = (len : ℕ) (q : RingState) (limits : Limits) (requests : List Request) (k : ℕ) (answer : Answer) → AreSound len q limits requests → AreSound len q limits (answer_step q.base requests k answer).requests
