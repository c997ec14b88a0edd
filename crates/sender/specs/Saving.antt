-- The results of sending parts of a machine, and the state after it.
use Rattle.std.specs.Prelude.{◌≡◌, ℕ, ◌+◌, ◌%◌, ◌^◌, ◌++◌, List, Bool, true, false, IsTrue, Result, Ok, Err, IfErr, OnOk, if◌then◌else◌}
use Rattle.guestmem.specs.Item as items
use Rattle.machine.specs.Applied.{IsGood}
use Rattle.machine.specs.EffectLaws.{sector_on, sectors_on}
use Rattle.machine.specs.Seen.{AreHonest, Marks, Seen, all_marks, failed_at, marks_at, state_of, all_flushed}
use Rattle.sender.specs.Told.{IsTold}
use Rattle.sender.specs.declared.mig_error.MigError.{MigError}
use Rattle.sender.specs.declared.mig_error.MigError.TheVariants.{DiskFailed, StreamFailed}
use Rattle.wire.specs.Records.{Record, spelled_record}
use Rattle.wire.specs.Sinks.{Digested, SinkState, Takes}

-- Whether the writer failed.
abbrev pub has_writer_failed : {A : Type 0} → Result A MigError → Bool
has_writer_failed (Ok x) = false
has_writer_failed (Err StreamFailed) = true
has_writer_failed (Err e) = false

-- The marks of the disks after some of their sectors were read.
abbrev pub marks_after : {A : Type 0} → List Marks → Result A MigError → List Marks
marks_after marks (Ok x) = marks
marks_after marks (Err (DiskFailed dev sector)) = failed_at marks dev
marks_after marks (Err e) = marks

-- The only errors are a failed disk and a failed writer. A failed disk is not steady, and the sector named with it is one that
-- it has and that is not bad.
abbrev pub IsNamed : Seen → MigError → Type 0
IsNamed s (DiskFailed dev n) = ((marks_at (all_marks s) dev).steady ≡ false) × IsGood (sector_on (sectors_on (state_of s) dev) n)
IsNamed s StreamFailed = Unit {0}
IsNamed s e = ⊥

-- If a disk failed as an item was read, the error names this item, and nothing was written.
pub record IsUnwritten (i : items.Item) (dev n : ℕ) (out new_out : SinkState) (sum new_sum : Digested) : Type 0 where
  pub names : items.sector dev n ≡ i
  pub out_stays : new_out ≡ out
  pub sum_stays : new_sum ≡ sum

abbrev pub NamesItem : items.Item → MigError → SinkState → SinkState → Digested → Digested → Type 0
NamesItem i (DiskFailed dev n) out new_out sum new_sum = IsUnwritten i dev n out new_out sum new_sum
NamesItem i e out new_out sum new_sum = Unit {0}

-- A call that adds these bytes to a sink, and may read sectors for them. The machine is unchanged. The writer's count of
-- failures rises exactly where the result says that the writer failed, and a disk's exactly where it says that this disk
-- failed. On success, exactly these bytes were added if the disks and the sink are honest.
pub record Sends {A : Type 0} (old : Seen) (out : SinkState) (bytes : List ℕ) (result : Result A MigError) (new : Seen) (new_out : SinkState) : Type 0 where
  pub memory : new.memory ≡ old.memory
  pub state : state_of new ≡ state_of old
  pub flushed : all_flushed new ≡ all_flushed old
  pub marks : all_marks new ≡ marks_after (all_marks old) result
  pub named : IfErr result (λ e. IsNamed old e)
  pub count : new_out.failures ≡ (if has_writer_failed result then (out.failures + 1) % 2 ^ 64 else out.failures)
  pub holds : OnOk result (AreHonest old → IsTrue out.honest → IsTrue new_out.honest × (new_out.held ≡ out.held ++ bytes))

-- As above, for the digest of the bytes: on success, if the disks are honest, it takes these bytes too.
abbrev pub TakesOn : {A : Type 0} → Seen → Digested → List ℕ → Result A MigError → Digested → Type 0
TakesOn old sum bytes result new_sum = OnOk result (AreHonest old → Takes sum bytes new_sum)

-- The record of an item was added, if the sink is honest, and its digest takes it too, with any disks.
pub record AddsItem (s : Seen) (i : items.Item) (out : SinkState) (sum : Digested) (new_out : SinkState) (new_sum : Digested) : Type 0 where
  pub entry : Record
  pub told : IsTold s i entry
  pub holds : IsTrue out.honest → IsTrue new_out.honest × (new_out.held ≡ out.held ++ spelled_record entry)
  pub takes : Takes sum (spelled_record entry) new_sum
