-- The disks of a receiver, and what its calls do to them.
use Rattle.std.specs.Prelude.{◌≡◌, ℕ, List, map, length, All, IsTrue, false, Result, Ok, Err}
use Rattle.blk.specs.Disk.{DiskState}
use Rattle.machine.specs.First.{marks_in}
use Rattle.machine.specs.Seen.{Marks, failed_at, marks_at}
use Rattle.receiver.specs.declared.recv_error.RecvError.{RecvError}
use Rattle.receiver.specs.declared.recv_error.RecvError.TheVariants.{DiskFailed}

-- The sizes of disks, in sectors, and what is known of them besides their sectors.
abbrev pub sizes_in : List DiskState → List ℕ
sizes_in disks = map (λ d. length d.sectors) disks

abbrev pub all_marks_in : List DiskState → List Marks
all_marks_in disks = map marks_in disks

abbrev pub sizes_of : {D : Type 0} → (D → DiskState) → List D → List ℕ
sizes_of state disks = sizes_in (map state disks)

abbrev pub disk_marks_of : {D : Type 0} → (D → DiskState) → List D → List Marks
disk_marks_of state disks = all_marks_in (map state disks)

-- Each disk is honest: a read gives what was written.
abbrev pub AreHonestDisks : List Marks → Type 0
AreHonestDisks marks = All (λ m. IsTrue m.honest) marks

-- A disk is not steady: it may fail.
pub record IsUnsteady (marks : List Marks) : Type 0 where
  pub disk : ℕ
  pub unsteady : (marks_at marks disk).steady ≡ false

-- One disk failed, once. It is not steady.
pub record HasFailed (old new : List Marks) : Type 0 where
  pub disk : ℕ
  pub unsteady : (marks_at old disk).steady ≡ false
  pub rose : new ≡ failed_at old disk

-- The marks of the disks after a refusal: if it says that a disk failed, the failure count of one disk, which is not steady,
-- went up by one; otherwise they are as before.
abbrev pub MarksRefused : List Marks → RecvError → List Marks → Type 0
MarksRefused old DiskFailed new = HasFailed old new
MarksRefused old _ new = new ≡ old

-- The marks of the disks after a call.
abbrev pub MarksAfter : {A : Type 0} → List Marks → Result A RecvError → List Marks → Type 0
MarksAfter old (Ok x) new = new ≡ old
MarksAfter old (Err e) new = MarksRefused old e new

-- A call keeps the sizes of the disks, and their marks except for the failure that a refusal reports.
pub record AreKept (old new : List DiskState) : Type 0 where
  pub sizes : sizes_in new ≡ sizes_in old
  pub marks : all_marks_in new ≡ all_marks_in old

pub record AreRefused (old new : List DiskState) (e : RecvError) : Type 0 where
  pub sizes : sizes_in new ≡ sizes_in old
  pub marks : MarksRefused (all_marks_in old) e (all_marks_in new)
