-- Disks that are honest and steady stay so.
use Rattle.std.proofs.Common.{◌≡◌, ℕ, zero, suc, List, [], ◌∷◌, get_or, cond, Bool, true, false, All, IsTrue, refl, ap, sym, ◌∙◌, arith}
use Rattle.std.specs.List.{AllByRecursion}
use Rattle.std.proofs.lemmas.List.Elements.{All-from_recursion, All-set}
use Rattle.std.proofs.lemmas.Option.{slice_get-get_or}
use Rattle.machine.specs.Applied.{marks_after, marks_run}
use Rattle.machine.specs.First.{dealt_marks}
use Rattle.machine.specs.Outcome.{is_failure}
use Rattle.machine.specs.Seen.{Marks, Seen, all_marks, failed_at, failed_once, marks_at, or_no_marks}
use Rattle.machine.specs.declared.event.Event.{Event}
use Rattle.machine.specs.declared.event.Event.TheVariants.{RegRead, RegWrite, MemRead, MemWrite, Step, Input, Resize, Drop, Disk}
use Rattle.machine.specs.declared.reply.Reply.{Reply}
use Rattle.machine.specs.declared.shape.Shape.{Shape}
use Rattle.machine.proofs.Dealing.{dealt_all}
use Rattle.receiver.specs.Disks.{IsUnsteady, disk_marks_of}
use Rattle.rehearsal.specs.Rehearsing.{HasAnswered, HasPlayed}
use Rattle.sender.specs.declared.event.LiveEvent.{LiveEvent}
use Rattle.sender.specs.declared.event.LiveReply.{LiveReply}
use Rattle.rehearsal.specs.InMemory.{memory_state}
use Rattle.vmig.specs.Comparing.{AreSteady}

abbrev pub IsSteady : Marks → Type 0
IsSteady m = IsTrue m.honest × IsTrue m.steady

pub honest_if : (marks : List Marks) → AreSteady marks → All (λ m. IsTrue m.honest) marks
honest_if marks are = λ k d below. (are k d below).0

pub steady_at : (marks : List Marks) (dev : ℕ) → AreSteady marks → IsSteady (marks_at marks dev)
steady_at [] dev are = (refl, refl)
steady_at (m ∷ marks) zero are = are 0 m (omega arith)
steady_at (m ∷ marks) (suc dev) are = steady_at marks dev (λ k d below. are (suc k) d (omega (arith, below)))

pub never_unsteady : (marks : List Marks) → AreSteady marks → ¬ (IsUnsteady marks)
never_unsteady marks are h = let is : true ≡ false = sym (steady_at marks h.disk are).1 ∙ h.unsteady in cc

pub not_unsteady : (marks : List Marks) (dev : ℕ) → AreSteady marks → ¬ ((marks_at marks dev).steady ≡ false)
not_unsteady marks dev are unsteady = let is : true ≡ false = sym (steady_at marks dev are).1 ∙ unsteady in cc

-- A failure is no mark that they are not.
failing_stays : (marks : List Marks) (dev : ℕ) (failed : Bool) → AreSteady marks → AreSteady (cond failed (failed_at marks dev) marks)
failing_stays marks dev true are = All-set IsSteady marks dev (failed_once (marks_at marks dev)) (steady_at marks dev are) are
failing_stays marks dev false are = are

event_stays : (marks : List Marks) (e : Event) (r : Reply) → AreSteady marks → AreSteady (marks_after marks e r)
event_stays marks (RegRead dev off width) r are = are
event_stays marks (RegWrite dev off width value) r are = are
event_stays marks (MemRead addr len) r are = are
event_stays marks (MemWrite addr bytes) r are = are
event_stays marks (Step dev pick) r are = failing_stays marks dev (is_failure r) are
event_stays marks (Input dev bytes) r are = are
event_stays marks (Resize dev cols rows) r are = are
event_stays marks (Drop dev) r are = are
event_stays marks (Disk dev pick given) r are = are

run_stays : (marks : List Marks) (es : List Event) (rs : List Reply) → AreSteady marks → AreSteady (marks_run marks es rs)
run_stays marks [] rs are = are
run_stays marks (e ∷ es) [] are = are
run_stays marks (e ∷ es) (r ∷ rs) are = run_stays (marks_after marks e r) es rs (event_stays marks e r are)

pub played_stays : (old new : Seen) (es : List Event) (rs : List Reply) → HasPlayed old es rs new → AreSteady (all_marks old) → AreSteady (all_marks new)
played_stays old new es rs played are = rw played.marks (run_stays (all_marks old) es rs are)

-- So do those of a machine that answers.
both_stay : (old new : List Marks) → All (λ m. IsTrue m.honest) new → ((dev : ℕ) → (marks_at new dev).steady ≡ (marks_at old dev).steady) → AreSteady old → AreSteady new
both_stay old new honest same are = λ k d below.
    let here : marks_at new k ≡ get_or new k d = ap or_no_marks (slice_get-get_or new k d below) in
    (honest k d below, ap (λ (m : Marks). m.steady) (sym here) ∙ same k ∙ (steady_at old k are).1)

pub answered_stays : (machine source : Seen) (events : List LiveEvent) (replies : List LiveReply) → HasAnswered machine events replies source → AreSteady (all_marks machine) → AreSteady (all_marks source)
answered_stays machine source events replies answered are = both_stay (all_marks machine) (all_marks source) (answered.honest (honest_if (all_marks machine) are)) answered.steady are

-- A machine over such disks has such disks.
pub dealt_steady : (shapes : List Shape) (marks : List Marks) → AreSteady marks → AreSteady (dealt_marks shapes marks)
dealt_steady shapes marks are = dealt_all IsSteady (refl, refl) shapes marks are

each_in_memory : (disks : List (List (List ℕ))) → AllByRecursion IsSteady (disk_marks_of memory_state disks)
each_in_memory [] = tt
each_in_memory (d ∷ ds) = ((refl, refl), each_in_memory ds)

pub memory_steady : (disks : List (List (List ℕ))) → AreSteady (disk_marks_of memory_state disks)
memory_steady disks = All-from_recursion IsSteady _ (each_in_memory disks)
