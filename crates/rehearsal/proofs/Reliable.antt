-- Disks that never fail, and machines over them.
use Rattle.std.proofs.Common.{◌≡◌, ℕ, zero, suc, Bool, true, false, List, [], ◌∷◌, refl, sym, ap, ◌∙◌, subst, map, true≢false}
use Rattle.std.specs.Prelude.{MatchOption, Option, Some, None, if◌then◌else◌}
use Rattle.std.specs.List.{AllByRecursion}
use Rattle.std.proofs.lemmas.List.Elements.{All-from_recursion, recursion_from_All}
use Rattle.machine.specs.Applied.{FailsOnlyUnsteady, marks_after}
use Rattle.machine.specs.First.{dealt_marks, given, left_over, marks_in}
use Rattle.machine.specs.Outcome.{is_failure}
use Rattle.machine.specs.Seen.{Marks, Seen, all_marks, failed_at, marks_at, no_marks}
use Rattle.machine.specs.Shapes.{disk_size_of}
use Rattle.machine.specs.declared.event.Event.{Event}
use Rattle.machine.specs.declared.event.Event.TheVariants.{RegRead, RegWrite, MemRead, MemWrite, Step, Input, Resize, Drop, Disk}
use Rattle.machine.specs.declared.reply.Reply.{Reply}
use Rattle.machine.specs.declared.shape.Shape.{Shape}
use Rattle.receiver.specs.Disks.{disk_marks_of}
use Rattle.sender.specs.Calls.{AfterBegin, AfterCopy, AfterRound, AfterStop, Does, Guests}
use Rattle.sender.specs.LiveState.{LiveSeen, refusal_for}
use Rattle.sender.specs.declared.event.LiveEvent.{LiveEvent}
use Rattle.sender.specs.declared.event.LiveEvent.TheVariants.{Guest, Begin, Copy, EndRound, Stop}
use Rattle.sender.specs.declared.event.LiveReply.{LiveReply}
use Rattle.sender.specs.declared.event.LiveReply.TheVariants as r
use Rattle.sender.specs.declared.mig_error.MigError.{MigError}
use Rattle.sender.specs.declared.mig_error.MigError.TheVariants as errors
use Rattle.rehearsal.specs.InMemory.{ApplyingStaysReliable, AreReliable, FailingStaysReliable, MachinesAreReliable, MemoryIsReliable, ReliableIsHonest, ServingStaysReliable, memory_state}

abbrev IsReliable : Marks → Type 0
IsReliable k = k ≡ no_marks

-- By recursion.
abbrev Each : List Marks → Type 0
Each marks = AllByRecursion IsReliable marks

each : (marks : List Marks) → AreReliable marks → Each marks
each marks all = recursion_from_All IsReliable marks all

together : (marks : List Marks) → Each marks → AreReliable marks
together marks all = All-from_recursion IsReliable marks all

-- Disks in memory.
handed_in : (disks : List (List (List ℕ))) → Each (map (λ (d : List (List ℕ)). marks_in (memory_state d)) disks)
handed_in [] = tt
handed_in (d ∷ disks) = (refl, handed_in disks)

as_received : (disks : List (List (List ℕ))) → Each (disk_marks_of memory_state disks)
as_received [] = tt
as_received (d ∷ disks) = (refl, as_received disks)

pub memory_is_reliable : MemoryIsReliable
memory_is_reliable disks = record { for_a_machine = together _ (handed_in disks); for_a_receiver = together _ (as_received disks) }

-- What a device gets of reliable disks, or of none, is reliable.
one_given : (size : Option ℕ) (marks : List Marks) → Each marks → IsReliable (given no_marks size marks)
one_given None marks all = refl
one_given (Some n) [] all = refl
one_given (Some n) (k ∷ marks) all = all.0

rest_given : (size : Option ℕ) (marks : List Marks) → Each marks → Each (left_over size marks)
rest_given None marks all = all
rest_given (Some n) [] all = tt
rest_given (Some n) (k ∷ marks) all = all.1

all_given : (shapes : List Shape) (marks : List Marks) → Each marks → Each (dealt_marks shapes marks)
all_given [] marks all = tt
all_given (shape ∷ shapes) marks all = (one_given (disk_size_of shape) marks all, all_given shapes (left_over (disk_size_of shape) marks) (rest_given (disk_size_of shape) marks all))

pub machines_are_reliable : MachinesAreReliable
machines_are_reliable m shapes marks all are = subst AreReliable (sym are) (together _ (all_given shapes marks (each marks all)))

-- None of them may fail.
found : (marks : List Marks) (dev : ℕ) → Each marks → (marks_at marks dev).steady ≡ true
found [] dev all = refl
found (k ∷ marks) zero all = ap (λ (x : Marks). x.steady) all.0
found (k ∷ marks) (suc dev) all = found marks dev all.1

never : (marks : List Marks) (dev : ℕ) → AreReliable marks → ¬ ((marks_at marks dev).steady ≡ false)
never marks dev all unsteady = true≢false (sym (found marks dev (each marks all)) ∙ unsteady)

pub reliable_is_honest : ReliableIsHonest
reliable_is_honest marks all =
    record {
      honest = λ k d below. ap (λ (x : Marks). x.honest) (all k d below);
      steady = λ dev. found marks dev (each marks all);
    }

-- After an event.
after_step : (marks : List Marks) (dev pick : ℕ) (reply : Reply) (b : Bool) → is_failure reply ≡ b → AreReliable marks → FailsOnlyUnsteady marks (Step dev pick) reply → AreReliable (if b then failed_at marks dev else marks)
after_step marks dev pick reply false is all unsteady = all
after_step marks dev pick reply true is all unsteady = absurd (never marks dev all (unsteady is))

after_event : (marks : List Marks) (e : Event) (reply : Reply) → AreReliable marks → FailsOnlyUnsteady marks e reply → AreReliable (marks_after marks e reply)
after_event marks (RegRead dev off width) reply all unsteady = all
after_event marks (RegWrite dev off width value) reply all unsteady = all
after_event marks (MemRead addr len) reply all unsteady = all
after_event marks (MemWrite addr bytes) reply all unsteady = all
after_event marks (Step dev pick) reply all unsteady = after_step marks dev pick reply (is_failure reply) refl all unsteady
after_event marks (Input dev bytes) reply all unsteady = all
after_event marks (Resize dev cols rows) reply all unsteady = all
after_event marks (Drop dev) reply all unsteady = all
after_event marks (Disk dev pick given) reply all unsteady = all

pub applying_stays_reliable : ApplyingStaysReliable
applying_stays_reliable m next e reply all applied = subst AreReliable (sym applied.marks) (after_event (all_marks m) e reply all applied.unsteady)

-- After a call of a migration, which leaves the machine as it is, or says that a disk failed.
kept : (m next : Seen) → all_marks next ≡ all_marks m → AreReliable (all_marks m) → AreReliable (all_marks next)
kept m next same all = subst AreReliable (sym same) all

same : (l next : LiveSeen) → next ≡ l → AreReliable (all_marks l.machine) → AreReliable (all_marks next.machine)
same l next is all = subst (λ (x : LiveSeen). AreReliable (all_marks x.machine)) (sym is) all

after_guest : (l next : LiveSeen) (e : Event) (reply : LiveReply) → AreReliable (all_marks l.machine) → Guests l e reply next → AreReliable (all_marks next.machine)
after_guest l next e (r.Guest reply) all after = applying_stays_reliable l.machine next.machine e reply all after.is_applied
after_guest l next e _ all after = absurd after

after_begin : (l next : LiveSeen) (reply : LiveReply) → AreReliable (all_marks l.machine) → AfterBegin l reply next → AreReliable (all_marks next.machine)
after_begin l next (r.Begun k) all after = kept l.machine next.machine (ap all_marks after.1.machine) all
after_begin l next (r.Mig errors.StreamFailed) all after = kept l.machine next.machine after.machine.marks all
after_begin l next _ all after = absurd after

after_copy : (l next : LiveSeen) (reply : LiveReply) → AreReliable (all_marks l.machine) → AfterCopy l reply next → AreReliable (all_marks next.machine)
after_copy l next (r.Copied item) all after = kept l.machine next.machine after.sent.machine.marks all
after_copy l next r.RoundDone all after = same l next after.1 all
after_copy l next (r.Mig (errors.DiskFailed dev n)) all after = absurd (never (all_marks l.machine) dev all after.unread.unsteady)
after_copy l next (r.Mig errors.StreamFailed) all after = kept l.machine next.machine after.machine.marks all
after_copy l next _ all after = absurd after

after_round : (l next : LiveSeen) (reply : LiveReply) → AreReliable (all_marks l.machine) → AfterRound l reply next → AreReliable (all_marks next.machine)
after_round l next (r.Begun k) all after = kept l.machine next.machine (ap all_marks after.1.machine) all
after_round l next r.RoundOpen all after = same l next after.1 all
after_round l next (r.Mig errors.StreamFailed) all after = kept l.machine next.machine after.machine.marks all
after_round l next _ all after = absurd after

after_stop : (l next : LiveSeen) (reply : LiveReply) → AreReliable (all_marks l.machine) → AfterStop l reply next → AreReliable (all_marks next.machine)
after_stop l next (r.Stopped pages sectors) all after = kept l.machine next.machine after.machine.marks all
after_stop l next (r.Mig (errors.DiskFailed dev n)) all after =
    absurd (never (all_marks after.between.machine) dev (kept l.machine after.between.machine after.are_sent.machine.marks all) after.unread.unsteady)
after_stop l next (r.Mig errors.StreamFailed) all after = kept l.machine next.machine after.machine.marks all
after_stop l next _ all after = absurd after

after_call : (l next : LiveSeen) (e : LiveEvent) (reply : LiveReply) → AreReliable (all_marks l.machine) → Does l e reply next → AreReliable (all_marks next.machine)
after_call l next (Guest e) reply all after = after_guest l next e reply all after
after_call l next Begin reply all after = after_begin l next reply all after
after_call l next Copy reply all after = after_copy l next reply all after
after_call l next EndRound reply all after = after_round l next reply all after
after_call l next Stop reply all after = after_stop l next reply all after

either_way : (o : Option MigError) (l next : LiveSeen) (e : LiveEvent) (reply : LiveReply) → AreReliable (all_marks l.machine) → MatchOption o (Does l e reply next) (λ x. (reply ≡ r.Mig x) × (next ≡ l)) → AreReliable (all_marks next.machine)
either_way None l next e reply all served = after_call l next e reply all served
either_way (Some x) l next e reply all served = same l next served.1 all

pub serving_stays_reliable : ServingStaysReliable
serving_stays_reliable l next e reply all served = either_way (refusal_for l.phase e) l next e reply all served

-- A flush that fails in place of its step.
pub failing_stays_reliable : FailingStaysReliable
failing_stays_reliable m next dev pick are f = subst AreReliable (sym f.marks) are
