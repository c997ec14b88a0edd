-- The marks of disks over a list of events: how often each failed, and that they stay honest or not, and steady or not.
use Rattle.std.proofs.Common.{◌≡◌, ℕ, Bool, true, false, cond, List, [], ◌∷◌, ◌++◌, length, Option, Some, None, refl, ap, ◌∙◌, arith}
use Rattle.std.specs.Prelude.{slice_get, IsTrue}
use Rattle.std.specs.List.{All}
use Rattle.std.proofs.lemmas.List.Elements.{All-set}
use Rattle.std.proofs.lemmas.Option.{get_or_from_slice_get, slice_get_within}
use Rattle.machine.specs.Applied.{FailOnlyUnsteady, FailsOnlyUnsteady, IsHonestFor, marks_after, marks_run}
use Rattle.machine.specs.Outcome.{is_failure}
use Rattle.machine.specs.Seen.{Marks, failed_at, failed_once, marks_at, or_no_marks}
use Rattle.machine.specs.declared.event.Event.{Event}
use Rattle.machine.specs.declared.event.Event.TheVariants.{RegRead, RegWrite, MemRead, MemWrite, Step, Input, Resize, Drop, Disk}
use Rattle.machine.specs.declared.reply.Reply.{Reply}

-- One event more.
pub marks_more : (old now : List Marks) {new : List Marks} (es : List Event) (rs : List Reply) (e : Event) (r : Reply) → length rs ≡ length es → now ≡ marks_run old es rs → new ≡ marks_after now e r → new ≡ marks_run old (es ++ e ∷ []) (rs ++ r ∷ [])
marks_more old now [] [] e r even is last = last ∙ ap (λ marks. marks_after marks e r) is
marks_more old now [] (s ∷ rs) e r even is last = absurd (omega (arith, even))
marks_more old now (f ∷ es) [] e r even is last = absurd (omega (arith, even))
marks_more old now (f ∷ es) (s ∷ rs) e r even is last = marks_more (marks_after old f s) now es rs e r (omega (arith, even)) is last

pub unsteady_more : (old now : List Marks) (es : List Event) (rs : List Reply) (e : Event) (r : Reply) → length rs ≡ length es → now ≡ marks_run old es rs → FailOnlyUnsteady old es rs → FailsOnlyUnsteady now e r → FailOnlyUnsteady old (es ++ e ∷ []) (rs ++ r ∷ [])
unsteady_more old now [] [] e r even is so_far last = (rw (← is) last, tt)
unsteady_more old now [] (s ∷ rs) e r even is so_far last = absurd (omega (arith, even))
unsteady_more old now (f ∷ es) [] e r even is so_far last = absurd (omega (arith, even))
unsteady_more old now (f ∷ es) (s ∷ rs) e r even is so_far last = (so_far.0, unsteady_more (marks_after old f s) now es rs e r (omega (arith, even)) is so_far.1 last)

-- An honest disk stays honest, also where it fails.
honest_at : (marks : List Marks) (dev : ℕ) → All (λ (m : Marks). IsTrue m.honest) marks → (found : Option Marks) → slice_get marks dev ≡ found → IsTrue (or_no_marks found).honest
honest_at marks dev all None at = refl
honest_at marks dev all (Some m) at = rw (get_or_from_slice_get marks dev m m at) at (all dev m (slice_get_within marks dev m at))

failing_stays : (marks : List Marks) (dev : ℕ) (failed : Bool) → All (λ (m : Marks). IsTrue m.honest) marks → All (λ (m : Marks). IsTrue m.honest) (cond failed (failed_at marks dev) marks)
failing_stays marks dev true all = All-set (λ (m : Marks). IsTrue m.honest) marks dev (failed_once (marks_at marks dev)) (honest_at marks dev all (slice_get marks dev) refl) all
failing_stays marks dev false all = all

event_stays : (marks : List Marks) (e : Event) (r : Reply) → All (λ (m : Marks). IsTrue m.honest) marks → All (λ (m : Marks). IsTrue m.honest) (marks_after marks e r)
event_stays marks (RegRead dev off width) r all = all
event_stays marks (RegWrite dev off width value) r all = all
event_stays marks (MemRead addr len) r all = all
event_stays marks (MemWrite addr bytes) r all = all
event_stays marks (Step dev pick) r all = failing_stays marks dev (is_failure r) all
event_stays marks (Input dev bytes) r all = all
event_stays marks (Resize dev cols rows) r all = all
event_stays marks (Drop dev) r all = all
event_stays marks (Disk dev pick given) r all = all

run_stays : (marks : List Marks) (es : List Event) (rs : List Reply) → All (λ (m : Marks). IsTrue m.honest) marks → All (λ (m : Marks). IsTrue m.honest) (marks_run marks es rs)
run_stays marks [] rs all = all
run_stays marks (e ∷ es) [] all = all
run_stays marks (e ∷ es) (r ∷ rs) all = run_stays (marks_after marks e r) es rs (event_stays marks e r all)

pub honest_stays : (old now : List Marks) (es : List Event) (rs : List Reply) → now ≡ marks_run old es rs → All (λ (m : Marks). IsTrue m.honest) old → All (λ (m : Marks). IsTrue m.honest) now
honest_stays old now es rs is all = rw is (run_stays old es rs all)

pub honest_for : (marks : List Marks) (e : Event) → All (λ (m : Marks). IsTrue m.honest) marks → IsHonestFor marks e
honest_for marks (RegRead dev off width) all = tt
honest_for marks (RegWrite dev off width value) all = tt
honest_for marks (MemRead addr len) all = tt
honest_for marks (MemWrite addr bytes) all = tt
honest_for marks (Step dev pick) all = honest_at marks dev all (slice_get marks dev) refl
honest_for marks (Input dev bytes) all = tt
honest_for marks (Resize dev cols rows) all = tt
honest_for marks (Drop dev) all = tt
honest_for marks (Disk dev pick given) all = tt
