-- Machines over disks in memory.
use Rattle.std.proofs.Common.{◌≡◌, ◌≤◌, ◌<◌, arith, ℕ, Bool, true, false, List, [], ◌∷◌, refl, sym, ap, ◌∙◌, subst, map, true≢false}
use Rattle.std.specs.Prelude.{All, Option, Some, None, option_map, slice_get, IsTrue, if◌then◌else◌}
use Rattle.std.proofs.lemmas.List.Elements.{All-map}
use Rattle.std.proofs.lemmas.Option.{slice_get-map}
use Rattle.machine.specs.Applied.{marks_after, FailsOnlyUnsteady}
use Rattle.machine.specs.Outcome.{is_failure}
use Rattle.machine.specs.Seen.{Seen, DeviceSeen, AreHonest, Marks, all_marks, failed_at, marks_at, no_marks, or_no_marks, state_of}
use Rattle.machine.specs.declared.event.Event.{Event}
use Rattle.machine.specs.declared.event.Event.TheVariants.{RegRead, RegWrite, MemRead, MemWrite, Step, Input, Resize, Drop, Disk}
use Rattle.machine.specs.declared.reply.Reply.{Reply}
use Rattle.machine.specs.Applied.{IsHonestFor}
use Rattle.machine.specs.Outcome.{outcome_of}
use Rattle.machine.specs.Step.{IsStep}
use Rattle.machine.specs.StepLaws.{IsRefusal}
use Rattle.machine.proofs.Containing.{refusals_quiet}
use Rattle.machine.proofs.Honest.{honest_step}
use Rattle.machine.specs.declared.reply.Reply.TheVariants.{Value, Done, OutByte, Bytes, Idle, Taken, Moved, BadSector, DiskFailed, Completed, Sent, Dropped, Accepted, NeedsReset, NoMemory, Refused}
use Rattle.c_machine.specs.Status.{status_of}
use Rattle.c_machine.specs.Plain.{ArePlain, PlainStays, RefusedChangesNothing}

-- What is alike is that many times.
pub as_many : {A B C : Type 0} (x : C) (f : A → C) (xs : List A) (ys : List B) → map f xs ≡ map (λ (y : B). x) ys → map f xs ≡ map (λ (y : A). x) xs
as_many x f [] ys are = refl
as_many x f (a ∷ xs) [] are = absurd cc
as_many x f (a ∷ xs) (b ∷ ys) are =
    let first : f a ≡ x = cc in
    let rest : map f xs ≡ map (λ (y : _). x) ys = cc in
    rw (first, as_many x f xs ys rest) refl

at_none : (found : Option DeviceSeen) → or_no_marks (option_map (λ (d : DeviceSeen). no_marks) found) ≡ no_marks
at_none None = refl
at_none (Some d) = refl

pub plain_at : (m : Seen) (dev : ℕ) → ArePlain m → marks_at (all_marks m) dev ≡ no_marks
plain_at m dev plain = rw (plain, slice_get-map (λ (d : DeviceSeen). no_marks) m.devices dev) (at_none (slice_get m.devices dev))

pub are_honest : (m : Seen) → ArePlain m → AreHonest m
are_honest m plain = subst (λ (l : List Marks). All (λ k. IsTrue k.honest) l) (sym plain) (All-map (λ (k : Marks). IsTrue k.honest) (λ (d : DeviceSeen). no_marks) m.devices (λ k d below. refl))

-- No disk of such a machine fails.
step_marks : (m : Seen) (dev pick : ℕ) (reply : Reply) (b : Bool) → is_failure reply ≡ b → ArePlain m → FailsOnlyUnsteady (all_marks m) (Step dev pick) reply
    → (if b then failed_at (all_marks m) dev else all_marks m) ≡ all_marks m
step_marks m dev pick reply false is plain unsteady = refl
step_marks m dev pick reply true is plain unsteady =
    let steady : (marks_at (all_marks m) dev).steady ≡ true = ap (λ (k : Marks). k.steady) (plain_at m dev plain) in
    absurd (true≢false (sym steady ∙ unsteady is))

same_marks : (m : Seen) (e : Event) (reply : Reply) → ArePlain m → FailsOnlyUnsteady (all_marks m) e reply → marks_after (all_marks m) e reply ≡ all_marks m
same_marks m (RegRead dev off width) reply plain unsteady = refl
same_marks m (RegWrite dev off width value) reply plain unsteady = refl
same_marks m (MemRead addr len) reply plain unsteady = refl
same_marks m (MemWrite addr bytes) reply plain unsteady = refl
same_marks m (Step dev pick) reply plain unsteady = step_marks m dev pick reply (is_failure reply) refl plain unsteady
same_marks m (Input dev bytes) reply plain unsteady = refl
same_marks m (Resize dev cols rows) reply plain unsteady = refl
same_marks m (Drop dev) reply plain unsteady = refl
same_marks m (Disk dev pick given) reply plain unsteady = refl

pub plain_stays : PlainStays
plain_stays m next e reply plain applied =
    as_many no_marks (λ (d : DeviceSeen). d.marks) next.devices m.devices (applied.marks ∙ same_marks m e reply plain applied.unsteady ∙ plain)

-- A disk in memory is honest, so a machine after an event is as its step says.
honest_for : (m : Seen) (e : Event) → ArePlain m → IsHonestFor (all_marks m) e
honest_for m (RegRead dev off width) plain = tt
honest_for m (RegWrite dev off width value) plain = tt
honest_for m (MemRead addr len) plain = tt
honest_for m (MemWrite addr bytes) plain = tt
honest_for m (Step dev pick) plain = ap (λ (k : Marks). k.honest) (plain_at m dev plain)
honest_for m (Input dev bytes) plain = tt
honest_for m (Resize dev cols rows) plain = tt
honest_for m (Drop dev) plain = tt
honest_for m (Disk dev pick given) plain = tt

pub is_refusal : (reply : Reply) → 1 ≤ status_of reply → status_of reply < 64 → IsRefusal reply
is_refusal (Value v) some few = absurd (omega (arith, some))
is_refusal Done some few = absurd (omega (arith, some))
is_refusal (OutByte byte) some few = absurd (omega (arith, few))
is_refusal (Bytes bytes) some few = absurd (omega (arith, some))
is_refusal Idle some few = absurd (omega (arith, few))
is_refusal Taken some few = absurd (omega (arith, few))
is_refusal Moved some few = absurd (omega (arith, few))
is_refusal BadSector some few = absurd (omega (arith, few))
is_refusal DiskFailed some few = absurd (omega (arith, few))
is_refusal (Completed len) some few = absurd (omega (arith, few))
is_refusal (Sent bytes) some few = absurd (omega (arith, few))
is_refusal Dropped some few = absurd (omega (arith, few))
is_refusal (Accepted count) some few = absurd (omega (arith, some))
is_refusal NeedsReset some few = absurd (omega (arith, few))
is_refusal NoMemory some few = tt
is_refusal (Refused refusal) some few = tt

pub refused_quiet : RefusedChangesNothing
refused_quiet m next e reply plain applied some few =
    let step : IsStep (state_of m) e (outcome_of reply) reply (state_of next) = honest_step m next e reply applied (honest_for m e plain) in
    refusals_quiet (state_of m) e (outcome_of reply) reply (state_of next) step (is_refusal reply some few)
