use Rattle.std.proofs.Common.{ℕ, List, false, length, map, refl, inl, inr}
use Rattle.std.proofs.lemmas.Result.{err_from_is_err_and}
use Rattle.machine.specs.Seen.{AreHonest}
use Rattle.traces.specs.Trace.{contents_of}
use Rattle.vmig.specs.Allowing.{trace_refusal}
use Rattle.vmig.specs.Words.{name_in}
use Rattle.wire.specs.Sinks.{over_writer}
use Rattle.vmig.specs.Playing.{IsOutput}
use Rattle.vmig.proofs.Answered.{answered_over}
use Rattle.vmig.proofs.ComparingFresh.{made_none, told_by, why_not}
use Rattle.vmig.proofs.HonestDisks.{honest_devices}
use Rattle.vmig.proofs.NoMemoryTold.{memory_told}
use Rattle.vmig.proofs.playing.replies_to.Goals as goal

pub returns-in_ok-file-in-Some-clause-played : goal.returns-in_ok-file-in-Some-clause-played
returns-in_ok-file-in-Some-clause-played g c = λ honest.
    let marks : AreHonest c.in_ok-machine.machine = rw c.in_ok-machine.ensures.marks (honest_devices g.D.Disk.state c.as_slice.result.now c.args.disks.items honest) in
    rw (c.in_ok-machine.ensures.made, c.as_slice.ensures.value, c.as_slice-in-Some.ensures.value) at c.replies_of.ensures.played marks

pub returns-in-None-clause-played : goal.returns-in-None-clause-played
returns-in-None-clause-played g c = λ honest.
    let marks : AreHonest c.in_ok-machine.machine = rw c.in_ok-machine.ensures.marks (honest_devices g.D.Disk.state c.as_slice.result.now c.args.disks.items honest) in
    rw (c.in_ok-machine.ensures.made, c.as_slice.ensures.value, c.as_slice-in-None.ensures.value) at c.replies_of-in-None.ensures.played marks

pub returns-in_ok-file-in-Some-clause-failed : goal.returns-in_ok-file-in-Some-clause-failed
returns-in_ok-file-in-Some-clause-failed g c =
    let sizes : List ℕ = map (λ d. length (g.D.Disk.state d).sectors) c.args.disks.items in
    memory_told c.in_ok-machine.machine c.replies_of.result (name_in c.args.stream) (contents_of c.args.trace.now) sizes (rw c.as_slice.ensures.value at c.in_ok-machine.ensures.refused) c.replies_of.ensures.memory

pub returns-in_ok-file-in-Some-clause-answered : goal.returns-in_ok-file-in-Some-clause-answered
returns-in_ok-file-in-Some-clause-answered g c =
    let out = over_writer (g.R.File.Write.contents c.in_ok-file-in-Some.file) 0 false in
    answered_over (λ r. r.items) c.replies_of.result (IsOutput g.R.File.Write.contents (name_in c.args.stream)) (contents_of c.args.trace.now) _ c.in_ok-machine.machine out
    (rw c.as_slice.ensures.value at c.in_ok-machine.ensures.made) (rw c.in-Some.is (c.in_ok-file-in-Some.file, refl)) (rw c.as_slice-in-Some.ensures.value at c.replies_of.ensures.answered)

pub returns-in-None-clause-answered : goal.returns-in-None-clause-answered
returns-in-None-clause-answered g c =
    answered_over (λ r. r.items) c.replies_of-in-None.result (IsOutput g.R.File.Write.contents (name_in c.args.stream)) (contents_of c.args.trace.now) _ c.in_ok-machine.machine _
    (rw c.as_slice.ensures.value at c.in_ok-machine.ensures.made) (rw c.in-None.is refl) (rw (c.as_slice-in-None.ensures.value, c.new-nowhere.ensures.items) at c.replies_of-in-None.ensures.answered)

pub returns-in-None-clause-failed : goal.returns-in-None-clause-failed
returns-in-None-clause-failed g c =
    let sizes : List ℕ = map (λ d. length (g.D.Disk.state d).sectors) c.args.disks.items in
    memory_told c.in_ok-machine.machine c.replies_of-in-None.result (name_in c.args.stream) (contents_of c.args.trace.now) sizes (rw c.as_slice.ensures.value at c.in_ok-machine.ensures.refused) c.replies_of-in-None.ensures.memory

pub returns-in_err-machine-clause-answered : goal.returns-in_err-machine-clause-answered
returns-in_err-machine-clause-answered g c = rw (err_from_is_err_and c.from_residual.result c.from_residual.ensures.1).1 tt

pub returns-in_err-machine-clause-played : goal.returns-in_err-machine-clause-played
returns-in_err-machine-clause-played g c = λ honest. rw (err_from_is_err_and c.from_residual.result c.from_residual.ensures.1).1 tt

pub returns-in_err-machine-clause-failed : goal.returns-in_err-machine-clause-failed
returns-in_err-machine-clause-failed g c =
    let told = err_from_is_err_and c.from_residual.result c.from_residual.ensures.1 in
    let sizes : List ℕ = map (λ d. length (g.D.Disk.state d).sectors) c.args.disks.items in
    let refusal = trace_refusal c.args.trace.now.pages c.args.trace.now.shapes.items sizes in
    rw told.1 (inl (told_by refusal _ told.0 (why_not refusal c.new_machine.result _ c.in_err-machine.was (rw c.as_slice.ensures.value at c.new_machine.ensures.refused) (rw c.as_slice.ensures.value at c.new_machine.ensures.memory)) told.2))

pub returns-in_err-file-in-Some-clause-answered : goal.returns-in_err-file-in-Some-clause-answered
returns-in_err-file-in-Some-clause-answered g c = rw (err_from_is_err_and c.from_residual-in_err-file-in-Some.result c.from_residual-in_err-file-in-Some.ensures.1).1 tt

pub returns-in_err-file-in-Some-clause-played : goal.returns-in_err-file-in-Some-clause-played
returns-in_err-file-in-Some-clause-played g c = λ honest. rw (err_from_is_err_and c.from_residual-in_err-file-in-Some.result c.from_residual-in_err-file-in-Some.ensures.1).1 tt

pub returns-in_err-file-in-Some-clause-failed : goal.returns-in_err-file-in-Some-clause-failed
returns-in_err-file-in-Some-clause-failed g c =
    let told = err_from_is_err_and c.from_residual-in_err-file-in-Some.result c.from_residual-in_err-file-in-Some.ensures.1 in
    let sizes : List ℕ = map (λ d. length (g.D.Disk.state d).sectors) c.args.disks.items in
    let refusal = trace_refusal c.args.trace.now.pages c.args.trace.now.shapes.items sizes in
    rw (told.1, told.2, c.in-Some.is) (inr (made_none refusal c.new_machine.result _ c.in_ok-machine.was (rw c.as_slice.ensures.value at c.new_machine.ensures.refused), c.in_err-file-in-Some.ensures))
