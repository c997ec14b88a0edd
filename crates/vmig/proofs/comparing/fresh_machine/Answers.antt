use Rattle.std.proofs.Common.{◌≡◌, ap, map, length, Err, None, refl, ◌∙◌}
use Rattle.std.proofs.lemmas.Result.{err_from_is_err_and}
use Rattle.machine.specs.Shapes.{disk_sizes}
use Rattle.machine.specs.declared.new_error.NewError.TheVariants.{BadShape, NoMemory}
use Rattle.traces.specs.Trace.{contents_of}
use Rattle.vmig.specs.Allowing.{trace_refusal}
use Rattle.vmig.proofs.ComparingFresh.{fresh_without, is_fresh, tells, tells_memory, told_first, told_then, wants_disks}
use Rattle.vmig.specs.declared.fault.Fault.TheVariants as faults
use Rattle.vmig.proofs.MemoryDisks.{zeros_sized}
use Rattle.vmig.proofs.comparing.fresh_machine.Goals as goal

pub returns-in_err-disks-in-Err-DiskMismatch-clause-failed : goal.returns-in_err-disks-in-Err-DiskMismatch-clause-failed
returns-in_err-disks-in-Err-DiskMismatch-clause-failed c =
    let shapes = c.as_slice-shapes.result.now in
    let told = err_from_is_err_and c.from_residual.result c.from_residual.ensures.1 in
    let none : trace_refusal c.args.trace.now.pages shapes (disk_sizes shapes) ≡ None = wants_disks c.args.trace.now.pages shapes (map length c.new-none.result.items) c.new_machine.result (ap (map length) c.new-none.ensures.items) (c.in-Err-DiskMismatch.is ∙ ap Err c.in-Err-DiskMismatch.field-0-is) c.new_machine.ensures.refused c.new_machine.ensures.memory in
    rw told.1 (tells_memory (contents_of c.args.trace.now) shapes told.0 c.as_slice-shapes.ensures.value none told.2)

pub returns-in_err-machine-in-Err-DiskMismatch-clause-failed : goal.returns-in_err-machine-in-Err-DiskMismatch-clause-failed
returns-in_err-machine-in-Err-DiskMismatch-clause-failed c =
    let shapes = c.as_slice-shapes.result.now in
    let disks = c.in_ok-disks-in-Err-DiskMismatch.disks.items in
    let told = err_from_is_err_and c.from_residual-in_err-machine-in-Err-DiskMismatch.result c.from_residual-in_err-machine-in-Err-DiskMismatch.ensures.1 in
    rw told.1 (tells (contents_of c.args.trace.now) shapes told.0 c.as_slice-shapes.ensures.value
    (told_then c.args.trace.now.pages shapes (map length disks) c.new_machine-in-Err-DiskMismatch.result _ told.0 (zeros_sized shapes disks c.in_ok-disks-in-Err-DiskMismatch.ensures) c.in_err-machine-in-Err-DiskMismatch.was c.new_machine-in-Err-DiskMismatch.ensures.refused c.new_machine-in-Err-DiskMismatch.ensures.memory told.2))

pub returns-in-Ok-clause-fresh : goal.returns-in-Ok-clause-fresh
returns-in-Ok-clause-fresh c = fresh_without _ c.in-Ok.machine c.as_slice-shapes.result.now c.new-none.result.items c.new_machine.result _ c.as_slice-shapes.ensures.value c.new-none.ensures.items c.in-Ok.is c.new_machine.ensures.refused c.in-Ok.ensures.made c.in-Ok.ensures.marks

pub returns-in_ok-machine-in-Err-DiskMismatch-clause-fresh : goal.returns-in_ok-machine-in-Err-DiskMismatch-clause-fresh
returns-in_ok-machine-in-Err-DiskMismatch-clause-fresh c = is_fresh _ c.in_ok-machine-in-Err-DiskMismatch.machine c.as_slice-shapes.result.now c.in_ok-disks-in-Err-DiskMismatch.disks.items c.as_slice-shapes.ensures.value c.in_ok-disks-in-Err-DiskMismatch.ensures
    (wants_disks c.args.trace.now.pages c.as_slice-shapes.result.now (map length c.new-none.result.items) c.new_machine.result (ap (map length) c.new-none.ensures.items) (c.in-Err-DiskMismatch.is ∙ ap Err c.in-Err-DiskMismatch.field-0-is) c.new_machine.ensures.refused c.new_machine.ensures.memory)
    c.in_ok-machine-in-Err-DiskMismatch.ensures.made c.in_ok-machine-in-Err-DiskMismatch.ensures.marks

pub returns-in-Err-BadShape : goal.returns-in-Err-BadShape
returns-in-Err-BadShape c =
    let shapes = c.as_slice-shapes.result.now in
    record {
      fresh = tt;
      failed = tells (contents_of c.args.trace.now) shapes c.from.result c.as_slice-shapes.ensures.value
          (told_first c.args.trace.now.pages shapes (map length c.new-none.result.items) c.new_machine.result BadShape c.from.result (ap (map length) c.new-none.ensures.items) (c.in-Err-BadShape.is ∙ ap Err c.in-Err-BadShape.field-0-is) c.new_machine.ensures.refused c.new_machine.ensures.memory (λ wrong. cc) c.from.ensures);
    }

pub returns-in-Err-NoMemory : goal.returns-in-Err-NoMemory
returns-in-Err-NoMemory c =
    let shapes = c.as_slice-shapes.result.now in
    record {
      fresh = tt;
      failed = tells (contents_of c.args.trace.now) shapes faults.NoMemory c.as_slice-shapes.ensures.value
          (told_first c.args.trace.now.pages shapes (map length c.new-none.result.items) c.new_machine.result NoMemory faults.NoMemory (ap (map length) c.new-none.ensures.items) (c.in-Err-NoMemory.is ∙ ap Err c.in-Err-NoMemory.field-0-is) c.new_machine.ensures.refused c.new_machine.ensures.memory (λ wrong. cc) refl);
    }
