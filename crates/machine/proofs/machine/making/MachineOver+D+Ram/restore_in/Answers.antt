use Rattle.std.proofs.Common.{length, map, Some, ◌∙◌}
use Rattle.machine.specs.First.{counted, marked, marks_in}
use Rattle.machine.proofs.Keeping.{rings_made}
use Rattle.machine.proofs.Dealt.{are_calls, are_marks, counted_calls, counted_content, counted_marks, devices_long, is_held, is_made, marked_marks}
use Rattle.machine.proofs.machine.making.MachineOver+D+Ram.restore_in.Goals as goal

pub invariant_of-result : goal.invariant_of-result
invariant_of-result g c =
    let a = c.args in
    let plain = marked (map g.D.Disk.state a.disks.items) a.bad.items in
    let calls = map g.D.Disk.calls a.disks.items in
    let disks = counted calls plain in (
      is_held a.shapes.items a.ram a.states.items disks c.filled-devices.result.1.items c.filled-devices.ensures.devices (rw (counted_content calls plain) c.requires.sound) c.requires.shapes,
      rings_made c.filled-devices.result.2.items a.ram c.filled-devices.result.1.items (length a.states.items) c.filled-devices.ensures.rings (rw c.filled-devices.ensures.devices (devices_long a.states.items disks)),
    )

pub returns-clause-restored : goal.returns-clause-restored
returns-clause-restored g c =
    let a = c.args in
    let plain = marked (map g.D.Disk.state a.disks.items) a.bad.items in
    let calls = map g.D.Disk.calls a.disks.items in
    rw (counted_content calls plain) at (is_made a.ram a.states.items (counted calls plain) c.filled-devices.result.1.items c.filled-devices.ensures.devices)

pub returns-clause-marks : goal.returns-clause-marks
returns-clause-marks g c =
    let a = c.args in
    let plain = marked (map g.D.Disk.state a.disks.items) a.bad.items in
    let calls = map g.D.Disk.calls a.disks.items in
    are_marks a.shapes.items a.states.items (counted calls plain) (map (λ d. marks_in (g.D.Disk.state d)) a.disks.items) c.filled-devices.result.1.items c.filled-devices.ensures.devices c.requires.shapes
    (counted_marks calls plain ∙ marked_marks g.D.Disk.state a.disks.items a.bad.items c.requires.bad)

pub returns-clause-calls : goal.returns-clause-calls
returns-clause-calls g c =
    let a = c.args in
    are_calls a.shapes.items a.states.items (counted (map g.D.Disk.calls a.disks.items) (marked (map g.D.Disk.state a.disks.items) a.bad.items)) (map (λ d. Some (g.D.Disk.calls d)) a.disks.items) c.filled-devices.result.1.items c.filled-devices.ensures.devices c.requires.shapes
    (counted_calls g.D.Disk.state g.D.Disk.calls a.disks.items a.bad.items c.requires.bad)

pub returns-clause-sound : goal.returns-clause-sound
returns-clause-sound g c =
    let a = c.args in
    let plain = marked (map g.D.Disk.state a.disks.items) a.bad.items in
    let calls = map g.D.Disk.calls a.disks.items in
    (is_held a.shapes.items a.ram a.states.items (counted calls plain) c.filled-devices.result.1.items c.filled-devices.ensures.devices (rw (counted_content calls plain) c.requires.sound) c.requires.shapes).sound
