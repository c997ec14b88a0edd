use Rattle.std.proofs.Common.{◌≡◌, true, false, sym, ◌∙◌}
use Rattle.receiver.specs.Disks.{disk_marks_of, sizes_of}
use Rattle.receiver.specs.declared.recv_error.RecvError.TheVariants as errors
use Rattle.rehearsal.specs.Rehearsing.{DoFit}
use Rattle.rehearsal.proofs.Arriving.{arrived_with, mismatched, refused, refused_with}
use Rattle.rehearsal.proofs.rehearsing.rehearse.Goals as goal

pub returns-then-not-fits : goal.returns-then-not-fits
returns-then-not-fits g c =
    let sizes = sizes_of g.E.Disk.state c.args.disks.items in
    let marks = disk_marks_of g.E.Disk.state c.args.disks.items in
    let decided = rw c.shapes.ensures.shapes at (rw c.deref.ensures.value at c.are_disks_of-fits.ensures.fit) in
    let never : ¬ (DoFit sizes c.args.machine) = λ e. (let wrong : true ≡ false = sym (decided.1 e) ∙ c.if-not-fits.true in cc) in
    refused_with c.args.machine c.in-Ok.sent.source c.args.events.now sizes marks c.in-Ok.sent.replies.items errors.ShapeMismatch c.refused.result c.refused.ensures
    (mismatched c.args.machine c.in-Ok.sent.source c.args.events.now sizes marks c.in-Ok.sent.replies.items c.in-Ok.sent.bytes.items c.in-Ok.ensures.sent never)

pub returns-in-Err-receive_in_pieces : goal.returns-in-Err-receive_in_pieces
returns-in-Err-receive_in_pieces g c =
    let sizes = sizes_of g.E.Disk.state c.args.disks.items in
    let marks = disk_marks_of g.E.Disk.state c.args.disks.items in
    let decided = rw c.shapes.ensures.shapes at (rw c.deref.ensures.value at c.are_disks_of-fits.ensures.fit) in
    refused_with c.args.machine c.in-Ok.sent.source c.args.events.now sizes marks c.in-Ok.sent.replies.items c.in-Err-receive_in_pieces.error c.refused-in-Err-receive_in_pieces.result c.refused-in-Err-receive_in_pieces.ensures
    (refused c.args.machine c.in-Ok.sent.source c.args.events.now c.base.result sizes marks c.in-Ok.sent.replies.items c.in-Ok.sent.bytes.items c.in-Err-receive_in_pieces.error c.in-Ok.ensures.sent (decided.0 c.if-not-fits.false) c.base.ensures
    (rw c.deref-2.ensures.value at c.in-Err-receive_in_pieces.ensures.refused))

pub returns-in-Ok-receive_in_pieces : goal.returns-in-Ok-receive_in_pieces
returns-in-Ok-receive_in_pieces g c =
    let sizes = sizes_of g.E.Disk.state c.args.disks.items in
    let decided = rw c.shapes.ensures.shapes at (rw c.deref.ensures.value at c.are_disks_of-fits.ensures.fit) in
    arrived_with c.args.machine c.in-Ok.sent.source c.in-Ok-receive_in_pieces.arrived c.args.events.now sizes (disk_marks_of g.E.Disk.state c.args.disks.items) c.in-Ok.sent.bytes.items c.in-Ok.sent.replies.items c.go_on.result c.in-Ok.ensures.sent
    (decided.0 c.if-not-fits.false) (rw c.deref-2.ensures.value at c.in-Ok-receive_in_pieces.ensures.received) (c.in-Ok-receive_in_pieces.ensures.based ∙ c.base.ensures) c.in-Ok-receive_in_pieces.ensures.marks c.go_on.ensures
