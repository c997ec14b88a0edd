use Rattle.std.proofs.Common.{[], ◌∙◌}
use Rattle.std.proofs.lemmas.Result.{err_from_is_err_and}
use Rattle.receiver.specs.Disks.{disk_marks_of, sizes_of}
use Rattle.rehearsal.proofs.Pieces.{fed_on, no_others, received_end, refused_end, refused_piece}
use Rattle.rehearsal.proofs.rehearsing.receive_in_pieces.Goals as goal

pub returns-in_err-feed-clause-refused : goal.returns-in_err-feed-clause-refused
returns-in_err-feed-clause-refused g c =
    let i = c.loop-cut.invariant in
    let told = err_from_is_err_and c.from_residual.result c.from_residual.ensures.1 in
    rw (told.1, told.2) (refused_piece c.args.base (sizes_of g.E.Disk.state c.args.disks.items) (disk_marks_of g.E.Disk.state c.args.disks.items) c.feed.new.self.marks c.loop-cut.receiver c.args.bytes.now c.loop-cut.rest.now c.split_at.result.0.now c.split_at.result.1.now c.in_err-feed.field-0.0
    i.ram i.sizes i.marks i.fed c.split_at.ensures.by_index.0 c.in_err-feed.ensures.marks c.in_err-feed.ensures.told)

pub loop-cut-preserved : goal.loop-cut-preserved
loop-cut-preserved g c =
    let i = c.loop-cut.invariant in
    record {
      ram = c.in_ok-feed.ensures.ram ∙ i.ram;
      sizes = c.in_ok-feed.ensures.sizes ∙ i.sizes;
      marks = c.in_ok-feed.ensures.marks ∙ i.marks;
      fed = fed_on c.loop-cut.receiver c.feed.new.self c.args.bytes.now c.loop-cut.rest.now c.split_at.result.0.now c.split_at.result.1.now i.fed c.split_at.ensures.by_index.0 c.in_ok-feed.ensures.fed;
    }

pub returns-in_err-feed-2-clause-refused : goal.returns-in_err-feed-2-clause-refused
returns-in_err-feed-2-clause-refused g c =
    let i = c.loop-cut.invariant in
    let told = err_from_is_err_and c.from_residual-in_err-feed-2.result c.from_residual-in_err-feed-2.ensures.1 in
    rw (told.1, told.2) (refused_piece c.args.base (sizes_of g.E.Disk.state c.args.disks.items) (disk_marks_of g.E.Disk.state c.args.disks.items) c.feed-2.new.self.marks c.loop-cut.receiver c.args.bytes.now c.loop-cut.rest.now c.loop-cut.rest.now [] c.in_err-feed-2.field-0.0
    i.ram i.sizes i.marks i.fed (no_others c.loop-cut.rest.now) c.in_err-feed-2.ensures.marks c.in_err-feed-2.ensures.told)

pub returns-clause-received : goal.returns-clause-received
returns-clause-received g c =
    let i = c.loop-cut.invariant in
    received_end c.finish.result (disk_marks_of g.E.Disk.state c.args.disks.items) c.loop-cut.receiver c.feed-2.new.self c.args.bytes.now c.loop-cut.rest.now i.marks c.in_ok-feed-2.ensures.marks i.fed c.in_ok-feed-2.ensures.fed c.finish.ensures.received

pub returns-clause-refused : goal.returns-clause-refused
returns-clause-refused g c =
    let i = c.loop-cut.invariant in
    refused_end c.finish.result c.args.base (sizes_of g.E.Disk.state c.args.disks.items) (disk_marks_of g.E.Disk.state c.args.disks.items) c.loop-cut.receiver c.feed-2.new.self c.args.bytes.now c.loop-cut.rest.now
    i.ram i.sizes i.fed c.in_ok-feed-2.ensures.fed c.in_ok-feed-2.ensures.quiet c.finish.ensures.refused
