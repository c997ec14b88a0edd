use Rattle.std.proofs.Common.{◌≡◌, length}
use Rattle.chains.specs.Places.{places}
use Rattle.blk.specs.Take.{header_of, segment_of}
use Rattle.blk.proofs.Tasks.{same_task}
use Rattle.blk.proofs.taking.task_for.Goals as goal

pub returns : goal.returns
returns c =
    let chain = c.args.chain.now in
    let header : c.copy_out_with_base.new.buf ≡ header_of c.args.base c.args.ram.now.bytes chain = rw c.as_slice.ensures at c.copy_out_with_base.ensures in
    rw (c.task_of.ensures, c.total_len.ensures, c.total_len-2.ensures, header)
    (same_task (header_of c.args.base c.args.ram.now.bytes chain) c.segment_for-segment.result (segment_of c.args.base c.args.ram.now.bytes chain) (length (places chain.readable)) (length (places chain.writable)) c.args.limits (rw header at c.segment_for-segment.ensures))
