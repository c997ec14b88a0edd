use Rattle.std.proofs.Common.{◌∙◌, length}
use Rattle.wire.proofs.Saving.{head_low}
use Rattle.wire.proofs.request_writing.request_head.Goals as goal

pub returns : goal.returns
returns c =
    rw (c.len.ensures, c.len-2.ensures) at c.head_bytes.ensures
    ∙ head_low c.args.request.now (length c.args.request.now.readable) (length c.args.request.now.writable)
