use Rattle.std.proofs.Common.{length}
use Rattle.chains.proofs.LackLaws.{lacks_then}
use Rattle.blk.proofs.Footprint.{out_known}
use Rattle.blk.proofs.request.Request.lacks.Goals as goal

pub returns-in-Out : goal.returns-in-Out
returns-in-Out c =
    lacks_then (length c.args.ram.now.bytes) c.args.held.now c.lacks_bytes.result
    (λ known. out_known c.args.base c.args.held.now c.args.ram.now.bytes c.args.self.now c.in-Out.is (rw c.as_slice-segs.ensures at known))
    c.lacks_bytes.ensures
