use Rattle.std.proofs.Common.{arith}
use Rattle.wire.proofs.RequestLemmas.{length-request_text}
use Rattle.wire.proofs.request_writing.request_len.Goals as goal

pub returns : goal.returns
returns c = omega (arith, length-request_text c.args.request.now, c.len.ensures, c.len-2.ensures)
