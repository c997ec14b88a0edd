use Rattle.std.proofs.Common.{sym}
use Rattle.disk_calls.proofs.Parts.{whole_may_go_in_part}
use Rattle.disk_calls.proofs.device_calls.DeviceCalls.next.Goals as goal

pub returns-in-Some-clause-part : goal.returns-in-Some-clause-part
returns-in-Some-clause-part c = λ fewer some less. whole_may_go_in_part c.args.self.now.size c.args.most fewer c.args.self.now.outs c.args.requests.now c.loop-k.k c.in-Some.call c.recall.ensures some less (sym c.in-Some.ensures.call)
