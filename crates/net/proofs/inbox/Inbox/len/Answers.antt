use Rattle.std.proofs.Common.{arith}
use Rattle.net.proofs.Keeping.{few_waiting}
use Rattle.net.proofs.inbox.Inbox.len.Goals as goal

pub returns-clause-few : goal.returns-clause-few
returns-clause-few c = omega (arith, c.len.ensures.len, c.self.invariant.each, c.self.invariant.most_are, few_waiting c.self.inside.longest)
