use Rattle.wire.proofs.Sinks.{digested}
use Rattle.wire.proofs.digesting.Eager.digest.Goals as goal

pub returns-clause-digest : goal.returns-clause-digest
returns-clause-digest g c = digested c.args.self.now.taken c.digest_so_far.result c.digest_so_far.ensures
