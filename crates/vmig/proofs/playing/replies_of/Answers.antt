use Rattle.std.proofs.Common.{rules}
use Rattle.vmig.proofs.playing.replies_of.Goals as goal

pub returns-clause-answered : goal.returns-clause-answered
returns-clause-answered g c = record {
  last = _;
  after = _;
  served = rw c.new.ensures at c.replay-replies.ensures.served;
  each = search rules;
}

pub returns-clause-played : goal.returns-clause-played
returns-clause-played g c = λ honest. record { last = _; before = _; after = _; ran = c.replay-replies.ensures.ran honest }
