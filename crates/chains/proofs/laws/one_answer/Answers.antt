use Rattle.chains.proofs.ChainLaws.{answer_same}
use Rattle.chains.proofs.laws.one_answer.Goals as goal

pub returns : goal.returns
returns c = answer_same
