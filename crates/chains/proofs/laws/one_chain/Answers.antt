use Rattle.chains.proofs.ChainLaws.{chain_same}
use Rattle.chains.proofs.laws.one_chain.Goals as goal

pub returns : goal.returns
returns c = chain_same
