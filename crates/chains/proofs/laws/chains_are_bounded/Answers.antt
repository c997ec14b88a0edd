use Rattle.chains.proofs.ChainLaws.{chain_bounded}
use Rattle.chains.proofs.laws.chains_are_bounded.Goals as goal

pub returns : goal.returns
returns c = chain_bounded
