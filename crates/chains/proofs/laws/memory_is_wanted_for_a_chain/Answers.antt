use Rattle.chains.proofs.ChainLaws.{wanting_waits}
use Rattle.chains.proofs.laws.memory_is_wanted_for_a_chain.Goals as goal

pub returns-clause-message : goal.returns-clause-message
returns-clause-message c = wanting_waits
