use Rattle.chains.proofs.LookFootprint.{refuses_local, sees_local}
use Rattle.chains.proofs.laws.beside.sights_are_local.Goals as goal

pub returns-clause-sees : goal.returns-clause-sees
returns-clause-sees c = sees_local

pub returns-clause-refuses : goal.returns-clause-refuses
returns-clause-refuses c = refuses_local
