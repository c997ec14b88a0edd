use Rattle.chains.proofs.ServiceFootprint.{give_local, send_local}
use Rattle.chains.proofs.laws.beside.services_are_local.Goals as goal

pub returns-clause-send : goal.returns-clause-send
returns-clause-send c = send_local

pub returns-clause-give : goal.returns-clause-give
returns-clause-give c = give_local
