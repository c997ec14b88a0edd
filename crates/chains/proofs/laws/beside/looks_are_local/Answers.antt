use Rattle.chains.proofs.LookFootprint.{answers_local, look_same}
use Rattle.chains.proofs.laws.beside.looks_are_local.Goals as goal

pub returns-clause-answers : goal.returns-clause-answers
returns-clause-answers c = answers_local

pub returns-clause-pieces : goal.returns-clause-pieces
returns-clause-pieces c = look_same
