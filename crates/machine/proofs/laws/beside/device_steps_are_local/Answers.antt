use Rattle.machine.proofs.Footprint.{device_local, may_look_local, word_last}
use Rattle.machine.proofs.laws.beside.device_steps_are_local.Goals as goal

pub returns-clause-sees : goal.returns-clause-sees
returns-clause-sees c = may_look_local

pub returns-clause-same : goal.returns-clause-same
returns-clause-same c = device_local

pub returns-clause-word : goal.returns-clause-word
returns-clause-word c = word_last
