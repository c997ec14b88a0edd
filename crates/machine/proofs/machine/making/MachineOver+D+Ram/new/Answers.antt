use Rattle.std.proofs.Common.{◌∙◌}
use Rattle.machine.proofs.machine.making.MachineOver+D+Ram.new.Goals as goal

pub returns-in-Err-clause-memory : goal.returns-in-Err-clause-memory
returns-in-Err-clause-memory g c = λ none. c.reason.ensures ∙ c.in-Err.ensures.memory (rw (c.usual.ensures) none)
