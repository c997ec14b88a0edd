use Rattle.std.proofs.Common.{◌∙◌}
use Rattle.vmig.proofs.playing.new_machine.Goals as goal

pub returns-in-Err-clause-memory : goal.returns-in-Err-clause-memory
returns-in-Err-clause-memory g c = λ none. c.reason.ensures ∙ (rw c.in-Err.is at (c.make.ensures.memory (rw c.program_limits.ensures none)))
