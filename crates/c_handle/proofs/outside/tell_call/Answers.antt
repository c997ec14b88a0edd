use Rattle.machine.specs.Seen.{state_of}
use Rattle.c_handle.proofs.Asked.{is_allowed}
use Rattle.c_handle.proofs.outside.tell_call.Goals as goal

pub returns-clause-allowed : goal.returns-clause-allowed
returns-clause-allowed g c = is_allowed (state_of c.args.machine.now) c.args.handed c.disk_call-asked.result c.requires.asked c.disk_call-asked.ensures.asked c.disk_call-asked.ensures.allowed
