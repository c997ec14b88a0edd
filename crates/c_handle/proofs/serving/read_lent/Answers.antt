use Rattle.machine.specs.Direct.{value_reply}
use Rattle.c_handle.proofs.ByParked.{told_read}
use Rattle.c_handle.proofs.serving.read_lent.Goals as goal

pub returns : goal.returns
returns g c = let told = c.read_register.ensures in told_read _ _ _ _ (value_reply c.read_register.result) _ _ _ c.answer_status.ensures.value_status c.answer_status.ensures.value told
