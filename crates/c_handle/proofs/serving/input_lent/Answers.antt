use Rattle.machine.specs.Direct.{accepted_reply}
use Rattle.c_handle.proofs.ByParked.{told_input}
use Rattle.c_handle.proofs.serving.input_lent.Goals as goal

pub returns : goal.returns
returns g c = let told = c.input.ensures in told_input _ _ _ _ (accepted_reply c.input.result) _ _ _ c.answer_status.ensures.accepted_status c.answer_status.ensures.accepted told.applied told.sectors told.calls
