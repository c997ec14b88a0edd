use Rattle.machine.specs.Direct.{written_result}
use Rattle.c_handle.proofs.ByParked.{told_write}
use Rattle.c_handle.proofs.serving.write_lent.Goals as goal

pub returns : goal.returns
returns g c = let told = c.write_register.ensures in told_write _ _ _ _ _ _ (written_result c.write_register.result) _ _ _ c.written_status.ensures.status c.written_status.ensures.number told.applied told.sectors told.calls
