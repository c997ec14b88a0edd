use Rattle.c_handle.proofs.ByParked.{told_drop}
use Rattle.c_handle.proofs.serving.drop_lent.Goals as goal

pub returns : goal.returns
returns g c = let told = c.drop_input.ensures in told_drop _ _ _ c.drop_input.result _ c.done_status.ensures.done told.applied told.sectors told.calls
