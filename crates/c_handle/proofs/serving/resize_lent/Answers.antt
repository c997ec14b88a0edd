use Rattle.c_handle.proofs.ByParked.{told_resize}
use Rattle.c_handle.proofs.serving.resize_lent.Goals as goal

pub returns : goal.returns
returns g c = let told = c.resize.ensures in told_resize _ _ _ _ _ c.resize.result _ c.done_status.ensures.done told.applied told.sectors told.calls
