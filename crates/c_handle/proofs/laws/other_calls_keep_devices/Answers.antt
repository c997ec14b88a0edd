use Rattle.c_handle.proofs.OtherCalls.{others_keep_devices}
use Rattle.c_handle.proofs.laws.other_calls_keep_devices.Goals as goal

pub returns : goal.returns
returns c = others_keep_devices
