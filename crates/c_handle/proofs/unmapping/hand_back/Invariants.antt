use Rattle.c_handle.specs.Unmapping.{disks_in}
use Rattle.c_handle.proofs.Handing.{IsBackSoFar}
use Rattle.c_handle.proofs.unmapping.hand_back.Given as goal

abbrev pub invariant-loop-device : goal.invariant-loop-device
invariant-loop-device l = IsBackSoFar (disks_in l.fn.machine.devices) l.device-iterator.rest.items l.fn.images l.images l.at
