use Rattle.traces.specs.Trace.{contents_of}
use Rattle.vmig.proofs.ComparingFresh.{is_rehearsed}
use Rattle.vmig.proofs.comparing.rehearsed.Goals as goal

pub returns-clause-done : goal.returns-clause-done
returns-clause-done c = is_rehearsed (contents_of c.args.trace.now) c.in_ok-machine.machine c.as_slice.result.now c.as_slice-2.result.now c.in_ok-disks.disks.items c.rehearse.result c.in_ok-machine.ensures.fresh c.as_slice.ensures.value c.as_slice-2.ensures.value c.in_ok-disks.ensures c.rehearse.ensures
