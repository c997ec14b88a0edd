use Rattle.receiver.proofs.Feeding.{first_new, first_receiver}
use Rattle.receiver.proofs.receiver.Receiver.reading.Goals as goal

pub returns : goal.returns
returns g c = first_new g.D.Disk.state c.args.disks.items c.new.result c.new-2.result.items c.new.ensures c.new-2.ensures.items

pub invariant_of-result : goal.invariant_of-result
invariant_of-result g c = first_receiver c.new.result c.new-2.result.items _ c.new.ensures c.new-2.ensures.items
