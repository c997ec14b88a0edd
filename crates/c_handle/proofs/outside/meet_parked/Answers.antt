use Rattle.std.proofs.Common.{arith}
use Rattle.blk.specs.Outside.{Did, Failed}
use Rattle.machine.specs.Outside.{disk_reply}
use Rattle.machine.proofs.ParkedCalls.{applied_parked}
use Rattle.c_handle.proofs.Asked.{few_lent_askers}
use Rattle.c_handle.proofs.outside.meet_parked.Goals as goal

pub overflow_cast-pick : goal.overflow_cast-pick
overflow_cast-pick g c =
    let few = few_lent_askers c.args.parked.now c.args.place c.args.asker c.in-Some.k c.recall.ensures.some c.recall.ensures.few c.recall.ensures.sound c.requires.asked c.in-Some.is in
    omega (arith, few)

pub overflow_add-pick : goal.overflow_add-pick
overflow_add-pick g c =
    let few = few_lent_askers c.args.parked.now c.args.place c.args.asker c.in-Some.k c.recall.ensures.some c.recall.ensures.few c.recall.ensures.sound c.requires.asked c.in-Some.is in
    omega (arith, few)

pub returns-in-Units : goal.returns-in-Units
returns-in-Units g c = let did = c.disk_did-did.ensures in rw (c.in-Some.is, c.in-Units.is) (disk_reply (Did c.in-Units.count) c.disk_did-did.result, applied_parked _ _ _ _ tt did.applied did.sectors did.calls)

pub returns-in-Nothing : goal.returns-in-Nothing
returns-in-Nothing g c = let failed = c.disk_failed-failed.ensures in rw (c.in-Some.is, c.in-Nothing.is) (disk_reply Failed c.disk_failed-failed.result, applied_parked _ _ _ _ tt failed.applied failed.sectors failed.calls)
