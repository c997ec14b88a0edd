use Rattle.std.proofs.Common.{arith, refl}
use Rattle.machine.specs.Seen.{state_of}
use Rattle.sender.specs.Calls.{guest_reply}
use Rattle.c_handle.proofs.Asked.{few_askers}
use Rattle.c_handle.proofs.outside.meet_moving.Goals as goal

pub overflow_cast-pick : goal.overflow_cast-pick
overflow_cast-pick g c =
    let few = few_askers (state_of c.args.live.now.machine) c.args.place c.args.asker c.in-Some.k c.recall.ensures.sound c.requires.asked c.in-Some.is in
    omega (arith, few)

pub overflow_add-pick : goal.overflow_add-pick
overflow_add-pick g c =
    let few = few_askers (state_of c.args.live.now.machine) c.args.place c.args.asker c.in-Some.k c.recall.ensures.sound c.requires.asked c.in-Some.is in
    omega (arith, few)

pub returns-in-Bytes-clause-meets : goal.returns-in-Bytes-clause-meets
returns-in-Bytes-clause-meets g c = rw (c.in-Some.is, c.in-Bytes.is) (guest_reply c.live_gave-gave.result, c.recall.ensures, c.live_gave-gave.ensures.logged)

pub returns-in-Units-clause-meets : goal.returns-in-Units-clause-meets
returns-in-Units-clause-meets g c = rw (c.in-Some.is, c.in-Units.is) (guest_reply c.disk_did-did.result, c.recall.ensures, c.disk_did-did.ensures.served, refl)

pub returns-in-Nothing-clause-meets : goal.returns-in-Nothing-clause-meets
returns-in-Nothing-clause-meets g c = rw (c.in-Some.is, c.in-Nothing.is) (guest_reply c.disk_failed-failed.result, c.recall.ensures, c.disk_failed-failed.ensures.served, refl)
