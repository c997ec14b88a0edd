use Rattle.std.proofs.Common.{◌≡◌, arith, subst, sym}
use Rattle.machine.specs.Parked.{ParkedSeen}
use Rattle.sender.specs.Calls.{guest_reply}
use Rattle.sender.proofs.ParkedServed.{served_parked}
use Rattle.c_handle.specs.DiskCalls.{asker_lent}
use Rattle.c_handle.proofs.Asked.{few_lent_askers}
use Rattle.c_handle.proofs.outside.meet_live_parked.Goals as goal

pub overflow_cast-pick : goal.overflow_cast-pick
overflow_cast-pick g c =
    let asked : c.args.asker ≡ asker_lent c.machine.result.now c.args.place = subst (λ (p : ParkedSeen). c.args.asker ≡ asker_lent p c.args.place) (sym c.machine.ensures) c.requires.asked in
    let few = few_lent_askers c.machine.result.now c.args.place c.args.asker c.in-Some.k c.recall.ensures.some c.recall.ensures.few c.recall.ensures.sound asked c.in-Some.is in
    omega (arith, few)

pub overflow_add-pick : goal.overflow_add-pick
overflow_add-pick g c =
    let asked : c.args.asker ≡ asker_lent c.machine.result.now c.args.place = subst (λ (p : ParkedSeen). c.args.asker ≡ asker_lent p c.args.place) (sym c.machine.ensures) c.requires.asked in
    let few = few_lent_askers c.machine.result.now c.args.place c.args.asker c.in-Some.k c.recall.ensures.some c.recall.ensures.few c.recall.ensures.sound asked c.in-Some.is in
    omega (arith, few)

pub returns-in-Units : goal.returns-in-Units
returns-in-Units g c = let did = c.disk_did-did.ensures in rw (c.in-Some.is, c.in-Units.is) (guest_reply c.disk_did-did.result, served_parked _ _ _ c.disk_did-did.result tt did.served did.rest)

pub returns-in-Nothing : goal.returns-in-Nothing
returns-in-Nothing g c = let failed = c.disk_failed-failed.ensures in rw (c.in-Some.is, c.in-Nothing.is) (guest_reply c.disk_failed-failed.result, served_parked _ _ _ c.disk_failed-failed.result tt failed.served failed.rest)
