use Rattle.std.proofs.Common.{arith}
use Rattle.blk.specs.Outside.{Gave}
use Rattle.machine.specs.Outside.{disk_reply}
use Rattle.machine.specs.Seen.{state_of}
use Rattle.c_handle.proofs.Asked.{few_askers}
use Rattle.c_handle.proofs.outside.meet_still.Goals as goal

pub overflow_cast-pick : goal.overflow_cast-pick
overflow_cast-pick g c =
    let few = few_askers (state_of c.args.machine.now) c.args.place c.args.asker c.in-Some.k c.shapes-shapes.ensures.sound c.requires.asked c.in-Some.is in
    omega (arith, few)

pub overflow_add-pick : goal.overflow_add-pick
overflow_add-pick g c =
    let few = few_askers (state_of c.args.machine.now) c.args.place c.args.asker c.in-Some.k c.shapes-shapes.ensures.sound c.requires.asked c.in-Some.is in
    omega (arith, few)

pub returns-in-Bytes-clause-meets : goal.returns-in-Bytes-clause-meets
returns-in-Bytes-clause-meets g c = rw (c.in-Some.is, c.in-Bytes.is) (disk_reply (Gave c.in-Bytes.bytes.now) c.gave-gave.result, c.gave-gave.ensures.logged)
