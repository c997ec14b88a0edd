use Rattle.std.proofs.Common.{length, sym, ap}
use Rattle.guestmem.specs.Memory.{IsMemory}
use Rattle.sender.proofs.Parking.{was_live}
use Rattle.sender.proofs.live.LiveOver+D+W+Ram.lend.Goals as goal

pub invariant_of-lent : goal.invariant_of-lent
invariant_of-lent g c =
    let i = c.self.inside in
    let lent = c.in-Ok.ensures.lent.lent.versions_are in
    let mem : IsMemory i.machine.memory = rw c.ram.ensures at c.recall.ensures.sound in (
      (i.machine.memory, (mem, c.self.invariant.sound.bytes, ap length (sym lent))),
      was_live i.machine c.in-Ok.machine i.phase i.due i.logs.first.set i.logs.first.firsts.items i.at c.self.invariant mem lent c.in-Ok.ensures.lent.devices_are,
    )
