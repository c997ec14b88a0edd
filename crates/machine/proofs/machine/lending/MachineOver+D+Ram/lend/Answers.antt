use Rattle.std.proofs.Common.{List, ℕ, subst, sym}
use Rattle.machine.specs.Known.{Lent}
use Rattle.machine.proofs.Over.{AreKept}
use Rattle.machine.proofs.Parking.{parked_kept}
use Rattle.machine.proofs.machine.lending.MachineOver+D+Ram.lend.Goals as goal

pub invariant_of-parked : goal.invariant_of-parked
invariant_of-parked g c =
    let i = c.self.inside in
    subst (λ (versions : List ℕ). AreKept (Lent versions) i.shapes.items c.forget_all.new.rings.items i.devices.items) (sym c.in-Ok.ensures.lent.versions_are)
    (parked_kept i.shapes.items i.rings.items c.forget_all.new.rings.items i.ram i.devices.items c.self.invariant c.recall.ensures.sound c.forget_all.ensures.each c.forget_all.ensures.fit)
