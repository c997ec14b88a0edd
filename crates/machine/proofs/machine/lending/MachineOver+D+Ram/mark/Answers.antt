use Rattle.std.proofs.Common.{length, refl, sym, subst}
use Rattle.guestmem.specs.Item.{MayPages}
use Rattle.guestmem.specs.Lent.{AreBelow, marked}
use Rattle.guestmem.proofs.GivenBack.{later_marked}
use Rattle.machine.specs.Seen.{Seen}
use Rattle.machine.proofs.Keeping.{rings_later}
use Rattle.machine.proofs.machine.lending.MachineOver+D+Ram.mark.Goals as goal

pub invariant_of-self : goal.invariant_of-self
invariant_of-self g c =
    let i = c.self.inside in
    let below : AreBelow (length i.ram.versions) c.args.pages.now = subst (λ (m : Seen). AreBelow (length m.memory.versions) c.args.pages.now) (sym c.self.view_is) c.requires.below in
    rw c.mark.ensures.ram (record { sound = c.self.invariant.0.sound; shapes_are = c.self.invariant.0.shapes_are }, rings_later i.rings.items i.ram (marked i.ram c.args.pages.now) _ c.self.invariant.1 (later_marked i.ram c.args.pages.now below))

pub returns-clause-machine : goal.returns-clause-machine
returns-clause-machine g c = rw (← c.self.view_is, c.mark.ensures.ram) refl

pub returns-clause-log : goal.returns-clause-log
returns-clause-log g c = c.mark.ensures.log

pub returns-clause-may : goal.returns-clause-may
returns-clause-may g c = c.mark.ensures.may

pub mark-requires-clause-below : goal.mark-requires-clause-below
mark-requires-clause-below g c = subst (λ (m : Seen). AreBelow (length m.memory.versions) c.args.pages.now) (sym c.self.view_is) c.requires.below

pub mark-requires-clause-may : goal.mark-requires-clause-may
mark-requires-clause-may g c = subst (λ (m : Seen). MayPages g.L.TouchLog.may c.args.log.now (length m.memory.bytes)) (sym c.self.view_is) c.requires.may
