use Rattle.std.proofs.Common.{length, refl, sym, subst}
use Rattle.guestmem.specs.Lent.{AreBelow}
use Rattle.sender.specs.Parked.{LiveParkedSeen, parked_layout, with_pages}
use Rattle.sender.proofs.Living.{fit_next}
use Rattle.sender.proofs.Parking.{length-with_pages, marks_fit}
use Rattle.sender.proofs.lending.calls.LiveOver+D+W+ParkedRam.mark.Goals as goal

pub insert_each-requires : goal.insert_each-requires
insert_each-requires g c =
    let i = c.self.inside in
    marks_fit i.machine i.phase i.due i.logs.first i.at c.args.pages.now c.self.invariant.1 (subst (λ (v : LiveParkedSeen). AreBelow (length v.machine.memory) c.args.pages.now) (sym c.self.view_is) c.requires.below)

pub invariant_of-self : goal.invariant_of-self
invariant_of-self g c =
    let i = c.self.inside in
    let pages = c.args.pages.now in
    let was = c.self.invariant.1 in
    rw (c.insert_each.ensures) (c.self.invariant.0, fit_next (parked_layout i.machine) i.phase i.phase i.due i.due i.logs.first.set (with_pages i.logs.first.set pages) i.logs.first.firsts.items i.logs.first.firsts.items i.at i.at was refl (length-with_pages i.logs.first.set pages) refl was.round was.reached was.passed)
