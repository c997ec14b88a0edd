use Rattle.std.proofs.Common.{◌≡◌, None, sym, ◌∙◌}
use Rattle.sender.specs.LiveState.{refusal_for}
use Rattle.sender.specs.Parked.{LiveParkedSeen}
use Rattle.sender.specs.declared.event.LiveEvent.TheVariants.{Copy}
use Rattle.sender.proofs.SectorsLent.{least_of_all, page_due}
use Rattle.sender.proofs.lending.sectors.LiveOver+D+W+ParkedRam.copy_sector.Goals as goal

pub returns-in-Page-clause-copied : goal.returns-in-Page-clause-copied
returns-in-Page-clause-copied g c =
    let i = c.self.inside in
    let p : LiveParkedSeen = record { machine = i.machine; phase = i.phase; due = i.due; dirty = i.logs.first.set; digest = g.W.Sink.sum i.writer; out = g.W.Sink.state i.writer } in
    let free : refusal_for i.phase Copy ≡ None = rw (← c.self.view_is) at (sym c.refusal.ensures ∙ c.in_default.is) in
    rw (← c.self.view_is) (page_due p c.in-Some-first_from.number c.in-Page.page free (least_of_all i.due i.at c.in-Some-first_from.number c.self.invariant.1.passed c.in-Some-first_from.ensures) (rw (← c.self.view_is) at c.in-Page.ensures.item))
