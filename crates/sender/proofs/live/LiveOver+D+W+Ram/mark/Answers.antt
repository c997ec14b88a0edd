use Rattle.std.proofs.Common.{◌≡◌, refl, ◌∙◌}
use Rattle.sender.specs.Parked.{with_pages}
use Rattle.sender.proofs.Parking.{marked_live, may_marks, noted_pages}
use Rattle.sender.proofs.live.LiveOver+D+W+Ram.mark.Goals as goal

pub mark-requires-clause-may : goal.mark-requires-clause-may
mark-requires-clause-may g c =
    let i = c.self.inside in
    may_marks i.machine i.phase i.due i.logs.first i.at c.self.invariant

pub invariant_of-self : goal.invariant_of-self
invariant_of-self g c =
    let i = c.self.inside in
    let noted : c.mark.new.log ≡ record i.logs.first { set = with_pages i.logs.first.set c.args.pages.now } = c.mark.ensures.log ∙ noted_pages i.logs.first c.args.pages.now in
    rw (noted, c.mark.ensures.machine) (marked_live i.machine i.phase i.due i.logs.first.set i.logs.first.firsts.items i.at c.args.pages.now c.self.invariant)

pub returns : goal.returns
returns g c =
    let i = c.self.inside in
    let noted : c.mark.new.log ≡ record i.logs.first { set = with_pages i.logs.first.set c.args.pages.now } = c.mark.ensures.log ∙ noted_pages i.logs.first c.args.pages.now in
    rw (← c.self.view_is, c.mark.ensures.machine, noted) refl
