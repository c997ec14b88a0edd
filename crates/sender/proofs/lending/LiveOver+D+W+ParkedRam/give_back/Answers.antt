use Rattle.std.proofs.Common.{◌≡◌, ◌*◌, length, refl, sym, ap, ◌∙◌}
use Rattle.machine.specs.Seen.{Seen}
use Rattle.sender.specs.Parked.{LiveParkedSeen, with_pages}
use Rattle.sender.proofs.Parking.{is_live, length-with_pages, may_pages, noted_pages}
use Rattle.sender.proofs.lending.LiveOver+D+W+ParkedRam.give_back.Goals as goal

pub give_back-machine-requires-clause-may : goal.give_back-machine-requires-clause-may
give_back-machine-requires-clause-may g c =
    let i = c.self.inside in
    let size : length c.args.region.content ≡ 4096 * length i.machine.memory = c.requires.size ∙ ap (λ (v : LiveParkedSeen). 4096 * length v.machine.memory) (sym c.self.view_is) in
    may_pages i.machine i.phase i.due i.logs.first i.at (length c.args.region.content) c.self.invariant.1 size

pub invariant_of-result : goal.invariant_of-result
invariant_of-result g c =
    let i = c.self.inside in
    let back = c.give_back-machine in
    let pages = c.args.pages.now in
    let size : length c.args.region.content ≡ 4096 * length i.machine.memory = c.requires.size ∙ ap (λ (v : LiveParkedSeen). 4096 * length v.machine.memory) (sym c.self.view_is) in
    let noted : back.new.log ≡ record i.logs.first { set = with_pages i.logs.first.set pages } = back.ensures.log ∙ noted_pages i.logs.first pages in
    rw noted (is_live back.result i.machine i.phase i.due i.logs.first.set (with_pages i.logs.first.set pages) i.logs.first.firsts.items i.at c.self.invariant.1 c.shapes-shapes.ensures.sound
    (ap (λ (m : Seen). length m.memory.bytes) back.ensures.machine ∙ size) (ap (λ (m : Seen). m.devices) back.ensures.machine) (length-with_pages i.logs.first.set pages))

pub returns : goal.returns
returns g c =
    let i = c.self.inside in
    let back = c.give_back-machine in
    let noted : back.new.log ≡ record i.logs.first { set = with_pages i.logs.first.set c.args.pages.now } = back.ensures.log ∙ noted_pages i.logs.first c.args.pages.now in
    rw (← c.self.view_is, back.ensures.machine, noted) refl
