use Rattle.std.proofs.Common.{◌∙◌, arith}
use Rattle.sender.proofs.HereOrLent.{few_left, few_pages, inside, pages_first, some_firsts}
use Rattle.sender.proofs.live.LiveOver.page_count.Goals as goal

pub index-requires : goal.index-requires
index-requires g c =
    let i = c.self.inside in
    omega (arith, some_firsts (g.M.GuestRam.known i.machine.memory) i.machine.devices i.phase i.due i.logs.first.set i.logs.first.firsts.items i.at c.self.invariant c.shapes-shapes.ensures.sound)

pub returns-clause-count : goal.returns-clause-count
returns-clause-count g c =
    let i = c.self.inside in
    rw (← c.self.view_is) (c.index.ensures ∙ pages_first (g.M.GuestRam.known i.machine.memory) i.machine.devices i.phase i.due i.logs.first.set i.logs.first.firsts.items i.at c.self.invariant c.shapes-shapes.ensures.sound _)

pub returns-clause-few : goal.returns-clause-few
returns-clause-few g c =
    let i = c.self.inside in
    omega (arith, c.index.ensures ∙ pages_first (g.M.GuestRam.known i.machine.memory) i.machine.devices i.phase i.due i.logs.first.set i.logs.first.firsts.items i.at c.self.invariant c.shapes-shapes.ensures.sound _, few_pages (g.M.GuestRam.known i.machine.memory) i.machine.devices i.phase i.due i.logs.first.set i.logs.first.firsts.items i.at c.self.invariant c.shapes-shapes.ensures.sound)

pub returns-clause-inside : goal.returns-clause-inside
returns-clause-inside g c =
    let i = c.self.inside in
    let count = c.index.ensures ∙ pages_first (g.M.GuestRam.known i.machine.memory) i.machine.devices i.phase i.due i.logs.first.set i.logs.first.firsts.items i.at c.self.invariant c.shapes-shapes.ensures.sound _ in
    let within = inside (g.M.GuestRam.known i.machine.memory) i.machine.devices i.phase i.due i.logs.first.set i.logs.first.firsts.items i.at c.self.invariant c.shapes-shapes.ensures.sound in
    rw (← c.self.view_is) (omega (arith, count, within.0), omega (arith, count, within.1))

pub returns-clause-few_items : goal.returns-clause-few_items
returns-clause-few_items g c =
    let i = c.self.inside in
    rw (← c.self.view_is) (few_left (g.M.GuestRam.known i.machine.memory) i.machine.devices i.phase i.due i.logs.first.set i.logs.first.firsts.items i.at c.self.invariant c.shapes-shapes.ensures.sound)
