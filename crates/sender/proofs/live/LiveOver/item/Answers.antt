use Rattle.sender.proofs.HereOrLent.{below_by_shapes, item_by_shapes, item_is_there, some_shapes}
use Rattle.sender.proofs.live.LiveOver.item.Goals as goal

pub item_in-requires-clause-some : goal.item_in-requires-clause-some
item_in-requires-clause-some g c =
    let i = c.self.inside in
    let count = rw (← c.self.view_is) at c.page_count-pages.ensures.count in
    some_shapes (g.M.GuestRam.known i.machine.memory) i.machine.devices i.phase i.due i.logs.first.set i.logs.first.firsts.items i.at c.self.invariant c.shapes.ensures.sound c.page_count-pages.result c.shapes.result.now count c.shapes.ensures.shapes

pub item_in-requires-clause-below : goal.item_in-requires-clause-below
item_in-requires-clause-below g c =
    let i = c.self.inside in
    let count = rw (← c.self.view_is) at c.page_count-pages.ensures.count in
    below_by_shapes (g.M.GuestRam.known i.machine.memory) i.machine.devices i.phase i.due i.logs.first.set i.logs.first.firsts.items i.at c.self.invariant c.shapes.ensures.sound c.page_count-pages.result c.shapes.result.now count c.shapes.ensures.shapes c.args.number (rw (← c.self.view_is) at c.requires)

pub returns-clause-item : goal.returns-clause-item
returns-clause-item g c =
    let i = c.self.inside in
    let count = rw (← c.self.view_is) at c.page_count-pages.ensures.count in
    rw (← c.self.view_is) (item_by_shapes (g.M.GuestRam.known i.machine.memory) i.machine.devices i.phase i.due i.logs.first.set i.logs.first.firsts.items i.at c.self.invariant c.shapes.ensures.sound c.page_count-pages.result c.shapes.result.now count c.shapes.ensures.shapes c.args.number _ c.item_in.ensures)

pub returns-clause-there : goal.returns-clause-there
returns-clause-there g c =
    let i = c.self.inside in
    let count = rw (← c.self.view_is) at c.page_count-pages.ensures.count in
    rw (← c.self.view_is) (item_is_there (g.M.GuestRam.known i.machine.memory) i.machine.devices i.phase i.due i.logs.first.set i.logs.first.firsts.items i.at c.self.invariant c.shapes.ensures.sound c.page_count-pages.result c.shapes.result.now count c.shapes.ensures.shapes c.args.number _ (rw (← c.self.view_is) at c.requires) c.item_in.ensures)
