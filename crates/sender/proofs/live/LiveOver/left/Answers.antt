use Rattle.std.proofs.Common.{arith}
use Rattle.sender.proofs.StopLengths.{rest_few}
use Rattle.sender.proofs.live.LiveOver.left.Goals as goal

pub left_of-requires-clause-due : goal.left_of-requires-clause-due
left_of-requires-clause-due g c = rw (← c.self.view_is) at c.page_count-pages.ensures.inside.0

pub left_of-requires-clause-dirty : goal.left_of-requires-clause-dirty
left_of-requires-clause-dirty g c = rw (← c.self.view_is) at c.page_count-pages.ensures.inside.1

pub returns-clause-few_sectors : goal.returns-clause-few_sectors
returns-clause-few_sectors g c =
    let i = c.self.inside in
    let pages = c.page_count-pages.result in
    let few = rw (← c.self.view_is) at c.page_count-pages.ensures.few_items in
    omega (arith, c.left_of.ensures.due_sectors, c.left_of.ensures.dirty_sectors, rest_few i.due pages, rest_few i.logs.first.set pages, few.0, few.1)
