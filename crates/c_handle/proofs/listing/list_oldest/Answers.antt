use Rattle.disk_calls.specs.Oldest.{IsNoneFrom, IsOldestFrom}
use Rattle.c_handle.specs.Outside.{devices_of}
use Rattle.c_handle.proofs.ListedCalls.{ends_none, one_more}
use Rattle.c_handle.proofs.listing.list_oldest.Goals as goal

pub returns-in_default : goal.returns-in_default
returns-in_default c =
    let k = c.args.kept.now in
    let none : IsNoneFrom c.args.kept.now.calls c.loop-at.number = rw (← c.kept.view_is) (c.oldest_from.ensures.none c.in_default.is) in
    ends_none (devices_of k.state) k.calls c.args.calls.now c.loop-at.calls c.loop-at.number c.loop-at.at c.loop-at.invariant none

pub loop-at-preserved : goal.loop-at-preserved
loop-at-preserved c =
    let k = c.args.kept.now in
    let is : IsOldestFrom c.args.kept.now.calls c.loop-at.number c.in-Some.listed = rw (← c.kept.view_is) (c.in-Some.ensures.some) in
    one_more (devices_of k.state) k.calls c.args.calls.now c.loop-at.calls c.loop-at.number c.loop-at.at c.in-Some.listed c.listed_call.result c.listed_call.result c.loop-at-test.true c.loop-at.invariant is c.listed_call.ensures
