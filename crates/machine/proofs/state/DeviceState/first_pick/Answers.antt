use Rattle.std.proofs.Common.{◌-◌, sym, ◌∙◌, arith}
use Rattle.machine.specs.NextWork.{can_work_with, has_work_with, picks_from}
use Rattle.machine.proofs.NextWork.{beyond, none_beside, none_found, one_found, one_more}
use Rattle.machine.proofs.state.DeviceState.first_pick.Goals as goal

pub returns-then-can_work_with : goal.returns-then-can_work_with
unfolding picks_from
returns-then-can_work_with c =
    sym (one_found (can_work_with c.args.is_lost c.args.self.now) c.args.from (256 - c.args.from) c.loop-pick.pick (omega arith) (omega arith) c.loop-pick.invariant (sym c.can_work_with.ensures ∙ c.if-can_work_with.true))

pub loop-pick-preserved : goal.loop-pick-preserved
loop-pick-preserved c = one_more (can_work_with c.args.is_lost c.args.self.now) c.args.from c.loop-pick.pick c.loop-pick.invariant (sym c.can_work_with.ensures ∙ c.if-can_work_with.false)

pub returns : goal.returns
unfolding picks_from
returns c =
    sym (none_found (can_work_with c.args.is_lost c.args.self.now) c.args.from (256 - c.args.from) (beyond (can_work_with c.args.is_lost c.args.self.now) c.args.from c.loop-pick.pick c.picks-pick-end.result (omega arith) c.loop-pick.invariant (λ pick past. none_beside _ (has_work_with c.args.self.now pick) (c.picks-pick-end.ensures pick past))))
