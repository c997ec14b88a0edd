use Rattle.std.proofs.Common.{refl, ◌∙◌}
use Rattle.sender.proofs.Living.{live_again}
use Rattle.sender.proofs.Served.{closing_took}
use Rattle.sender.proofs.live.LiveOver+D+W+Ram.close.Goals as goal

pub invariant_of-self : goal.invariant_of-self
invariant_of-self g c = let i = c.self.inside in live_again i.machine i.machine i.phase _ i.due i.logs.first.set i.logs.first.firsts.items i.at c.self.invariant refl tt

pub invariant_of-self-in-Err-write_seal : goal.invariant_of-self-in-Err-write_seal
invariant_of-self-in-Err-write_seal g c = let i = c.self.inside in live_again i.machine i.machine i.phase _ i.due i.logs.first.set i.logs.first.firsts.items i.at c.self.invariant refl tt

pub invariant_of-self-2 : goal.invariant_of-self-2
invariant_of-self-2 g c = let i = c.self.inside in live_again i.machine i.machine i.phase _ i.due i.logs.first.set i.logs.first.firsts.items i.at c.self.invariant refl tt

pub returns-clause-closed : goal.returns-clause-closed
returns-clause-closed g c =
    rw (← c.self.view_is) (let took = closing_took _ _ _ _ _ _ c.in_default.ensures.out c.in_default.ensures.taken c.in_default-write_seal.ensures.out in
    record { machine = refl; phase = refl; due = refl; dirty = refl; count = c.in_default-write_seal.ensures.out.count ∙ c.in_default.ensures.out.count; flushed = c.in_default-write_seal.ensures.flushed; took = took })
