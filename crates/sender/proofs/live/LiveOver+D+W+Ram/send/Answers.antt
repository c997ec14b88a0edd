use Rattle.std.proofs.Common.{Err, false, length, refl, ap, subst, ◌∙◌}
use Rattle.std.proofs.lemmas.List.{length-set}
use Rattle.guestmem.specs.Item as items
use Rattle.sender.specs.LiveState.{LiveSeen}
use Rattle.sender.specs.Reads.{ReadsItem}
use Rattle.sender.specs.Stopping.{SendsItem}
use Rattle.sender.proofs.Living.{live_again, live_sent}
use Rattle.sender.proofs.Served.{fits_after, item_not_sent, item_sent}
use Rattle.sender.proofs.live.LiveOver+D+W+Ram.send.Goals as goal

pub send_item-requires : goal.send_item-requires
send_item-requires g c = rw (← c.self.view_is) at c.item-item.ensures.there

pub invariant_of-self : goal.invariant_of-self
invariant_of-self g c =
    let i = c.self.inside in
    live_again i.machine c.send_item.new.machine i.phase _ i.due i.logs.first.set i.logs.first.firsts.items i.at c.self.invariant c.in-Err.ensures.sent.state
    (rw c.phase_after-self-inside.ensures (fits_after i.phase c.in-Err.error c.self.invariant.sets.round))

pub invariant_of-self-2 : goal.invariant_of-self-2
invariant_of-self-2 g c =
    let i = c.self.inside in
    live_sent i.machine c.send_item.new.machine i.phase i.due c.remove.new.self i.logs.first.set c.remove-2.new.self i.logs.first.firsts.items i.at _ c.self.invariant c.in_default.ensures.sent.state c.remove.ensures (ap length c.remove-2.ensures ∙ length-set i.logs.first.set _ false)

pub returns-in-Err-clause-sent : goal.returns-in-Err-clause-sent
returns-in-Err-clause-sent g c =
    let i = c.self.inside in
    let is = rw (← c.self.view_is) at c.item-item.ensures.item in
    let old : LiveSeen = record { machine = i.machine; phase = i.phase; due = i.due; dirty = i.logs.first.set; digest = g.W.Sink.sum i.writer; out = g.W.Sink.state i.writer } in
    let new : LiveSeen = record { machine = c.send_item.new.machine; phase = c.phase_after-self-inside.result; due = i.due; dirty = i.logs.first.set; digest = g.W.Sink.sum c.send_item.new.out; out = g.W.Sink.state c.send_item.new.out } in
    subst (λ (v : LiveSeen). SendsItem v c.args.number (Err c.in-Err.error) new) c.self.view_is
    (item_not_sent old new c.args.number c.item-item.result c.in-Err.error _ is c.in-Err.ensures.sent c.in-Err.ensures.item c.phase_after-self-inside.ensures refl refl)

pub returns-clause-sent : goal.returns-clause-sent
returns-clause-sent g c =
    let is = rw (← c.self.view_is) at c.item-item.ensures.item in
    rw (← c.self.view_is) (item_sent _ _ c.args.number c.item-item.result _ is c.in_default.ensures.sent c.in_default.ensures.added refl c.remove.ensures c.remove-2.ensures)

pub returns-in-Err-clause-calls : goal.returns-in-Err-clause-calls
returns-in-Err-clause-calls g c =
    let i = c.self.inside in
    let is = rw (← c.self.view_is) at c.item-item.ensures.item in
    rw (← c.self.view_is) (subst (λ (x : items.Item). ReadsItem g.D.Disk.called i.machine x c.send_item.new.machine) is c.send_item.ensures.calls)

pub returns-clause-calls : goal.returns-clause-calls
returns-clause-calls g c =
    let i = c.self.inside in
    let is = rw (← c.self.view_is) at c.item-item.ensures.item in
    rw (← c.self.view_is) (subst (λ (x : items.Item). ReadsItem g.D.Disk.called i.machine x c.send_item.new.machine) is c.send_item.ensures.calls)
