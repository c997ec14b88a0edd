use Rattle.std.proofs.Common.{false, length, refl, ap, ◌∙◌}
use Rattle.std.proofs.lemmas.List.{length-set}
use Rattle.machine.specs.Parked.{back_with}
use Rattle.machine.proofs.ParkedCalls.{reads_parked}
use Rattle.sender.specs.Parked.{LiveParkedSeen}
use Rattle.sender.proofs.ItemReads.{read_once}
use Rattle.sender.proofs.Parking.{some_still}
use Rattle.sender.proofs.SectorsLent.{fit_sent, fit_unsent, sector_lent, sent_lent, unsent_lent}
use Rattle.sender.proofs.lending.sectors.LiveOver+D+W+ParkedRam.send_sector.Goals as goal

pub read_sector-read-requires : goal.read_sector-read-requires
read_sector-read-requires g c = sector_lent c.self.inside.machine c.args.number c.args.dev c.args.sector (rw (← c.self.view_is) at c.requires.below) (rw (← c.self.view_is) at c.requires.item)

pub invariant_of-self : goal.invariant_of-self
invariant_of-self g c =
    let i = c.self.inside in
    rw c.phase_after-self-inside.ensures (some_still _ _ (ap length c.read_sector-read.ensures.read.0) c.self.invariant.0, fit_unsent i.machine c.read_sector-read.new.self c.args.dev c.args.sector c.read_sector-read.new.buf c.read_sector-read.result i.phase c.in-Err.error i.due i.logs.first.set i.logs.first.firsts.items i.at (reads_parked _ _ _ _ _ _ c.read_sector-read.ensures.read c.read_sector-read.ensures.whatever) c.self.invariant.1)

pub invariant_of-self-2 : goal.invariant_of-self-2
invariant_of-self-2 g c =
    let i = c.self.inside in
    (some_still _ _ (ap length c.read_sector-read.ensures.read.0) c.self.invariant.0, fit_sent i.machine c.read_sector-read.new.self c.args.dev c.args.sector c.read_sector-read.new.buf c.read_sector-read.result i.phase i.due c.remove.new.self i.logs.first.set c.remove-2.new.self i.logs.first.firsts.items i.at _ (reads_parked _ _ _ _ _ _ c.read_sector-read.ensures.read c.read_sector-read.ensures.whatever) c.self.invariant.1 c.remove.ensures (ap length c.remove-2.ensures ∙ length-set i.logs.first.set _ false))

pub returns-in-Err-clause-sent : goal.returns-in-Err-clause-sent
returns-in-Err-clause-sent g c =
    let i = c.self.inside in
    let p : LiveParkedSeen = record { machine = i.machine; phase = i.phase; due = i.due; dirty = i.logs.first.set; digest = g.W.Sink.sum i.writer; out = g.W.Sink.state i.writer } in
    let next : LiveParkedSeen = record { machine = c.read_sector-read.new.self; phase = c.phase_after-self-inside.result; due = i.due; dirty = i.logs.first.set; digest = g.W.Sink.sum c.write_read.new.out; out = g.W.Sink.state c.write_read.new.out } in
    rw (← c.self.view_is) (unsent_lent p next c.args.number c.args.dev c.args.sector c.read_sector-read.new.buf c.read_sector-read.result (reads_parked _ _ _ _ _ _ c.read_sector-read.ensures.read c.read_sector-read.ensures.whatever) (rw (← c.self.view_is) at c.requires.item) c.in-Err.error c.in-Err.ensures.sent c.in-Err.ensures.item c.phase_after-self-inside.ensures refl refl)

pub returns-clause-sent : goal.returns-clause-sent
returns-clause-sent g c =
    let i = c.self.inside in
    let p : LiveParkedSeen = record { machine = i.machine; phase = i.phase; due = i.due; dirty = i.logs.first.set; digest = g.W.Sink.sum i.writer; out = g.W.Sink.state i.writer } in
    let next : LiveParkedSeen = record { machine = c.read_sector-read.new.self; phase = i.phase; due = c.remove.new.self; dirty = c.remove-2.new.self; digest = g.W.Sink.sum c.write_read.new.out; out = g.W.Sink.state c.write_read.new.out } in
    rw (← c.self.view_is) (sent_lent p next c.args.number c.args.dev c.args.sector c.read_sector-read.new.buf c.read_sector-read.result (reads_parked _ _ _ _ _ _ c.read_sector-read.ensures.read c.read_sector-read.ensures.whatever) (rw (← c.self.view_is) at c.requires.item) (tt {0}) c.in_default.ensures.sent c.in_default.ensures.added refl c.remove.ensures c.remove-2.ensures)

pub returns-in-Err-clause-calls : goal.returns-in-Err-clause-calls
returns-in-Err-clause-calls g c = λ m mem bytes count.
    let i = c.self.inside in
    rw (← c.self.view_is) (read_once g.D.Disk.called (back_with i.machine m) (back_with c.read_sector-read.new.self m) c.args.dev c.args.sector c.read_sector-read.new.buf c.read_sector-read.result (c.read_sector-read.ensures.whatever m) c.read_sector-read.ensures.calls)

pub returns-clause-calls : goal.returns-clause-calls
returns-clause-calls g c = λ m mem bytes count.
    let i = c.self.inside in
    rw (← c.self.view_is) (read_once g.D.Disk.called (back_with i.machine m) (back_with c.read_sector-read.new.self m) c.args.dev c.args.sector c.read_sector-read.new.buf c.read_sector-read.result (c.read_sector-read.ensures.whatever m) c.read_sector-read.ensures.calls)
