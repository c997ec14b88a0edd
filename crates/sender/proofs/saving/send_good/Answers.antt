use Rattle.std.proofs.Common.{true}
use Rattle.std.proofs.lemmas.Result.{err_from_is_err_and}
use Rattle.wire.specs.Sinks.{prompt}
use Rattle.sender.proofs.SectorReads.{not_sent, sent_good, sent_none, taken_good}
use Rattle.sender.proofs.saving.send_good.Goals as goal

pub returns-clause-sent : goal.returns-clause-sent
returns-clause-sent g c =
    sent_good c.args.machine.now c.read_good_sector.new.self c.args.dev c.args.number c.read_good_sector.new.buf (g.S.Sink.state c.args.out.now) (g.S.Sink.state c.encode_sector.new.out) (tt {0}) (tt {0})
    (rw c.in_default.is at c.read_good_sector.ensures.read) c.in_ok-encode_sector.ensures.out

pub returns-clause-taken : goal.returns-clause-taken
returns-clause-taken g c =
    taken_good c.args.machine.now c.read_good_sector.new.self c.args.dev c.args.number c.read_good_sector.new.buf (prompt c.args.sum.now.taken) (prompt c.encode_sector-2.new.out.taken) (rw c.in_default.is at c.read_good_sector.ensures.read) c.in-Ok.ensures.taken

pub returns-in-Err-clause-sent : goal.returns-in-Err-clause-sent
returns-in-Err-clause-sent g c = not_sent c.args.machine.now c.read_good_sector.new.self c.args.dev c.args.number c.read_good_sector.new.buf (g.S.Sink.state c.args.out.now) _ c.in-Err.field-0 c.in-Err.ensures.read

pub returns-in_err-encode_sector-clause-sent : goal.returns-in_err-encode_sector-clause-sent
returns-in_err-encode_sector-clause-sent g c =
    let told = err_from_is_err_and c.from_residual.result c.from_residual.ensures.1 in
    rw (told.1, told.2) (sent_none c.args.machine.now c.read_good_sector.new.self c.args.dev c.args.number c.read_good_sector.new.buf true (g.S.Sink.state c.args.out.now) (g.S.Sink.state c.encode_sector.new.out) _ _ c.in_err-encode_sector.field-0.0
    (rw c.in_default.is at c.read_good_sector.ensures.read) c.in_err-encode_sector.ensures.out)

pub returns-in_err-encode_sector-clause-taken : goal.returns-in_err-encode_sector-clause-taken
returns-in_err-encode_sector-clause-taken g c = rw (err_from_is_err_and c.from_residual.result c.from_residual.ensures.1).1 tt
