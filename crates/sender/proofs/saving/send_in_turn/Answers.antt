use Rattle.std.proofs.Common.{◌≡◌, ◌≢◌, Some, rules}
use Rattle.std.proofs.lemmas.Result.{err_from_is_err_and}
use Rattle.machine.specs.Seen.{state_of}
use Rattle.wire.specs.Sinks.{prompt}
use Rattle.sender.proofs.SectorReads.{bad_now, failed_alike, good_now, next_on, sent_bad, sent_nothing, taken_bad, unread_bad}
use Rattle.sender.proofs.Sending.{sends_alike}
use Rattle.sender.proofs.saving.send_in_turn.Goals as goal

pub returns-in_err-encode_sector-clause-calls : goal.returns-in_err-encode_sector-clause-calls
returns-in_err-encode_sector-clause-calls g c =
    let same : c.args.next_bad ≡ Some c.args.number = search rules in
    unread_bad g.D.Disk.called c.args.machine.now c.args.dev c.args.number (bad_now (state_of c.args.machine.now) c.args.dev c.args.number c.args.next_bad c.requires.next same)

pub returns-then-eq-clause-calls : goal.returns-then-eq-clause-calls
returns-then-eq-clause-calls g c =
    let same : c.args.next_bad ≡ Some c.args.number = search rules in
    unread_bad g.D.Disk.called c.args.machine.now c.args.dev c.args.number (bad_now (state_of c.args.machine.now) c.args.dev c.args.number c.args.next_bad c.requires.next same)

pub send_good-requires : goal.send_good-requires
send_good-requires g c =
    let other : c.args.next_bad ≢ Some c.args.number = search rules in
    good_now (state_of c.args.machine.now) c.args.dev c.args.number c.args.next_bad c.requires.there c.requires.next other

pub returns-clause-sent : goal.returns-clause-sent
returns-clause-sent g c = sends_alike c.args.machine.now c.send_good.new.machine (g.S.Sink.state c.args.out.now) (g.S.Sink.state c.send_good.new.out) _ c.in_ok-send_good.field-0 c.args.next_bad c.in_ok-send_good.ensures.sent

pub returns-clause-taken : goal.returns-clause-taken
returns-clause-taken g c = c.in_ok-send_good.ensures.taken

pub returns-clause-next : goal.returns-clause-next
returns-clause-next g c =
    let other : c.args.next_bad ≢ Some c.args.number = search rules in
    next_on _ c.args.number c.args.next_bad c.requires.next other

pub returns-clause-calls : goal.returns-clause-calls
returns-clause-calls g c = c.send_good.ensures.calls

pub returns-in_err-send_good-clause-sent : goal.returns-in_err-send_good-clause-sent
returns-in_err-send_good-clause-sent g c =
    let told = err_from_is_err_and c.from_residual-in_err-send_good.result c.from_residual-in_err-send_good.ensures.1 in
    rw (told.1, told.2) (failed_alike c.args.machine.now c.send_good.new.machine (g.S.Sink.state c.args.out.now) (g.S.Sink.state c.send_good.new.out) _ c.in_err-send_good.field-0.0 c.in_err-send_good.ensures.sent)

pub returns-in_err-send_good-clause-taken : goal.returns-in_err-send_good-clause-taken
returns-in_err-send_good-clause-taken g c = rw (err_from_is_err_and c.from_residual-in_err-send_good.result c.from_residual-in_err-send_good.ensures.1).1 tt

pub returns-in_err-send_good-clause-next : goal.returns-in_err-send_good-clause-next
returns-in_err-send_good-clause-next g c = rw (err_from_is_err_and c.from_residual-in_err-send_good.result c.from_residual-in_err-send_good.ensures.1).1 tt

pub returns-in_err-send_good-clause-calls : goal.returns-in_err-send_good-clause-calls
returns-in_err-send_good-clause-calls g c = c.send_good.ensures.calls

pub returns-in_err-encode_sector-clause-sent : goal.returns-in_err-encode_sector-clause-sent
returns-in_err-encode_sector-clause-sent g c =
    let told = err_from_is_err_and c.from_residual.result c.from_residual.ensures.1 in
    rw (told.1, told.2) (sent_nothing c.args.machine.now (g.S.Sink.state c.args.out.now) (g.S.Sink.state c.encode_sector.new.out) _ _ c.in_err-encode_sector.field-0.0 c.in_err-encode_sector.ensures.out)

pub returns-in_err-encode_sector-clause-taken : goal.returns-in_err-encode_sector-clause-taken
returns-in_err-encode_sector-clause-taken g c = rw (err_from_is_err_and c.from_residual.result c.from_residual.ensures.1).1 tt

pub returns-in_err-encode_sector-clause-next : goal.returns-in_err-encode_sector-clause-next
returns-in_err-encode_sector-clause-next g c = rw (err_from_is_err_and c.from_residual.result c.from_residual.ensures.1).1 tt

pub returns-then-eq-clause-sent : goal.returns-then-eq-clause-sent
returns-then-eq-clause-sent g c =
    let same : c.args.next_bad ≡ Some c.args.number = search rules in
    sent_bad c.args.machine.now c.args.dev c.args.number (g.S.Sink.state c.args.out.now) (g.S.Sink.state c.encode_sector.new.out) c.in_ok-encode_sector.field-0 _ (bad_now (state_of c.args.machine.now) c.args.dev c.args.number c.args.next_bad c.requires.next same)
    c.in_ok-encode_sector.ensures.out

pub returns-then-eq-clause-taken : goal.returns-then-eq-clause-taken
returns-then-eq-clause-taken g c =
    let same : c.args.next_bad ≡ Some c.args.number = search rules in
    λ disks. taken_bad (state_of c.args.machine.now) c.args.dev c.args.number (prompt c.args.sum.now.taken) (prompt c.encode_sector-then-eq.new.out.taken) (bad_now (state_of c.args.machine.now) c.args.dev c.args.number c.args.next_bad c.requires.next same) c.in-Ok.ensures.taken
