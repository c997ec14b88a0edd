use Rattle.std.proofs.Common.{rules, subst}
use Rattle.blk.specs.Disk.{IsSector}
use Rattle.guestmem.specs.Number.{IsBytes}
use Rattle.sender.proofs.SectorReads.{added_good, sent_good}
use Rattle.sender.proofs.saving.write_read.Goals as goal

pub returns-in_ok-encode_sector-in-Ok-true-clause-sent : goal.returns-in_ok-encode_sector-in-Ok-true-clause-sent
returns-in_ok-encode_sector-in-Ok-true-clause-sent g c = λ old new read.
    sent_good old new c.args.dev c.args.number c.args.bytes.now (g.S.Sink.state c.args.out.now) (g.S.Sink.state c.encode_sector.new.out) (tt {0}) (tt {0})
    (rw (c.in-Ok-true.is, c.in-Ok-true.field-0-test) at read) (rw c.in_ok-encode_sector-in-Ok-true.was at c.encode_sector.ensures.out)

pub returns-in_ok-encode_sector-in-Ok-true-clause-added : goal.returns-in_ok-encode_sector-in-Ok-true-clause-added
returns-in_ok-encode_sector-in-Ok-true-clause-added g c = λ old new read.
    let whole : IsSector c.args.bytes.now = record { size = search rules; bytes = subst IsBytes c.as_slice.ensures c.recall_bytes.ensures } in
    added_good old new c.args.dev c.args.number c.args.bytes.now (g.S.Sink.state c.args.out.now) (g.S.Sink.state c.encode_sector.new.out) (g.S.Sink.sum c.args.out.now) (g.S.Sink.sum c.encode_sector.new.out) (tt {0}) whole
    (rw (c.in-Ok-true.is, c.in-Ok-true.field-0-test) at read) (rw c.in_ok-encode_sector-in-Ok-true.was at c.encode_sector.ensures.out) c.in_ok-encode_sector-in-Ok-true.ensures.taken
