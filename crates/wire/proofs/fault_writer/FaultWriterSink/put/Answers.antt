use Rattle.std.proofs.Common.{◌≡◌, ◌<◌, ap, length, rules, subst, take}
use Rattle.wire.proofs.FaultWriters.{part_taken}
use Rattle.wire.specs.FaultWriter.{FaultWriterState, IsPut}
use Rattle.wire.proofs.fault_writer.FaultWriterSink.put.Goals as goal

pub returns-then-len-room-clause-planned : goal.returns-then-len-room-clause-planned
returns-then-len-room-clause-planned g c =
    let i = c.self.inside in
    let old : FaultWriterState = record { inner = g.S.Sink.state i.inner; room = i.room; flush_fails = i.flush_fails; failures = i.failures; is_flushed = i.is_flushed } in
    let less : c.in-Some.room < length c.args.bytes.now = search rules in
    let front : c.split_at.result.0.now ≡ take c.in-Some.room c.args.bytes.now = search rules in
    let made = c.fail-then-len-room.ensures.failures in
    let here = part_taken old c.fail-then-len-room.new.self c.args.bytes.now c.fail-then-len-room.result c.in-Some.room c.in-Some.is less (ap (λ (w : FaultWriterState). w.flush_fails) made) c.fail-then-len-room.ensures.answer (ap (λ (w : FaultWriterState). w.room) made) (rw made (record { put = c.put.result; part = rw front at c.put.ensures.appends })) in
    subst (λ (w : FaultWriterState). IsPut w c.args.bytes.now c.fail-then-len-room.result c.fail-then-len-room.new.self) c.self.view_is here
