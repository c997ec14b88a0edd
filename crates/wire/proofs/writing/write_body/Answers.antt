use Rattle.std.proofs.Common.{◌≡◌, ◌++◌, List, ℕ, refl, rules, subst}
use Rattle.std.specs.Prelude.{OnOk}
use Rattle.chains.specs.declared.position.Positions.{Positions}
use Rattle.machine.specs.State.{DeviceState}
use Rattle.machine.specs.declared.kind.Kind.{Kind}
use Rattle.mmio.specs.declared.queue.Queue.{Queue}
use Rattle.wire.specs.DeviceBody.{body, common_text, kind_text, queues_text}
use Rattle.wire.specs.Sinks.{Appends, Takes}
use Rattle.wire.specs.declared.sink.SinkFault.{SinkFault}
use Rattle.wire.proofs.Sinks.{then_appends, then_takes}
use Rattle.wire.proofs.writing.write_body.Goals as goal

text_is : (state : DeviceState) (first : List ℕ) (queues : List Queue) (positions : List Positions) (kind : Kind) → first ≡ common_text state.registers.common → queues ≡ state.registers.queues
    → positions ≡ state.positions → kind ≡ state.kind → first ++ (queues_text queues positions ++ kind_text kind) ≡ body state
text_is state first queues positions kind a b c d = rw (a, b, c, d) refl

pub returns-clause-out : goal.returns-clause-out
returns-clause-out g c =
    let state = c.args.state.now in
    let first : c.common_bytes.result ≡ common_text state.registers.common = search rules in
    let queues : c.queues.result.now ≡ state.registers.queues = cc in
    let text : c.common_bytes.result ++ (queues_text c.queues.result.now c.positions.result.now ++ kind_text c.kind.result.now) ≡ body state = text_is state c.common_bytes.result c.queues.result.now c.positions.result.now c.kind.result.now first queues c.positions.ensures.positions c.kind.ensures in
    let last = queues_text c.queues.result.now c.positions.result.now ++ kind_text c.kind.result.now in
    subst (λ (l : List ℕ). Appends {T = Unit {0}} {E = SinkFault} (g.S.Sink.state c.args.out.now) l c.write_kind.result (g.S.Sink.state c.write_kind.new.out)) text
    (then_appends (g.S.Sink.state c.args.out.now) (g.S.Sink.state c.put.new.self) (g.S.Sink.state c.write_kind.new.out) c.common_bytes.result last c.in_ok-put.field-0 c.write_kind.result c.in_ok-put.ensures.appends
    (then_appends (g.S.Sink.state c.put.new.self) (g.S.Sink.state c.write_queues.new.out) (g.S.Sink.state c.write_kind.new.out) (queues_text c.queues.result.now c.positions.result.now) (kind_text c.kind.result.now) c.in_ok-write_queues.field-0 c.write_kind.result
    c.in_ok-write_queues.ensures.out c.write_kind.ensures.out))

pub returns-clause-taken : goal.returns-clause-taken
returns-clause-taken g c =
    let state = c.args.state.now in
    let first : c.common_bytes.result ≡ common_text state.registers.common = search rules in
    let queues : c.queues.result.now ≡ state.registers.queues = cc in
    let text : c.common_bytes.result ++ (queues_text c.queues.result.now c.positions.result.now ++ kind_text c.kind.result.now) ≡ body state = text_is state c.common_bytes.result c.queues.result.now c.positions.result.now c.kind.result.now first queues c.positions.ensures.positions c.kind.ensures in
    let last = queues_text c.queues.result.now c.positions.result.now ++ kind_text c.kind.result.now in
    subst (λ (l : List ℕ). OnOk c.write_kind.result (Takes (g.S.Sink.sum c.args.out.now) l (g.S.Sink.sum c.write_kind.new.out))) text
    (then_takes (g.S.Sink.sum c.args.out.now) (g.S.Sink.sum c.put.new.self) (g.S.Sink.sum c.write_kind.new.out) c.common_bytes.result last c.write_kind.result c.in_ok-put.ensures.takes
    (then_takes (g.S.Sink.sum c.put.new.self) (g.S.Sink.sum c.write_queues.new.out) (g.S.Sink.sum c.write_kind.new.out) (queues_text c.queues.result.now c.positions.result.now) (kind_text c.kind.result.now) c.write_kind.result
    c.in_ok-write_queues.ensures.taken c.write_kind.ensures.taken))
