use Rattle.std.proofs.Common.{◌≡◌, ◌++◌, ◌∙◌, ℕ, List, ap, rules, subst, length}
use Rattle.std.specs.Prelude.{OnOk}
use Rattle.wire.specs.DeviceBody.{held_text}
use Rattle.wire.specs.Numbers.{digits}
use Rattle.wire.specs.Sinks.{Appends, Takes}
use Rattle.wire.specs.declared.sink.SinkFault.{SinkFault}
use Rattle.wire.proofs.Sinks.{then_appends, then_takes}
use Rattle.wire.proofs.writing.write_held.Goals as goal

text_is : (count front back bytes : List ℕ) → count ≡ digits 2 (length bytes) → front ++ back ≡ bytes → count ++ (front ++ back) ≡ held_text bytes
text_is count front back bytes first whole = ap (λ (l : List ℕ). l ++ (front ++ back)) first ∙ ap (λ (l : List ℕ). digits 2 (length bytes) ++ l) whole

pub returns-clause-out : goal.returns-clause-out
returns-clause-out g c =
    let front = c.as_slices.result.0.now in
    let back = c.as_slices.result.1.now in
    let count : c.count_bytes.result ≡ digits 2 (length c.args.bytes.now) = search rules in
    subst (λ (l : List ℕ). Appends {T = Unit {0}} {E = SinkFault} (g.S.Sink.state c.args.out.now) l c.put-3.result (g.S.Sink.state c.put-3.new.self)) (text_is c.count_bytes.result front back c.args.bytes.now count c.as_slices.ensures)
    (then_appends (g.S.Sink.state c.args.out.now) (g.S.Sink.state c.put.new.self) (g.S.Sink.state c.put-3.new.self) c.count_bytes.result (front ++ back) c.in_ok-put.field-0 c.put-3.result c.in_ok-put.ensures.appends
    (then_appends (g.S.Sink.state c.put.new.self) (g.S.Sink.state c.put-2.new.self) (g.S.Sink.state c.put-3.new.self) front back c.in_ok-put-2.field-0 c.put-3.result c.in_ok-put-2.ensures.appends c.put-3.ensures.appends))

pub returns-clause-taken : goal.returns-clause-taken
returns-clause-taken g c =
    let front = c.as_slices.result.0.now in
    let back = c.as_slices.result.1.now in
    let count : c.count_bytes.result ≡ digits 2 (length c.args.bytes.now) = search rules in
    subst (λ (l : List ℕ). OnOk c.put-3.result (Takes (g.S.Sink.sum c.args.out.now) l (g.S.Sink.sum c.put-3.new.self))) (text_is c.count_bytes.result front back c.args.bytes.now count c.as_slices.ensures)
    (then_takes (g.S.Sink.sum c.args.out.now) (g.S.Sink.sum c.put.new.self) (g.S.Sink.sum c.put-3.new.self) c.count_bytes.result (front ++ back) c.put-3.result c.in_ok-put.ensures.takes
    (then_takes (g.S.Sink.sum c.put.new.self) (g.S.Sink.sum c.put-2.new.self) (g.S.Sink.sum c.put-3.new.self) front back c.put-3.result c.in_ok-put-2.ensures.takes c.put-3.ensures.takes))
