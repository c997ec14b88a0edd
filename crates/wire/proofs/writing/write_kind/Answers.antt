use Rattle.std.proofs.Common.{◌≡◌, ◌++◌, ◌∙◌, List, ℕ, ap, sym, subst}
use Rattle.std.specs.Prelude.{OnOk}
use Rattle.wire.specs.DeviceBody.{held_text, kind_text}
use Rattle.wire.specs.Sinks.{Appends, Takes}
use Rattle.wire.specs.declared.sink.SinkFault.{SinkFault}
use Rattle.wire.proofs.Sinks.{then_appends, then_takes}
use Rattle.wire.proofs.writing.write_kind.Goals as goal

pub returns-in_ok-put-in-Console-clause-out : goal.returns-in_ok-put-in-Console-clause-out
returns-in_ok-put-in-Console-clause-out g c =
    let text : c.size_bytes.result ++ held_text c.in-Console.held ≡ kind_text c.args.kind.now =
    ap (λ (l : List ℕ). l ++ held_text c.in-Console.held) c.size_bytes.ensures ∙ ap kind_text (sym c.in-Console.is) in
    subst (λ (l : List ℕ). Appends {T = Unit {0}} {E = SinkFault} (g.S.Sink.state c.args.out.now) l c.write_held.result (g.S.Sink.state c.write_held.new.out)) text
    (then_appends (g.S.Sink.state c.args.out.now) (g.S.Sink.state c.put.new.self) (g.S.Sink.state c.write_held.new.out) c.size_bytes.result (held_text c.in-Console.held) c.in_ok-put-in-Console.field-0 c.write_held.result c.in_ok-put-in-Console.ensures.appends c.write_held.ensures.out)

pub returns-in_ok-put-in-Console-clause-taken : goal.returns-in_ok-put-in-Console-clause-taken
returns-in_ok-put-in-Console-clause-taken g c =
    let text : c.size_bytes.result ++ held_text c.in-Console.held ≡ kind_text c.args.kind.now =
    ap (λ (l : List ℕ). l ++ held_text c.in-Console.held) c.size_bytes.ensures ∙ ap kind_text (sym c.in-Console.is) in
    subst (λ (l : List ℕ). OnOk c.write_held.result (Takes (g.S.Sink.sum c.args.out.now) l (g.S.Sink.sum c.write_held.new.out))) text
    (then_takes (g.S.Sink.sum c.args.out.now) (g.S.Sink.sum c.put.new.self) (g.S.Sink.sum c.write_held.new.out) c.size_bytes.result (held_text c.in-Console.held) c.write_held.result c.in_ok-put-in-Console.ensures.takes c.write_held.ensures.taken)
