use Rattle.std.proofs.Common.{◌≡◌, ◌++◌, ◌∙◌, ℕ, Bool, true, false, [], ◌∷◌, ap, refl, sym, subst}
use Rattle.machine.specs.declared.shape.Shape.{Shape}
use Rattle.wire.specs.Header.{spelled_shape}
use Rattle.wire.specs.Numbers.{digits, flag}
use Rattle.wire.specs.Sinks.{Appends}
use Rattle.wire.specs.declared.sink.SinkFault.{SinkFault}
use Rattle.wire.proofs.Sinks.{then_appends}
use Rattle.wire.proofs.writing.write_shape.Goals as goal
use mir.Val.{bool_byte}

flag_is : (b : Bool) → bool_byte b ≡ flag b
flag_is true = refl
flag_is false = refl

pub returns-in_ok-put-in-Block-clause-out : goal.returns-in_ok-put-in-Block-clause-out
unfolding spelled_shape
returns-in_ok-put-in-Block-clause-out g c =
    let s = c.in-Block.sectors in
    let buf : c.write_u64.new.buf ≡ digits 8 s ++ (flag c.in-Block.read_only ∷ []) = c.write_u64.ensures ∙ ap (λ (n : ℕ). digits 8 s ++ (n ∷ [])) (flag_is c.in-Block.read_only) in
    let head = rw buf at c.in_ok-put-in-Block.ensures.appends in
    subst (λ (shape : Shape). Appends {T = Unit {0}} {E = SinkFault} (g.S.Sink.state c.args.out.now) (spelled_shape shape) c.put-in-Block-2.result (g.S.Sink.state c.put-in-Block-2.new.self)) (sym c.in-Block.is)
    (then_appends (g.S.Sink.state c.args.out.now) (g.S.Sink.state c.put-in-Block.new.self) (g.S.Sink.state c.put-in-Block-2.new.self) (2 ∷ (digits 8 s ++ (flag c.in-Block.read_only ∷ []))) c.in-Block.id c.in_ok-put-in-Block.field-0 c.put-in-Block-2.result head c.put-in-Block-2.ensures.appends)

pub returns-in_ok-put-in-Outside-clause-out : goal.returns-in_ok-put-in-Outside-clause-out
unfolding spelled_shape
returns-in_ok-put-in-Outside-clause-out g c =
    let s = c.in-Outside.sectors in
    let buf : c.write_u64-in-Outside.new.buf ≡ digits 8 s ++ (flag c.in-Outside.read_only ∷ []) = c.write_u64-in-Outside.ensures ∙ ap (λ (n : ℕ). digits 8 s ++ (n ∷ [])) (flag_is c.in-Outside.read_only) in
    let head = rw buf at c.in_ok-put-in-Outside.ensures.appends in
    subst (λ (shape : Shape). Appends {T = Unit {0}} {E = SinkFault} (g.S.Sink.state c.args.out.now) (spelled_shape shape) c.put-in-Outside-2.result (g.S.Sink.state c.put-in-Outside-2.new.self)) (sym c.in-Outside.is)
    (then_appends (g.S.Sink.state c.args.out.now) (g.S.Sink.state c.put-in-Outside.new.self) (g.S.Sink.state c.put-in-Outside-2.new.self) (130 ∷ (digits 8 s ++ (flag c.in-Outside.read_only ∷ []))) c.in-Outside.id c.in_ok-put-in-Outside.field-0 c.put-in-Outside-2.result head c.put-in-Outside-2.ensures.appends)
