use Rattle.std.proofs.Common.{◌≡◌, ◌+◌, ◌∙◌, ap, sym, arith, length, take, List}
use Rattle.std.proofs.lemmas.List.{take_all}
use Rattle.std.specs.List.{flat_map}
use Rattle.machine.specs.declared.shape.Shape.{Shape}
use Rattle.wire.specs.Header.{spelled_shape}
use Rattle.wire.proofs.PartLengths.{length_header}
use Rattle.wire.proofs.lengths.header_len.Goals as goal

pub returns-clause-len : goal.returns-clause-len
returns-clause-len c = λ opening is.
    let all : take c.loop-i.i c.args.shapes.now ≡ c.args.shapes.now = take_all c.loop-i.i c.args.shapes.now (omega (arith, c.loop-i-test.false)) in
    c.loop-i.invariant.sum ∙ ap (λ (xs : List Shape). 16 + length (flat_map spelled_shape xs)) all ∙ ap (λ (xs : List Shape). 16 + length (flat_map spelled_shape xs)) (sym is) ∙ sym (length_header opening)
