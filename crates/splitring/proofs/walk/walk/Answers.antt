use Rattle.std.proofs.Common.{◌++◌, ◌∙◌, refl, rules, arith}
use Rattle.std.proofs.lemmas.Result.{err_from_is_err_and}
use Rattle.chains.proofs.DecoderLaws.{decoded_none, decoded_more}
use Rattle.splitring.proofs.Leading.{walked_none, walked_more, walked_past, walked_full, walked_indirect, walked_stopped}
use Rattle.splitring.proofs.walk.walk.Goals as goal

pub loop-step-init : goal.loop-step-init
loop-step-init c = record {
  walked = λ before h. walked_none _ _ _ _ _ before _ h;
  count = omega arith;
  decoded = decoded_none _ _ c.requires.fits;
  apart = λ _. refl;
}

pub returns-then-index-table-clause-gives : goal.returns-then-index-table-clause-gives
returns-then-index-table-clause-gives c = λ before h. walked_past _ _ _ _ _ _ before c.loop-step.chain _ _ (c.loop-step.invariant.walked before h) c.if-index-table.true

pub returns-then-descriptor-2-clause-gives : goal.returns-then-descriptor-2-clause-gives
returns-then-descriptor-2-clause-gives c = λ before h.
    walked_indirect _ _ _ _ _ _ before c.loop-step.chain _ _ c.read-descriptor.result (c.loop-step.invariant.walked before h) c.read-descriptor.ensures.descriptor c.if-descriptor.true c.if-descriptor-2.true

pub returns-in_err-add-clause-gives : goal.returns-in_err-add-clause-gives
returns-in_err-add-clause-gives c = λ before h.
    let why = err_from_is_err_and c.from_residual.result c.from_residual.ensures.1 in
    rw (why.1, why.2)
    (walked_stopped _ _ c.args.table _ _ before c.loop-step.chain c.add.new.chain _ _ c.read-descriptor.result c.loop-step.last _ _ (c.loop-step.invariant.walked before h) c.if-index-table.false
    c.read-descriptor.ensures.descriptor (omega (arith, h.count)) c.if-descriptor.false c.len-len.ensures c.in_err-add.ensures.gives)

pub loop-step-preserved : goal.loop-step-preserved
loop-step-preserved c =
    let i = c.loop-step.invariant in
    record {
      walked = λ before h.
          let w = i.walked before h in
          walked_more _ _ _ _ _ before c.loop-step.chain _ _ _ c.read-descriptor.result w c.if-index-table.false c.read-descriptor.ensures.descriptor c.if-descriptor.false (search rules)
          (rw c.len-len.ensures at (c.in_ok-add.ensures.gives (before ++ w.walked) (rw c.len-len.ensures w.held)));
      count = omega (arith, i.count, c.in_ok-add.ensures.count);
      decoded = decoded_more _ _ _ _ _ _ _ (omega arith) i.decoded c.read-descriptor.ensures.decoded;
      apart = λ other. c.read-descriptor.ensures.apart other ∙ i.apart other;
    }

pub returns-clause-gives : goal.returns-clause-gives
returns-clause-gives c = λ before h. walked_full _ _ _ _ _ _ before c.loop-step.chain _ _ (c.loop-step.invariant.walked before h) (omega (arith, h.count))

pub returns-then-index-table-clause-decoded : goal.returns-then-index-table-clause-decoded
returns-then-index-table-clause-decoded c = record { fits = c.loop-step.invariant.decoded.fits; bounded = omega (arith, c.loop-step.invariant.decoded.bounded); rises = c.loop-step.invariant.decoded.rises }

pub returns-then-index-table-clause-each : goal.returns-then-index-table-clause-each
returns-then-index-table-clause-each c = λ is. absurd (cc)

pub returns-then-index-table-clause-left : goal.returns-then-index-table-clause-left
returns-then-index-table-clause-left c = λ is. absurd (cc)

pub returns-then-index-table-clause-apart : goal.returns-then-index-table-clause-apart
returns-then-index-table-clause-apart c = c.loop-step.invariant.apart

pub returns-clause-decoded : goal.returns-clause-decoded
returns-clause-decoded c = record { fits = c.loop-step.invariant.decoded.fits; bounded = omega (arith, c.loop-step.invariant.decoded.bounded); rises = c.loop-step.invariant.decoded.rises }

pub returns-clause-each : goal.returns-clause-each
returns-clause-each c = λ is. absurd (cc)

pub returns-clause-left : goal.returns-clause-left
returns-clause-left c = λ is. absurd (cc)

pub returns-clause-apart : goal.returns-clause-apart
returns-clause-apart c = c.loop-step.invariant.apart

pub returns-then-descriptor-2-clause-decoded : goal.returns-then-descriptor-2-clause-decoded
returns-then-descriptor-2-clause-decoded c = record { fits = c.read-descriptor.ensures.decoded.fits; bounded = omega (arith, c.loop-step.invariant.decoded.bounded, c.read-descriptor.ensures.decoded.bounded); rises = omega (arith, c.loop-step.invariant.decoded.rises, c.read-descriptor.ensures.decoded.rises) }

pub returns-then-descriptor-2-clause-apart : goal.returns-then-descriptor-2-clause-apart
returns-then-descriptor-2-clause-apart c = λ other. c.read-descriptor.ensures.apart other ∙ c.loop-step.invariant.apart other

pub returns-then-descriptor-2-clause-each : goal.returns-then-descriptor-2-clause-each
returns-then-descriptor-2-clause-each c = λ is. absurd (cc)

pub returns-then-descriptor-2-clause-left : goal.returns-then-descriptor-2-clause-left
returns-then-descriptor-2-clause-left c = λ is. absurd (cc)

pub returns-then-descriptor-clause-decoded : goal.returns-then-descriptor-clause-decoded
returns-then-descriptor-clause-decoded c = record { fits = c.read-descriptor.ensures.decoded.fits; bounded = omega (arith, c.loop-step.invariant.decoded.bounded, c.read-descriptor.ensures.decoded.bounded); rises = omega (arith, c.loop-step.invariant.decoded.rises, c.read-descriptor.ensures.decoded.rises) }

pub returns-then-descriptor-clause-apart : goal.returns-then-descriptor-clause-apart
returns-then-descriptor-clause-apart c = λ other. c.read-descriptor.ensures.apart other ∙ c.loop-step.invariant.apart other

pub returns-then-descriptor-clause-each : goal.returns-then-descriptor-clause-each
returns-then-descriptor-clause-each c = λ _. omega (arith, c.loop-step.invariant.count, c.loop-step.invariant.decoded.bounded, c.read-descriptor.ensures.decoded.bounded)

pub returns-then-descriptor-clause-left : goal.returns-then-descriptor-clause-left
returns-then-descriptor-clause-left c = λ _. omega (arith, c.loop-step.invariant.count, c.loop-step.invariant.decoded.bounded, c.read-descriptor.ensures.decoded.bounded)

pub returns-in_err-add-clause-decoded : goal.returns-in_err-add-clause-decoded
returns-in_err-add-clause-decoded c = record { fits = c.read-descriptor.ensures.decoded.fits; bounded = omega (arith, c.loop-step.invariant.decoded.bounded, c.read-descriptor.ensures.decoded.bounded); rises = omega (arith, c.loop-step.invariant.decoded.rises, c.read-descriptor.ensures.decoded.rises) }

pub returns-in_err-add-clause-apart : goal.returns-in_err-add-clause-apart
returns-in_err-add-clause-apart c = λ other. c.read-descriptor.ensures.apart other ∙ c.loop-step.invariant.apart other

pub returns-in_err-add-clause-each : goal.returns-in_err-add-clause-each
returns-in_err-add-clause-each c = λ is. let why = err_from_is_err_and c.from_residual.result c.from_residual.ensures.1 in absurd (cc (why.1))

pub returns-in_err-add-clause-left : goal.returns-in_err-add-clause-left
returns-in_err-add-clause-left c = λ is. let why = err_from_is_err_and c.from_residual.result c.from_residual.ensures.1 in absurd (cc (why.1))
