use Rattle.std.proofs.Common.{rules, arith, ◌∙◌}
use Rattle.packedring.proofs.Lists.{among_more}
use Rattle.packedring.proofs.events.is_covered.Goals as goal

pub loop-step-preserved : goal.loop-step-preserved
loop-step-preserved c = record {
  inside = search rules;
  rest = rw c.going_on-position.ensures (among_more _ _ _ c.loop-step.position _ _ (omega arith) (search rules)) ∙ c.loop-step.invariant.rest;
}
