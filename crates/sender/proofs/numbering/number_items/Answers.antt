use Rattle.std.proofs.Common.{◌<◌, length, ap, sym, ◌∙◌, arith, rules, ◌++◌, ◌∷◌, []}
use Rattle.machine.specs.Seen.{state_of}
use Rattle.sender.proofs.Numbers.{at_end, at_first, at_next, firsts_all, firsts_more, shapes_long}
use Rattle.sender.proofs.numbering.number_items.Goals as goal

pub loop-dev-init : goal.loop-dev-init
loop-dev-init g c =
    let m = state_of c.args.machine.now in
    let long = shapes_long m c.shapes-count.result.now c.shapes-count.ensures.shapes in
    record {
      end = long;
      few = omega (arith, long, c.page_count-first.ensures.sound.few_devices);
      room = search rules;
      made = search rules;
      firsts = search rules;
      at = at_first m c.page_count-first.result c.page_count-first.ensures.sound c.page_count-first.ensures.count c.page_count-first.ensures.few;
    }

pub loop-dev-preserved : goal.loop-dev-preserved
loop-dev-preserved g c =
    let m = state_of c.args.machine.now in
    let below : c.loop-dev.dev < length m.devices = omega (arith, c.loop-dev-test.true, c.loop-dev.invariant.end) in
    record {
      end = c.loop-dev.invariant.end;
      few = c.loop-dev.invariant.few;
      room = search rules;
      made = search rules;
      firsts = c.push_reserved.ensures.items ∙ ap (λ xs. xs ++ c.loop-dev.first ∷ []) c.loop-dev.invariant.firsts ∙ sym (firsts_more m c.loop-dev.dev c.loop-dev.first c.loop-dev.invariant.at below);
      at = at_next m c.loop-dev.dev c.loop-dev.first c.sector_count-first.result c.loop-dev.invariant.at below c.sector_count-first.ensures.count c.sector_count-first.ensures.few;
    }

pub returns-clause-firsts : goal.returns-clause-firsts
returns-clause-firsts g c =
    firsts_all (state_of c.args.machine.now) c.loop-dev.dev c.loop-dev.firsts.items c.loop-dev.invariant.at.sound (omega (arith, c.loop-dev-test.false, c.loop-dev.auto.dev-end, c.loop-dev.invariant.end)) c.loop-dev.invariant.firsts

pub returns-clause-size : goal.returns-clause-size
returns-clause-size g c =
    at_end (state_of c.args.machine.now) c.loop-dev.dev c.loop-dev.first c.loop-dev.invariant.at (omega (arith, c.loop-dev-test.false, c.loop-dev.auto.dev-end, c.loop-dev.invariant.end))
