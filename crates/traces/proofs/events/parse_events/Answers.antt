use Rattle.std.proofs.Common.{rules, ◌≡◌, None, Some, length, arith}
use Rattle.traces.specs.Lines.{lines_of}
use Rattle.traces.specs.Reading.{after_event}
use Rattle.traces.proofs.Progress.{last_place}
use Rattle.traces.proofs.EventsAlone.{none_read, next_events, bad_event, begun}
use Rattle.traces.proofs.events.parse_events.Goals as goal

pub loop-rest-init : goal.loop-rest-init
loop-rest-init c = record { at = none_read _ _ (search rules); count = omega arith }

pub returns-then-not-branch-clause-bad : goal.returns-then-not-branch-clause-bad
returns-then-not-branch-clause-bad c =
    let here = c.loop-rest.invariant.at in
    let bad : after_event c.loop-rest.events.items c.cut_line.result.0.now ≡ None = search rules in
    let p = bad_event c.cut_line.result.0.now (lines_of c.cut_line.result.1.now) here c.cut_line.ensures.cut bad in
    record { before = c.loop-rest.number; number = search rules; there = p.0; good = begun _ _ here.done; bad = p.1 }

pub loop-rest-preserved : goal.loop-rest-preserved
loop-rest-preserved c =
    let good : after_event c.loop-rest.events.items c.cut_line.result.0.now ≡ Some c.add_line.new.events.items = search rules in
    record {
      at = next_events c.cut_line.result.0.now (lines_of c.cut_line.result.1.now) _ c.loop-rest.invariant.at c.cut_line.ensures.cut good;
      count = omega arith;
    }

pub returns-clause-read : goal.returns-clause-read
returns-clause-read c =
    let empty : length c.loop-rest.rest.now ≡ 0 = search rules in
    let last = last_place c.loop-rest.rest.now c.loop-rest.invariant.at.place empty in
    rw last.1 at c.loop-rest.invariant.at.done
