use Rattle.std.proofs.Common.{rules, ◌≡◌, ◌+◌, None, Some, length, inl, inr, arith, ℕ, refl, ap, sym, ◌∙◌}
use Rattle.traces.specs.Lines.{lines_of}
use Rattle.traces.specs.Reading.{Said, after_line, said_of}
use Rattle.traces.specs.Trace.{begin_line_of}
use Rattle.traces.proofs.Progress.{at_start, next_line, bad_line, all_lines, last_place}
use Rattle.traces.proofs.FirstBegin.{next_begin}
use Rattle.traces.proofs.Whole.{beginning, no_beginning, not_whole, whole}
use Rattle.traces.proofs.reading.parse.Goals as goal

pub loop-rest-init : goal.loop-rest-init
loop-rest-init c = record { at = at_start _ _ c.new-trace.ensures; begins = refl; count = omega arith }

pub returns-then-not-branch-clause-bad : goal.returns-then-not-branch-clause-bad
returns-then-not-branch-clause-bad c =
    let here = c.loop-rest.invariant.at in
    let bad : after_line (said_of c.loop-rest.trace) c.cut_line.result.0.now ≡ None = search rules in
    let p = bad_line c.cut_line.result.0.now (lines_of c.cut_line.result.1.now) here c.cut_line.ensures.cut bad in
    inl (record { before = c.loop-rest.number; number = search rules; there = p.0; good = beginning _ _ here.done; bad = no_beginning _ p.1 })

pub loop-rest-preserved : goal.loop-rest-preserved
loop-rest-preserved c =
    let good : after_line (said_of c.loop-rest.trace) c.cut_line.result.0.now ≡ Some (said_of c.add_line.new.self) = search rules in
    record {
      at = next_line c.cut_line.result.0.now (lines_of c.cut_line.result.1.now) _ c.loop-rest.invariant.at c.cut_line.ensures.cut good;
      begins = next_begin c.cut_line.result.0.now (lines_of c.cut_line.result.1.now) _ _ c.loop-rest.invariant.at.place c.cut_line.ensures.cut c.loop-rest.invariant.begins c.first_begin-begin_line.ensures;
      count = omega arith;
    }

pub returns-in-Some-clause-read : goal.returns-in-Some-clause-read
returns-in-Some-clause-read c =
    let empty : length c.loop-rest.rest.now ≡ 0 = search rules in
    let is_whole = c.in-Some.ensures.whole in
    let all = all_lines c.loop-rest.rest.now c.loop-rest.invariant.at empty in
    let last = last_place c.loop-rest.rest.now c.loop-rest.invariant.at.place empty in
    let begins : c.loop-rest.begin_line ≡ begin_line_of (lines_of c.args.text.now) = rw last.1 at c.loop-rest.invariant.begins in
    whole _ _ _ _ _ (all.1 ∙ ap (λ (s : Said). Some s) (sym is_whole.1)) is_whole.0.1 (c.in-Some.ensures.begins ∙ begins)

pub returns-in-None-clause-bad : goal.returns-in-None-clause-bad
returns-in-None-clause-bad c =
    let empty : length c.loop-rest.rest.now ≡ 0 = search rules in
    let all = all_lines c.loop-rest.rest.now c.loop-rest.invariant.at empty in
    inr (record { number = ap (λ (n : ℕ). n + 1) all.0; good = beginning _ _ all.1; part = not_whole _ _ all.1 (c.in-None.ensures.part refl) })
