use Rattle.std.proofs.Common.{◌∙◌, sym}
use Rattle.machine.proofs.Holding.{none_lacking, over_same, window_same}
use Rattle.machine.proofs.machine.lending.held.MachineOver+D+ParkedRam.step_held.Goals as goal

pub returns-clause-may_make : goal.returns-clause-may_make
returns-clause-may_make g c = record {
  fresh = sym c.is_stale.ensures ∙ c.if-is_stale.false;
  knows = rw (c.held.ensures, c.work-work.ensures) at (none_lacking _ _ _ c.in-Ok-None.field-0 (rw c.in-Ok-None.is at c.in-Ok-None.field-0-is) (rw c.in-Ok-None.is at c.lacks-lacking.ensures.lacking));
}

pub returns-clause-made : goal.returns-clause-made
returns-clause-made g c =
    let was = c.lacks-lacking in
    let same = window_same c.args.self c.args.window was.result.1 was.ensures.content was.ensures.place in
    over_same _ c.args.self c.step_over-stepped.result.2 c.args.window was.result.1 c.step_over-stepped.result.1 _ _ _ _ _ same (rw (was.ensures.machine, c.work-work.ensures) at c.step_over-stepped.ensures)
