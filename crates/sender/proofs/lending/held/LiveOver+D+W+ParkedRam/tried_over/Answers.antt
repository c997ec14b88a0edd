use Rattle.std.proofs.Common.{◌≡◌, ◌*◌, length, refl, sym, ap, ◌∙◌}
use Rattle.machine.specs.Beside.{window_memory}
use Rattle.machine.specs.Parked.{back_with}
use Rattle.sender.specs.Parked.{LiveParkedSeen}
use Rattle.sender.proofs.HeldOver.{fit_tried, made_tried, same_tried, some_tried}
use Rattle.sender.proofs.Over.{may_over}
use Rattle.sender.proofs.lending.held.LiveOver+D+W+ParkedRam.tried_over.Goals as goal

pub step_held-tried-requires-clause-may : goal.step_held-tried-requires-clause-may
step_held-tried-requires-clause-may g c =
    let i = c.self.inside in
    let size : length c.args.window.content ≡ 4096 * length i.machine.memory = c.requires.size ∙ ap (λ (v : LiveParkedSeen). 4096 * length v.machine.memory) (sym c.self.view_is) in
    may_over (back_with i.machine (window_memory i.machine c.args.window)) i.machine i.phase i.due i.logs.first i.at c.self.invariant.1 size refl

pub invariant_of-next : goal.invariant_of-next
invariant_of-next g c =
    let i = c.self.inside in
    let was = c.step_held-tried in
    let size : length c.args.window.content ≡ 4096 * length i.machine.memory = c.requires.size ∙ ap (λ (v : LiveParkedSeen). 4096 * length v.machine.memory) (sym c.self.view_is) in (
      some_tried i.machine was.result.2 c.args.window was.result.1 _ _ _ i.phase i.due i.logs.first was.new.log i.at c.self.invariant.1 was.result.0 (was.ensures.made, was.ensures.machine, was.ensures.log) c.self.invariant.0,
      fit_tried i.machine was.result.2 c.args.window was.result.1 _ _ _ i.phase i.due i.logs.first was.new.log i.at c.self.invariant.1 was.result.0 (was.ensures.made, was.ensures.machine, was.ensures.log) size,
    )

pub returns-clause-made : goal.returns-clause-made
returns-clause-made g c =
    let i = c.self.inside in
    let was = c.step_held-tried in
    rw (← c.self.view_is) (made_tried i.machine was.result.2 c.args.window was.result.1 _ _ _ i.phase i.due i.logs.first was.new.log i.at c.self.invariant.1 was.result.0 (was.ensures.made, was.ensures.machine, was.ensures.log) (g.W.Sink.sum i.writer) (g.W.Sink.state i.writer))

pub returns-clause-machine : goal.returns-clause-machine
returns-clause-machine g c =
    let i = c.self.inside in
    let was = c.step_held-tried in
    rw (← c.self.view_is) (same_tried i.machine was.result.2 c.args.window was.result.1 _ _ _ i.phase i.due i.logs.first was.new.log i.at c.self.invariant.1 was.result.0 (was.ensures.made, was.ensures.machine, was.ensures.log) (g.W.Sink.sum i.writer) (g.W.Sink.state i.writer))
