use Rattle.std.proofs.Common.{◌≡◌, ◌*◌, length, refl, sym, ap, ◌∙◌}
use Rattle.machine.specs.Beside.{window_memory}
use Rattle.machine.specs.Parked.{back_with}
use Rattle.sender.specs.Parked.{LiveParkedSeen}
use Rattle.sender.proofs.Over.{fit_over, made_over, may_over, some_over}
use Rattle.sender.proofs.lending.beside.LiveOver+D+W+ParkedRam.made_over.Goals as goal

pub step_over-stepped-requires-clause-may : goal.step_over-stepped-requires-clause-may
step_over-stepped-requires-clause-may g c =
    let i = c.self.inside in
    let size : length c.args.window.content ≡ 4096 * length i.machine.memory = c.requires.size ∙ ap (λ (v : LiveParkedSeen). 4096 * length v.machine.memory) (sym c.self.view_is) in
    may_over (back_with i.machine (window_memory i.machine c.args.window)) i.machine i.phase i.due i.logs.first i.at c.self.invariant.1 size refl

pub invariant_of-next : goal.invariant_of-next
invariant_of-next g c =
    let i = c.self.inside in
    let size : length c.args.window.content ≡ 4096 * length i.machine.memory = c.requires.size ∙ ap (λ (v : LiveParkedSeen). 4096 * length v.machine.memory) (sym c.self.view_is) in (
      some_over i.machine _ c.args.window _ c.args.dev _ _ i.phase i.due i.logs.first _ i.at c.self.invariant.1 c.step_over-stepped.ensures c.self.invariant.0,
      fit_over i.machine _ c.args.window _ c.args.dev _ _ i.phase i.due i.logs.first _ i.at c.self.invariant.1 c.step_over-stepped.ensures size,
    )

pub returns : goal.returns
returns g c =
    let i = c.self.inside in
    rw (← c.self.view_is) (made_over i.machine _ c.args.window _ c.args.dev c.args.pick _ i.phase i.due i.logs.first _ i.at c.self.invariant.1 c.step_over-stepped.ensures (g.W.Sink.sum i.writer) (g.W.Sink.state i.writer))
