use Rattle.std.proofs.Common.{ap, sym, ◌∙◌}
use Rattle.receiver.specs.Receiving.{Received}
use Rattle.receiver.proofs.Ending.{not_ended, not_whole_taken, whole_taken}
use Rattle.receiver.proofs.receiver.Receiver.is_whole.Goals as goal

pub returns-clause-whole : goal.returns-clause-whole
returns-clause-whole g c = λ done.
    let r = c.self.inside.reader in
    rw (← c.self.view_is) (λ b f. whole_taken r.ram r.disks r.digest b c.self.inside.held.items r.stage (sym c.has_ended.ensures ∙ done) f.taken)

pub returns-clause-lacking : goal.returns-clause-lacking
returns-clause-lacking g c = λ lacking.
    let r = c.self.inside.reader in
    rw (← c.self.view_is) (λ b f. not_whole_taken r.ram r.disks r.digest b c.self.inside.held.items r.stage f.bytes (sym c.has_ended.ensures ∙ lacking) f.taken)

pub returns-clause-failed : goal.returns-clause-failed
returns-clause-failed g c = λ e. c.has_ended.ensures ∙ not_ended c.self.inside.reader.stage (ap (λ (v : Received). v.failed) c.self.view_is ∙ e)
