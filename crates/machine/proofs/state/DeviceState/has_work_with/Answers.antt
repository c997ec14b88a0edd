use Rattle.std.proofs.Common.{sym, ◌∙◌}
use Rattle.machine.proofs.NextWork.{advances_some, second_of_or}
use Rattle.machine.proofs.state.DeviceState.has_work_with.Goals as goal

pub returns-else-looks_with : goal.returns-else-looks_with
returns-else-looks_with c =
    let d = c.args.self.now in
    second_of_or _ _ c.advances.result (sym c.looks_with.ensures ∙ c.if-looks_with.false) (c.advances.ensures ∙ sym (advances_some c.requires.sound.0 d c.args.pick c.requires.sound.1))
