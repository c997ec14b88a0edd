use Rattle.std.proofs.Common.{◌∙◌}
use Rattle.chains.proofs.FrameLaws.{looked_on}
use Rattle.chains.proofs.transmitting.transmit.Goals as goal

pub returns-clause-after : goal.returns-clause-after
returns-clause-after g c = looked_on c.in_ok-look.ensures.after c.publish-is_due.ensures.after (c.publish-is_due.ensures.decoder ∙ c.take.ensures.decoder)
