use Rattle.std.proofs.Common.{ap, ◌∙◌}
use Rattle.receiver.specs.Disks.{sizes_in}
use Rattle.receiver.specs.Receiving.{ReaderSeen, Received}
use Rattle.receiver.proofs.receiver.Receiver.into_parts.Goals as goal

pub returns-in-Some-clause-disks : goal.returns-in-Some-clause-disks
returns-in-Some-clause-disks g c = ap (λ (v : ReaderSeen). v.disks) c.reader.view_is ∙ c.fail.ensures.disks ∙ ap (λ (v : Received). v.disks) c.self.view_is

pub returns-in-None-clause-disks : goal.returns-in-None-clause-disks
returns-in-None-clause-disks g c = ap (λ (v : ReaderSeen). v.disks) c.reader.view_is ∙ c.fail.ensures.disks ∙ ap (λ (v : Received). v.disks) c.self.view_is

pub returns-in-Some-clause-sizes : goal.returns-in-Some-clause-sizes
returns-in-Some-clause-sizes g c = ap (λ (v : ReaderSeen). sizes_in v.disks) c.reader.view_is ∙ ap sizes_in c.fail.ensures.disks ∙ ap (λ (v : Received). v.sizes) c.self.view_is

pub returns-in-None-clause-sizes : goal.returns-in-None-clause-sizes
returns-in-None-clause-sizes g c = ap (λ (v : ReaderSeen). sizes_in v.disks) c.reader.view_is ∙ ap sizes_in c.fail.ensures.disks ∙ ap (λ (v : Received). v.sizes) c.self.view_is
