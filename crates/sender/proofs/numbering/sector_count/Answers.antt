use Rattle.std.proofs.Common.{◌∙◌}
use Rattle.machine.specs.Seen.{state_of}
use Rattle.sender.proofs.Disks.{few_told, size_told}
use Rattle.sender.proofs.numbering.sector_count.Goals as goal

pub returns-clause-count : goal.returns-clause-count
returns-clause-count g c = c.sectors.ensures ∙ size_told (state_of c.args.machine.now) c.shapes.result.now c.args.dev _ c.shapes.ensures.sound c.shapes.ensures.shapes c.requires

pub returns-clause-few : goal.returns-clause-few
returns-clause-few g c = rw c.sectors.ensures (few_told (state_of c.args.machine.now) c.shapes.result.now c.args.dev _ c.shapes.ensures.sound c.shapes.ensures.shapes c.requires)
