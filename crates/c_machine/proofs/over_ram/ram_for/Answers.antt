use Rattle.std.proofs.Common.{ap, ◌∙◌}
use Rattle.region.specs.Slot.{region_of, slot_of}
use Rattle.c_machine.proofs.over_ram.ram_for.Goals as goal

pub returns-clause-back : goal.returns-clause-back
returns-clause-back c = ap slot_of (c.taken_ram.ensures.region ∙ ap region_of c.is_none.ensures.same)
