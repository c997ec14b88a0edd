-- What goes back into the slot is what lay in it.
use Rattle.std.proofs.Common.{◌∙◌, ap}
use Rattle.region.specs.Slot.{region_of, slot_of}
use Rattle.region.proofs.slot.Slot.len.Goals as goal

pub returns-clause-same : goal.returns-clause-same
returns-clause-same c = c.replace-2.ensures.after ∙ c.of.ensures ∙ ap slot_of (c.into_region-region.ensures ∙ ap region_of c.replace.ensures.value)
