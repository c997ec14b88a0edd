use Rattle.std.proofs.Common.{ap, ◌∙◌}
use Rattle.region.specs.Slot.{region_of}
use Rattle.c_machine.proofs.MadeOf.{back_again}
use Rattle.c_handle.proofs.expecting.ram_from.Goals as goal

pub returns-in-Err-clause-same : goal.returns-in-Err-clause-same
returns-in-Err-clause-same c =
    back_again c.args.ram.now c.put_back.new.ram c.taken_ram.result c.in-Err.region (c.taken_ram.ensures.region ∙ ap region_of c.is_none.ensures.same) c.in-Err.ensures.back c.put_back.ensures
