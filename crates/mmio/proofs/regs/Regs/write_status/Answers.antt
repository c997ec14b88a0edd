use Rattle.mmio.proofs.Keeping.{status_kept}
use Rattle.mmio.proofs.regs.Regs.write_status.Goals as goal

pub set_common-requires : goal.set_common-requires
set_common-requires c = status_kept _ _ c.offered.result _ c.args.value c.common-common.ensures.value c.offered.ensures c.status_after-status.ensures c.common-common.ensures.sound
