use Rattle.machine.specs.declared.event.Event.TheVariants.{RegRead}
use Rattle.c_handle.proofs.ByParked.{few_told, served_read}
use Rattle.c_handle.proofs.serving.read_moving_lent.Goals as goal

pub reply_status-requires : goal.reply_status-requires
reply_status-requires g c = few_told c.machine.result.now c.args.live.now c.args.live.now (RegRead c.args.dev c.args.off c.args.width) c.read_register.result c.machine.ensures c.recall.ensures.some c.recall.ensures.few c.recall.ensures.sound c.read_register.ensures.served

pub returns : goal.returns
returns g c = served_read _ _ _ _ c.read_register.result _ _ _ c.read_register.ensures.rest c.read_register.ensures.served c.reply_status.ensures.status c.reply_status.ensures.number
