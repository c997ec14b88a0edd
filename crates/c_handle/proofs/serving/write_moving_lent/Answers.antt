use Rattle.machine.specs.declared.event.Event.TheVariants.{RegWrite}
use Rattle.c_handle.proofs.ByParked.{few_told, served_write}
use Rattle.c_handle.proofs.serving.write_moving_lent.Goals as goal

pub reply_status-requires : goal.reply_status-requires
reply_status-requires g c = few_told c.machine.result.now c.args.live.now c.write_register.new.self (RegWrite c.args.dev c.args.off c.args.width c.args.value) c.write_register.result c.machine.ensures c.recall.ensures.some c.recall.ensures.few c.recall.ensures.sound c.write_register.ensures.served

pub returns : goal.returns
returns g c = served_write _ _ _ _ _ _ c.write_register.result _ _ _ c.write_register.ensures.rest c.write_register.ensures.served c.reply_status.ensures.status c.reply_status.ensures.number
