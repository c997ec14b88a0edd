use Rattle.machine.specs.declared.event.Event.TheVariants.{Input}
use Rattle.c_handle.proofs.ByParked.{few_told, served_input}
use Rattle.c_handle.proofs.serving.input_moving_lent.Goals as goal

pub reply_status-requires : goal.reply_status-requires
reply_status-requires g c = few_told c.machine.result.now c.args.live.now c.input.new.self (Input c.args.dev c.args.bytes.now) c.input.result c.machine.ensures c.recall.ensures.some c.recall.ensures.few c.recall.ensures.sound c.input.ensures.served

pub returns : goal.returns
returns g c = served_input _ _ _ _ c.input.result _ _ _ c.input.ensures.rest c.input.ensures.served c.reply_status.ensures.status c.reply_status.ensures.number
