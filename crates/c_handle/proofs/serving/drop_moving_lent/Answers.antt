use Rattle.machine.specs.declared.event.Event.TheVariants.{Drop}
use Rattle.c_handle.proofs.ByParked.{few_told}
use Rattle.c_handle.proofs.serving.drop_moving_lent.Goals as goal

pub reply_status-requires : goal.reply_status-requires
reply_status-requires g c = few_told c.machine.result.now c.args.live.now c.drop_input.new.self (Drop c.args.dev) c.drop_input.result c.machine.ensures c.recall.ensures.some c.recall.ensures.few c.recall.ensures.sound c.drop_input.ensures.served
