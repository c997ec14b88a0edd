use Rattle.machine.specs.declared.event.Event.TheVariants.{Resize}
use Rattle.c_handle.proofs.ByParked.{few_told}
use Rattle.c_handle.proofs.serving.resize_moving_lent.Goals as goal

pub reply_status-requires : goal.reply_status-requires
reply_status-requires g c = few_told c.machine.result.now c.args.live.now c.resize.new.self (Resize c.args.dev c.args.cols c.args.rows) c.resize.result c.machine.ensures c.recall.ensures.some c.recall.ensures.few c.recall.ensures.sound c.resize.ensures.served
