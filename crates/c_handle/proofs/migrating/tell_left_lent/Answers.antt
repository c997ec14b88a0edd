use Rattle.c_handle.proofs.Migration.{left_moving_lent}
use Rattle.c_handle.proofs.migrating.tell_left_lent.Goals as goal

pub returns : goal.returns
returns g c =
    let items = c.left-items.ensures in
    left_moving_lent c.args.live.now c.left-items.result _ _ _ items.due_pages items.due_sectors items.dirty_pages items.dirty_sectors c.most_by_stop.ensures c.left_status.ensures
