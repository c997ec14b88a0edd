use Rattle.sender.proofs.live.LiveOver+D+W+Ram.recall.Goals as goal

pub returns : goal.returns
returns g c =
    let live = c.self.invariant in
    rw (← c.self.view_is) (record { sound = live.sound; few = live.sets.few; due_size = live.sets.due_size; dirty_size = live.sets.dirty_size })
