use Rattle.receiver.proofs.slice.receive_at.Goals as goal

pub returns : goal.returns
returns g c = rw c.usual_at.ensures at c.receive_with.ensures
