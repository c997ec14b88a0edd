use Rattle.receiver.proofs.Closes.{fed_is}
use Rattle.receiver.proofs.receiver.Receiver+D+Told.recall_bytes.Goals as goal

pub returns : goal.returns
returns g c =
    let r = c.self.inside.reader in
    rw (← c.self.view_is) (λ on b h. fed_is r.ram r.disks r.digest b c.self.inside.held.items r.stage c.recall_told.ensures on h.taken)
