use Rattle.sender.specs.Calls.{ended_reply}
use Rattle.sender.proofs.ParkedServed.{ended_parked}
use Rattle.c_handle.proofs.LentSending.{ended}
use Rattle.c_handle.proofs.lent_sending.round_status_lent.Goals as goal

pub returns : goal.returns
returns g c =
    let reply = ended_reply c.end_round.result in
    ended c.args.live.now c.end_round.new.self reply _ (ended_parked c.args.live.now c.end_round.new.self reply c.end_round.ensures.served c.end_round.ensures.rest) c.ended_status.ensures
