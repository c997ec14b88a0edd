use Rattle.sender.specs.Calls.{ended_reply}
use Rattle.c_handle.proofs.Migration.{ended}
use Rattle.c_handle.proofs.migrating.round_status.Goals as goal

pub returns : goal.returns
returns g c = ended c.args.live.now c.end_round.new.self (ended_reply c.end_round.result) _ c.recall.ensures c.end_round.ensures.served c.ended_status.ensures
