use Rattle.c_handle.specs.Kept.{admission_of}
use Rattle.c_handle.proofs.ToldFeeding.{closed_badly}
use Rattle.c_handle.proofs.told_feeding.close.Goals as goal

pub returns-in-Err-clause-closes : goal.returns-in-Err-clause-closes
returns-in-Err-clause-closes c =
    let error = c.in-Err.ensures in
    closed_badly (admission_of c.args.admission.now) (admission_of c.ask.new.self) (admission_of c.denied.new.admission) c.args.arrival.now c.close.new.self c.args.digest.now c.args.piece.now c.denied.result c.in-Err.error c.ask.result c.in_default.is c.ask.ensures error.meets error.right error.closed
    c.denied.ensures.status c.denied.ensures.denied
