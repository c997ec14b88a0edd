use Rattle.std.proofs.Common.{refl}
use Rattle.c_handle.proofs.Migration.{not_begun}
use Rattle.c_handle.proofs.migrating.first_begun.Goals as goal

pub returns-in-Err-clause-same : goal.returns-in-Err-clause-same
returns-in-Err-clause-same g c = not_begun c.args.live.machine c.abort.result c.args.live c.begin.new.self c.in-Err.field-0 refl c.in-Err.ensures.served c.in-Err.ensures.calls c.abort.ensures
