use Rattle.std.proofs.Common.{◌∙◌, sym}
use Rattle.c_handle.proofs.PageLogs.{asked}
use Rattle.c_handle.proofs.logging.log_for.Goals as goal

pub returns : goal.returns
returns c = asked c.args.flags c.args.places c.in_ok-log.log (sym c.asks_log.ensures ∙ c.if-not-asks_log.false) c.in_ok-log.ensures
