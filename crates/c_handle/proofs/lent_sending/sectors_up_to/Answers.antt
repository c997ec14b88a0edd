use Rattle.std.proofs.Common.{◌<◌, arith, ap, ◌∙◌}
use Rattle.std.specs.Prelude.{Ok}
use Rattle.c_handle.proofs.LentSending.{none_due, one_sector, page_due, sector_refused}
use Rattle.c_handle.proofs.lent_sending.sectors_up_to.Goals as goal

pub returns-in-Ok-PageDue : goal.returns-in-Ok-PageDue
returns-in-Ok-PageDue g c =
    let more : 0 < c.loop-left.left = omega (arith, c.loop-left-test.true) in
    page_due c.args.most c.loop-left.left c.in-Ok-PageDue.field-0-0 c.args.live.now c.loop-left.live c.copy_sector.new.self c.copy_sector.result (c.in-Ok-PageDue.is ∙ ap Ok c.in-Ok-PageDue.field-0-is) more c.copy_sector.ensures.copied c.loop-left.invariant

pub returns-in-Ok-RoundDone : goal.returns-in-Ok-RoundDone
returns-in-Ok-RoundDone g c =
    let more : 0 < c.loop-left.left = omega (arith, c.loop-left-test.true) in
    none_due c.args.most c.loop-left.left c.args.live.now c.loop-left.live c.copy_sector.new.self c.copy_sector.result (c.in-Ok-RoundDone.is ∙ ap Ok c.in-Ok-RoundDone.field-0-is) more c.copy_sector.ensures.copied c.loop-left.invariant

pub returns-in-Err : goal.returns-in-Err
returns-in-Err g c =
    let more : 0 < c.loop-left.left = omega (arith, c.loop-left-test.true) in
    sector_refused c.args.most c.loop-left.left c.mig_status.result c.args.live.now c.loop-left.live c.copy_sector.new.self c.copy_sector.result c.in-Err.error c.in-Err.is more c.copy_sector.ensures.copied c.mig_status.ensures c.loop-left.invariant

pub loop-left-preserved : goal.loop-left-preserved
loop-left-preserved g c status next rest =
    let more : 0 < c.loop-left.left = omega (arith, c.loop-left-test.true) in
    one_sector c.args.most c.loop-left.left c.in-Ok-Copied.field-0-0 c.in-Ok-Copied.field-0-1 c.args.live.now c.loop-left.live c.copy_sector.new.self c.copy_sector.result (c.in-Ok-Copied.is ∙ ap Ok c.in-Ok-Copied.field-0-is) more c.copy_sector.ensures.copied c.loop-left.invariant status next rest
