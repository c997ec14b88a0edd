use Rattle.std.proofs.Common.{not, refl, rules, true}
use Rattle.guestmem.proofs.RisesLaws.{touches_none}
use Rattle.blk.specs.Move.{is_disk_failed}
use Rattle.blk.specs.declared.advancing.Advanced.TheVariants.{Moved}
use Rattle.blk.proofs.Given.{flushed, id_read}
use Rattle.blk.proofs.moving.move_unit.Goals as goal

pub returns-in-Flush-clause-moved : goal.returns-in-Flush-clause-moved
returns-in-Flush-clause-moved g c =
    let r = c.args.request.now in
    flushed _ c.args.sectors.now.honest c.args.job.device r.kind c.args.job.base c.args.id.now c.args.ram.now.bytes c.args.sectors.now.content r (not (is_disk_failed c.move_flush.result)) c.move_flush.result c.move_flush.new.request c.move_flush.new.sectors.content
    c.in-Flush.is c.requires.whole c.move_flush.ensures.answer c.move_flush.ensures.moved c.move_flush.ensures.same
    (touches_none g.L.TouchLog.after c.args.log.now c.args.log.now c.args.ram.now c.args.ram.now refl refl)

pub returns-in-GetId-clause-moved : goal.returns-in-GetId-clause-moved
returns-in-GetId-clause-moved g c =
    let r = c.args.request.now in
    id_read _ c.args.sectors.now.honest c.args.job.device r.kind c.args.job.base c.args.id.now c.args.ram.now.bytes c.args.sectors.now.content r true Moved _ c.copy_in_with_base.new.ram.bytes
    c.in-GetId.is c.requires.whole refl refl (search rules) (record { log_is = search rules; rises = search rules })
