use Rattle.std.proofs.Common.{refl}
use Rattle.c_handle.proofs.Reading.{never_failed, readable, was_bad, was_good}
use Rattle.c_handle.proofs.sectors.read_out.Goals as goal

pub read_sector-requires : goal.read_sector-requires
read_sector-requires g c = readable c.args.machine.now c.args.dev c.args.sector c.shapes-shapes.ensures.sound c.requires

pub returns-in-Ok-true : goal.returns-in-Ok-true
returns-in-Ok-true g c =
    let bytes = c.read_sector.new.buf in
    was_good c.args.machine.now c.read_sector.new.self c.args.dev c.args.sector bytes c.args.buf.now _ c.read_sector.result c.in-Ok-true.field-0 c.in-Ok-true.is c.in-Ok-true.field-0-test c.read_sector.ensures.read refl

pub returns-in-Ok-false : goal.returns-in-Ok-false
returns-in-Ok-false g c =
    was_bad c.args.machine.now c.read_sector.new.self c.args.dev c.args.sector c.read_sector.new.buf c.args.buf.now c.read_sector.result c.in-Ok-false.field-0 c.in-Ok-false.is c.in-Ok-false.field-0-test c.read_sector.ensures.read

pub returns-in-Err : goal.returns-in-Err
returns-in-Err g c = never_failed c.args.machine.now c.read_sector.new.self c.args.dev c.args.sector c.read_sector.new.buf c.args.buf.now _ _ c.in-Err.is c.read_sector.ensures.read
