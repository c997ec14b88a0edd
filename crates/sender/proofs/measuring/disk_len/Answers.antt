use Rattle.std.proofs.Common.{arith}
use Rattle.machine.specs.Seen.{state_of}
use Rattle.sender.proofs.SavedLengths.{disk_told, few_bad}
use Rattle.sender.proofs.measuring.disk_len.Goals as goal

pub overflow_sub-good : goal.overflow_sub-good
overflow_sub-good g c = few_bad (state_of c.args.machine.now) c.args.dev c.sector_count.result c.bad_sectors-bad.result (record { sound = c.sector_count.ensures.sound; all = c.sector_count.ensures.count; are_bad = c.bad_sectors-bad.ensures })

pub overflow_mul-result-2 : goal.overflow_mul-result-2
overflow_mul-result-2 g c =
    let few = few_bad (state_of c.args.machine.now) c.args.dev c.sector_count.result c.bad_sectors-bad.result (record { sound = c.sector_count.ensures.sound; all = c.sector_count.ensures.count; are_bad = c.bad_sectors-bad.ensures }) in
    omega (arith, few, c.sector_count.ensures.few)

pub overflow_add-result : goal.overflow_add-result
overflow_add-result g c =
    let few = few_bad (state_of c.args.machine.now) c.args.dev c.sector_count.result c.bad_sectors-bad.result (record { sound = c.sector_count.ensures.sound; all = c.sector_count.ensures.count; are_bad = c.bad_sectors-bad.ensures }) in
    omega (arith, few, c.sector_count.ensures.few)

pub returns-clause-len : goal.returns-clause-len
returns-clause-len g c = disk_told (state_of c.args.machine.now) c.args.dev c.sector_count.result c.bad_sectors-bad.result (record { sound = c.sector_count.ensures.sound; all = c.sector_count.ensures.count; are_bad = c.bad_sectors-bad.ensures })

pub returns-clause-short : goal.returns-clause-short
returns-clause-short g c =
    let few = few_bad (state_of c.args.machine.now) c.args.dev c.sector_count.result c.bad_sectors-bad.result (record { sound = c.sector_count.ensures.sound; all = c.sector_count.ensures.count; are_bad = c.bad_sectors-bad.ensures }) in
    omega (arith, few, c.sector_count.ensures.few)
