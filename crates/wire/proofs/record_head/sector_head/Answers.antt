use Rattle.std.proofs.Common.{arith}
use Rattle.wire.proofs.Heads.{no_mark, sector_cut, sector_read}
use Rattle.wire.proofs.record_head.sector_head.Goals as goal

pub returns-then-fields-lt6 : goal.returns-then-fields-lt6
returns-then-fields-lt6 c = sector_cut c.args.fields.now (λ i. omega (arith, c.type_inv.fields i)) (omega arith)

pub returns-then-mark-gt1 : goal.returns-then-mark-gt1
returns-then-mark-gt1 c =
    no_mark c.args.fields.now c.u8_at-device.result c.u32_at-number.result c.u8_at-mark.result (λ i. omega (arith, c.type_inv.fields i)) (omega arith) c.u8_at-device.ensures c.u32_at-number.ensures c.u8_at-mark.ensures (omega arith)

pub returns : goal.returns
returns c =
    sector_read c.args.fields.now c.u8_at-device.result c.u32_at-number.result c.u8_at-mark.result (λ i. omega (arith, c.type_inv.fields i)) (omega arith) c.u8_at-device.ensures c.u32_at-number.ensures c.u8_at-mark.ensures (omega arith)
