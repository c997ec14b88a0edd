use Rattle.std.proofs.Common.{arith}
use Rattle.wire.proofs.Heads.{device_cut, device_read}
use Rattle.wire.proofs.record_head.device_head.Goals as goal

pub returns-then-fields-lt5 : goal.returns-then-fields-lt5
returns-then-fields-lt5 c = device_cut c.args.fields.now (λ i. omega (arith, c.type_inv.fields i)) (omega arith)

pub returns : goal.returns
returns c = device_read c.args.fields.now c.u8_at-number.result c.u32_at-len.result (λ i. omega (arith, c.type_inv.fields i)) (omega arith) c.u8_at-number.ensures c.u32_at-len.ensures
