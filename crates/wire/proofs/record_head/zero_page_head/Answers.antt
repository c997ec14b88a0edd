use Rattle.std.proofs.Common.{arith}
use Rattle.wire.proofs.Heads.{zero_page_cut, zero_page_read}
use Rattle.wire.proofs.record_head.zero_page_head.Goals as goal

pub returns-then-fields-lt4 : goal.returns-then-fields-lt4
returns-then-fields-lt4 c = zero_page_cut c.args.fields.now (λ i. omega (arith, c.type_inv.fields i)) (omega arith)

pub returns : goal.returns
returns c = zero_page_read c.args.fields.now c.u32_at-number.result (λ i. omega (arith, c.type_inv.fields i)) (omega arith) c.u32_at-number.ensures
