use Rattle.std.proofs.Common.{◌≡◌, true, false, length, sym, ap, ◌∙◌}
use Rattle.wire.specs.Records.{Record, is_zero_page, spelled_record}
use Rattle.wire.proofs.PageRecords.{as_page, as_zeros}
use Rattle.wire.proofs.PartLengths.{length_page, length_zero_page}
use Rattle.wire.proofs.lengths.page_len.Goals as goal

pub returns-then-is_zero-clause-len : goal.returns-then-is_zero-clause-len
returns-then-is_zero-clause-len c = λ number.
    let zeros : is_zero_page 2 c.args.bytes.now ≡ true = sym c.is_zero.ensures ∙ c.if-is_zero.true in
    sym (ap (λ (r : Record). length (spelled_record r)) (as_zeros 2 number c.args.bytes.now zeros) ∙ length_zero_page number)

pub returns-clause-len : goal.returns-clause-len
returns-clause-len c = λ number.
    let full : is_zero_page 2 c.args.bytes.now ≡ false = sym c.is_zero.ensures ∙ c.if-is_zero.false in
    sym (ap (λ (r : Record). length (spelled_record r)) (as_page 2 number c.args.bytes.now full) ∙ length_page number c.args.bytes.now c.told-bytes)
