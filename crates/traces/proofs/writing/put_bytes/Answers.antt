use Rattle.std.proofs.Common.{rules, ◌≡◌, length}
use Rattle.traces.specs.Replies.{bytes_text}
use Rattle.hex.specs.Hex.{encode_lower}
use Rattle.traces.proofs.Known.{begins_on}
use Rattle.traces.proofs.HexText.{text_of_some}
use Rattle.traces.proofs.writing.put_bytes.Goals as goal

pub returns-clause-err : goal.returns-clause-err
returns-clause-err g c =
    let some : length c.args.bytes.now ≡ 0 → ⊥ = search rules in
    let text : bytes_text c.args.bytes.now ≡ encode_lower c.args.bytes.now = text_of_some c.args.bytes.now some in
    rw text (begins_on c.put.result _ _ _ _ _ c.in_ok-put_with_digits.ensures.ok c.put.ensures.err)
