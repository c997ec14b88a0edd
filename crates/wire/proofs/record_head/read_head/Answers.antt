use Rattle.std.proofs.Common.{rules, ◌≡◌, length}
use Rattle.wire.proofs.Heads.{nothing_read}
use Rattle.wire.proofs.record_head.read_head.Goals as goal

pub returns-in_default : goal.returns-in_default
returns-in_default c =
    let none : length c.args.bytes.now ≡ 0 = search rules in
    nothing_read c.args.bytes.now none
