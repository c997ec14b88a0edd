use Rattle.std.proofs.Common.{◌≡◌, arith, length}
use Rattle.wire.specs.DeviceBody.{body}
use Rattle.wire.proofs.PartLengths.{length_device, short_body}
use Rattle.wire.proofs.lengths.device_len.Goals as goal

pub returns-clause-len : goal.returns-clause-len
returns-clause-len c = λ number.
    let short = short_body c.args.state.now c.requires.sound in
    let same : c.body_len.result ≡ length (body c.args.state.now) = omega (arith, c.body_len.ensures, short) in
    omega (arith, same, length_device number (body c.args.state.now))

pub returns-clause-short : goal.returns-clause-short
returns-clause-short c =
    let short = short_body c.args.state.now c.requires.sound in
    omega (arith, c.body_len.ensures, short)
