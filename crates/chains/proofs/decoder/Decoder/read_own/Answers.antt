use Rattle.std.proofs.Common.{◌≡◌, arith, rules}
use Rattle.chains.specs.Descriptor.{descriptor_in, words_of}
use Rattle.chains.proofs.DecoderLaws.{kept_is}
use Rattle.chains.proofs.decoder.Decoder.read_own.Goals as goal

pub returns-then-version-lt18446744073709551615-clause-descriptor : goal.returns-then-version-lt18446744073709551615-clause-descriptor
unfolding descriptor_in
returns-then-version-lt18446744073709551615-clause-descriptor c =
    let kept = c.in-Some.kept in
    let same : kept.words ≡ words_of c.args.ram.now.bytes kept.index =
    kept_is c.args.self.now c.args.ram.now c.args.number kept c.requires.fits (search rules) (search rules) (omega (arith, c.if-kept-version.true, c.if-version-lt18446744073709551615.true)) in
    rw (c.decode.ensures, same, c.if-kept-index.true)
