use Rattle.std.proofs.Common.{◌≤◌, ◌<◌, arith, sym, ◌∙◌}
use Rattle.std.proofs.lemmas.Nat.Bits.{bit_at-zero}
use Rattle.dirtylog.proofs.Rest.{none_from, reached, high_bit}
use Rattle.dirtylog.proofs.scan.bit_from.Goals as goal

pub returns-then-rest-eq0 : goal.returns-then-rest-eq0
returns-then-rest-eq0 c = none_from c.args.word c.args.from c.requires c.ranges.word.fits (λ j. rw c.if-rest-eq0.true (bit_at-zero j))

pub returns : goal.returns
returns c =
    let word = c.args.word in
    let from = c.args.from in
    let n = c.lowest_bit.result in
    let low : from ≤ n = reached word from n c.requires c.lowest_bit.ensures.one in
    let place : n < 64 = c.lowest_bit.ensures.place in (
      low,
      place,
      sym (high_bit word from n c.requires low place) ∙ c.lowest_bit.ensures.one,
      λ k a b. let high : k < 64 = omega arith in sym (high_bit word from k c.requires a high) ∙ c.lowest_bit.ensures.lowest k b,
    )
