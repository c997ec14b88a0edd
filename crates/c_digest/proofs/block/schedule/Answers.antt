use Rattle.std.proofs.Common.{rules, ◌≡◌, sym, arith, ◌∙◌}
use Rattle.std.proofs.lemmas.List.{take_all}
use Rattle.sha2.specs.Sha256.{first_words}
use Rattle.c_digest.proofs.Words.{further_more, given_all, given_more}
use Rattle.c_digest.proofs.block.schedule.Goals as goal

pub given-init : goal.given-init
unfolding first_words
given-init c = search rules

pub given-preserved : goal.given-preserved
given-preserved c = (
  search rules,
  given_more c.args.block.now c.given.words c.given.t c.word_at.result (omega arith) c.given.invariant.1 c.word_at.ensures,
)

pub further-init : goal.further-init
further-init c = (
  c.given.invariant.0,
  omega arith,
  given_all c.args.block.now c.given.words c.given.t (omega arith) (omega arith) c.given.invariant.1,
)

pub further-preserved : goal.further-preserved
further-preserved c = (
  search rules,
  omega arith,
  further_more c.args.block.now c.further.words c.further.t c.next_word.result (omega arith) (omega arith) c.further.invariant.2 c.next_word.ensures,
)

pub returns : goal.returns
returns c =
    let end : c.further.t ≡ 64 = omega arith in
    sym (take_all 64 c.further.words (omega arith)) ∙ (rw end at c.further.invariant.2)
