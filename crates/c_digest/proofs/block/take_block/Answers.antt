use Rattle.std.proofs.Common.{rules, ◌≡◌, ◌+◌, ◌*◌, ap, arith, ◌∙◌}
use Rattle.sha2.specs.Sha256.{add_state, compress, rounds}
use Rattle.c_digest.proofs.block.take_block.Goals as goal

pub rounds-init : goal.rounds-init
unfolding rounds
rounds-init c = search rules

pub rounds-preserved : goal.rounds-preserved
rounds-preserved c =
    let next : 8 * (c.rounds.n + 1) ≡ 8 * c.rounds.n + 8 = omega arith in
    rw (next, ← c.schedule-words.ensures) (c.eight_rounds-next.ensures c.args.hash.now (rw c.schedule-words.ensures c.rounds.invariant))

pub returns : goal.returns
unfolding compress
returns c =
    let end : 8 * c.rounds.n ≡ 64 = omega arith in
    c.sum.ensures ∙ ap (add_state c.args.hash.now) (rw end at c.rounds.invariant)
