use Rattle.std.proofs.Common.{◌≡◌, ◌+◌, ◌*◌, ◌≤◌, ◌∙◌, ap, arith, sym}
use Rattle.std.specs.Prelude.{min}
use Rattle.c_machine.specs.Named.{marked}
use Rattle.c_machine.proofs.Marking.{words_passed}
use Rattle.c_machine.proofs.naming.collect_marked.Goals as goal

pub loop-at-init : goal.loop-at-init
loop-at-init c =
    let count = c.args.count in
    let words = c.args.words.now in
    let cut : count ≤ 64 * c.div_ceil.result = omega (arith, c.div_ceil.ensures) in
    let none : 0 ≡ min (64 * 0) count = omega arith in
    record {
      list = c.clear.ensures.items ∙ ap (marked words) none ∙ sym (words_passed words count c.div_ceil.result 0 c.first_nonzero-at.result cut (omega arith) (rw (← c.split_at.ensures.front) c.first_nonzero-at.ensures.zeros));
      within = c.first_nonzero-at.ensures.within;
      room = omega (arith, c.clear.ensures.capacity);
    }

pub loop-at-preserved : goal.loop-at-preserved
loop-at-preserved c =
    let i = c.loop-at.invariant in
    let at = c.loop-at.at in
    let count = c.args.count in
    let words = c.args.words.now in
    let cut : count ≤ 64 * c.div_ceil.result = omega (arith, c.div_ceil.ensures) in
    let next = c.first_nonzero-at-in-loop-at in
    let until : c.min.result ≡ min (64 * (at + 1)) count = omega (arith, c.min.ensures) in
    record {
      list = c.in_ok-collect_from.ensures.pages ∙ ap (marked words) until ∙ sym (words_passed words count c.div_ceil.result (at + 1) next.result cut next.ensures.from (rw (← c.split_at.ensures.front) next.ensures.zeros));
      within = next.ensures.within;
      room = omega (arith, i.room, c.in_ok-collect_from.ensures.capacity);
    }
