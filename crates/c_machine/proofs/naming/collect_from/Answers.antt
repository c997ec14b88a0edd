use Rattle.std.proofs.Common.{◌∙◌, ◌+◌, ◌≤◌, length, ◌∷◌, ◌++◌, [], ℕ, List, ap, arith, sym}
use Rattle.c_machine.proofs.Marking.{marked_few, marked_yes, none_between}
use Rattle.c_machine.proofs.naming.collect_from.Goals as goal

pub loop-n-init : goal.loop-n-init
loop-n-init c =
    let found = c.next_marked-n.ensures in
    record {
      list = c.requires.so_far ∙ sym (none_between c.args.words.now c.args.from c.next_marked-n.result found.from found.none);
      low = found.from;
      within = found.until;
      found = found.marked;
      room = omega arith;
    }

pub loop-n-preserved : goal.loop-n-preserved
loop-n-preserved c =
    let n = c.loop-n.n in
    let words = c.args.words.now in
    let next = c.next_marked-n-in-loop-n in
    record {
      list = c.in_ok-push.ensures.items ∙ ap (λ (l : List ℕ). l ++ n ∷ []) c.loop-n.invariant.list ∙ sym (marked_yes words n (c.loop-n.invariant.found c.loop-n-test.true))
          ∙ sym (none_between words (n + 1) next.result next.ensures.from next.ensures.none);
      low = omega (arith, c.loop-n.invariant.low, next.ensures.from);
      within = next.ensures.until;
      found = next.ensures.marked;
      room = omega (arith, c.loop-n.invariant.room, c.push.ensures.capacity);
    }

pub returns-in_err-push-clause-memory : goal.returns-in_err-push-clause-memory
returns-in_err-push-clause-memory c = λ room.
    let few : length c.loop-n.numbers.items ≤ c.loop-n.n = rw (c.loop-n.invariant.list) (marked_few c.args.words.now c.loop-n.n) in
    absurd (omega (arith, room, c.loop-n.invariant.room, c.in_err-push.ensures.full, few, c.loop-n-test.true))
