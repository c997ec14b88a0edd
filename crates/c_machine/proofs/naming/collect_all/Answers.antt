use Rattle.std.proofs.Common.{◌≡◌, ◌∙◌, ◌∷◌, ◌++◌, [], ℕ, List, length, ap, arith, sym}
use Rattle.std.proofs.lemmas.List.FromFn.{length-range_with_len}
use Rattle.c_machine.proofs.Marking.{numbers_more}
use Rattle.c_machine.proofs.naming.collect_all.Goals as goal

pub loop-n-preserved : goal.loop-n-preserved
loop-n-preserved c =
    let n = c.loop-n.n in
    record {
      list = c.in_ok-push.ensures.items ∙ ap (λ (l : List ℕ). l ++ n ∷ []) c.loop-n.invariant.list ∙ sym (numbers_more n);
      within = omega (arith, c.loop-n-test.true);
      room = omega (arith, c.loop-n.invariant.room, c.push.ensures.capacity);
    }

pub returns-in_err-push-clause-memory : goal.returns-in_err-push-clause-memory
returns-in_err-push-clause-memory c = λ room.
    let n = c.loop-n.n in
    let held : length c.loop-n.numbers.items ≡ n = ap length c.loop-n.invariant.list ∙ length-range_with_len 0 n in
    absurd (omega (arith, room, c.loop-n.invariant.room, c.in_err-push.ensures.full, held, c.loop-n-test.true))
