use Rattle.std.proofs.Common.{◌≡◌, arith, false, map, sym, true, ◌∙◌}
use Rattle.vmig.proofs.ByWords.{done_is_a_line}
use Rattle.vmig.proofs.Statuses.{usage_is}
use Rattle.vmig.proofs.program.execute.Goals as goal

pub returns-in-Ok-clause-usage : goal.returns-in-Ok-clause-usage
returns-in-Ok-clause-usage g c = (
  λ two. absurd (omega (arith, two)),
  λ none. let wrong : true ≡ false = sym (done_is_a_line (map (λ word. word.now) c.args.words.now) _ _ c.in-Ok.ensures.done) ∙ none in cc,
)

pub returns-in-Err-clause-usage : goal.returns-in-Err-clause-usage
returns-in-Err-clause-usage g c =
    rw c.tell.ensures.status
    (usage_is (map (λ word. word.now) c.args.words.now) (g.O.Write.contents c.args.out.now) (g.O.Write.contents c.run.new.out) c.in-Err.fault c.in-Err.ensures.failed)
