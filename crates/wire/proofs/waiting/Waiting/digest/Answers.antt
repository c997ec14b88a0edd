use Rattle.std.proofs.Common.{◌-◌, ◌∙◌, ℕ, List, ap, drop, length, subst, sym, take}
use Rattle.std.proofs.lemmas.List.{take_rest}
use Rattle.wire.specs.Lagging.{WaitingSeen}
use Rattle.wire.specs.Sinks.{Covers}
use Rattle.wire.proofs.Lagging.{all_digested}
use Rattle.wire.proofs.waiting.Waiting.digest.Goals as goal

pub returns-clause-digest : goal.returns-clause-digest
returns-clause-digest c =
    let i = c.self.inside in
    let all = c.deref.result.now in
    λ bytes covers. all_digested i.digest c.update.new.self c.digest_so_far.result i.bytes.items (take (length all - i.seen) (drop i.seen all)) i.seen (take_rest all i.seen ∙ ap (λ (x : List ℕ). drop i.seen x) c.deref.ensures.value)
    c.update.ensures c.digest_so_far.ensures bytes (subst (λ (w : WaitingSeen). Covers w.sum bytes) (sym c.self.view_is) covers)
