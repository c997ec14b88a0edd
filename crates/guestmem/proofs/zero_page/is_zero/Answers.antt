use Rattle.std.proofs.Common.{ℕ, ◌*◌, take, List, refl, sym, ap, ◌∙◌}
use Rattle.guestmem.specs.Zeros.{are_zeros}
use Rattle.guestmem.proofs.ZeroLemmas.{zeros_fail, zeros_more}
use Rattle.guestmem.proofs.zero_page.is_zero.Goals as goal

-- src/zero_page.rt:15:5
pub loop-block-init : goal.loop-block-init
unfolding are_zeros
loop-block-init c = refl

-- src/zero_page.rt:18:13
pub returns-then-not-begins_with_zeros : goal.returns-then-not-begins_with_zeros
returns-then-not-begins_with_zeros c =
    sym (zeros_fail c.args.page.now (c.loop-block.block * 64)
    (ap (λ (x : List ℕ). are_zeros (take 64 x)) (sym c.split_at.ensures.back) ∙ sym c.begins_with_zeros.ensures ∙ c.if-not-begins_with_zeros.true))

-- src/zero_page.rt:15:5
pub loop-block-preserved : goal.loop-block-preserved
loop-block-preserved c =
    zeros_more c.args.page.now c.loop-block.block c.loop-block.invariant
    (ap (λ (x : List ℕ). are_zeros (take 64 x)) (sym c.split_at.ensures.back) ∙ sym c.begins_with_zeros.ensures ∙ c.if-not-begins_with_zeros.false)
