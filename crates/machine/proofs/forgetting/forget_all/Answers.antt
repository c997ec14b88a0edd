use Rattle.std.proofs.Common.{◌≡◌, ◌<◌, length, take, refl, arith, ◌∙◌}
use Rattle.std.proofs.lemmas.List.{length-set, take_all}
use Rattle.std.proofs.lemmas.List.Elements.{All-nil}
use Rattle.machine.proofs.Keeping.{one_more_fits}
use Rattle.machine.proofs.forgetting.forget_all.Goals as goal

pub loop-n-init : goal.loop-n-init
loop-n-init c = record { each = refl; within = omega arith; fit = λ ram. All-nil _ }

pub loop-n-preserved : goal.loop-n-preserved
loop-n-preserved c =
    let i = c.loop-n in
    let below : i.n < length i.rings.items = omega (arith, i.invariant.each, c.loop-n-test.true, c.len-n-end.ensures) in
    let long = length-set i.rings.items i.n c.forget.new.self in
    record {
      each = long ∙ i.invariant.each;
      within = omega (arith, long, below);
      fit = λ ram. one_more_fits i.rings.items ram i.n c.forget.new.self below (c.forget.ensures.fits ram) (i.invariant.fit ram);
    }

pub returns-clause-fit : goal.returns-clause-fit
returns-clause-fit c =
    let i = c.loop-n in
    let all : take i.n i.rings.items ≡ i.rings.items = take_all i.n i.rings.items (omega (arith, i.invariant.each, c.loop-n-test.false, c.len-n-end.ensures)) in
    λ ram. rw all at i.invariant.fit ram
