use Rattle.std.proofs.Common.{arith, refl, inl, ap, ◌∙◌, List, Bool, true, false, [], get_or, length, ◌≡◌}
use Rattle.std.specs.Prelude.{set}
use Rattle.std.proofs.lemmas.List.{length-set}
use Rattle.wire.specs.declared.record_head.RecordHead.TheVariants as heads
use Rattle.receiver.proofs.Spots.{no_spot, spot_of}
use Rattle.receiver.proofs.Standing.{entered_refused, marks_long, opens_at, sized_on}
use Rattle.receiver.proofs.Working.{kept}
use Rattle.receiver.proofs.Writing.{in_range, took_bad}
use Rattle.receiver.proofs.intake.take_bad.Goals as goal

pub returns-in_default-clause-entered : goal.returns-in_default-clause-entered
returns-in_default-clause-entered c = λ ds behind front tail opening before are h o.
    entered_refused ds opening before c.args.intake.now front tail behind (heads.Sector c.args.dev c.args.number false) o (no_spot c.args.dev c.args.number h c.in_default.ensures.found)

pub returns-clause-entered : goal.returns-clause-entered
returns-clause-entered c = λ ds behind front tail opening before are h o.
    let i = c.args.intake.now in
    let spot = c.in-Some.spot in
    let early = (opens_at 2 _ o.opens o.whole).may.early (inl (omega arith)) in
    let at = spot_of c.args.dev c.args.number spot h c.in-Some.ensures.found in
    let marks = in_range i.bad.items spot.disk c.index_mut.result.now [] c.in-Some.ensures.marked.disk c.index_mut.ensures.value in
    let bad : c.insert.new.self ≡ set (get_or i.bad.items spot.disk []) c.args.number true = c.insert.ensures ∙ ap (λ (m : List Bool). set m c.args.number true) marks in
    (kept ds, took_bad ds front opening before i _ c.args.dev c.args.number spot h early (omega (arith, c.ranges.dev.fits), omega (arith, c.ranges.number.fits)) at (ap (set i.bad.items spot.disk) bad) c.insert-2.ensures refl refl refl refl refl refl)

pub returns-clause-sized : goal.returns-clause-sized
returns-clause-sized c =
    let i = c.args.intake.now in
    let spot = c.in-Some.spot in
    let marked = c.in-Some.ensures.marked in
    let marks = in_range i.bad.items spot.disk c.index_mut.result.now [] marked.disk c.index_mut.ensures.value in
    let bad : c.insert.new.self ≡ set (get_or i.bad.items spot.disk []) c.args.number true = c.insert.ensures ∙ ap (λ (m : List Bool). set m c.args.number true) marks in
    sized_on i _ c.requires.sized refl (ap length c.insert-2.ensures ∙ length-set i.named spot.item _) refl
    (marks_long i.bad.items spot.disk c.insert.new.self marked.disk (ap length bad ∙ length-set (get_or i.bad.items spot.disk []) c.args.number true)) refl c.requires.sized.roomy
