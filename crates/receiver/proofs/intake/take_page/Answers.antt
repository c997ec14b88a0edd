use Rattle.std.proofs.Common.{◌*◌, arith, refl, rules, inl, ◌∙◌, ◌≡◌, ap, length, take}
use Rattle.std.proofs.lemmas.List.{length-set}
use Rattle.guestmem.specs.declared.limits.TheConstants.{PAGE_SIZE}
use Rattle.guestmem.proofs.ByteLaws.{IsBytes-take}
use Rattle.wire.specs.Records.{IsOf, page}
use Rattle.receiver.proofs.Lists.{not_both_ways}
use Rattle.receiver.proofs.Standing.{cut_behind, entered_refused, entered_waits, opens_at, page_marked, page_there, sized_on, zeros_refused}
use Rattle.receiver.proofs.Takings.{put_is, put_size}
use Rattle.receiver.proofs.Steps.{more_page}
use Rattle.receiver.proofs.Working.{kept}
use Rattle.wire.specs.declared.record_head.RecordHead.TheVariants as heads
use Rattle.receiver.proofs.intake.take_page.Goals as goal

pub put_page-requires-clause-inside : goal.put_page-requires-clause-inside
put_page-requires-clause-inside c = omega (arith, c.has_page.ensures.0 (search rules), c.recall.ensures.sound.pages)

pub insert-requires : goal.insert-requires
insert-requires c = page_marked c.args.intake.now c.args.number c.requires.sized (c.has_page.ensures.0 (search rules))

pub returns-then-not-has_page-clause-entered : goal.returns-then-not-has_page-clause-entered
returns-then-not-has_page-clause-entered c = λ ds front tail opening before are h o.
    let there = page_there c.args.number h in
    entered_refused ds opening before c.args.intake.now front tail c.args.behind.now (heads.Page c.args.number) o (λ low. not_both_ways c.has_page.result (c.has_page.ensures.1 (there.1 low)) c.if-not-has_page.true)

pub returns-then-behind-lt-PAGE_SIZE-clause-entered : goal.returns-then-behind-lt-PAGE_SIZE-clause-entered
returns-then-behind-lt-PAGE_SIZE-clause-entered c = λ ds front tail opening before are h o.
    entered_waits ds opening before c.args.intake.now front tail c.args.behind.now (heads.Page c.args.number) are h o ((page_there c.args.number h).0 (c.has_page.ensures.0 (search rules))) (omega arith)

pub returns-then-not-has_record-clause-entered : goal.returns-then-not-has_record-clause-entered
returns-then-not-has_record-clause-entered c = λ ds front tail opening before are h o.
    let bytes : c.split_at.result.0.now ≡ take 4096 c.args.behind.now = search rules in
    let many : length c.split_at.result.0.now ≡ 4096 = search rules in
    let never : ¬ (IsOf opening.version (page c.args.number c.split_at.result.0.now)) = λ has.
    let told : IsOf c.args.intake.now.terms.version (page c.args.number c.split_at.result.0.now) = rw h.version_is has in
    not_both_ways c.has_record.result (c.has_record.ensures.1 told) c.if-not-has_record.true in
    let long : length (take 4096 c.args.behind.now) ≡ 4096 = rw (← bytes) many in
    zeros_refused ds opening before tail (take 4096 c.args.behind.now) _ c.args.number (cut_behind 4096 o) ((page_there c.args.number h).0 (c.has_page.ensures.0 (search rules))) long (rw bytes at never)

pub returns-clause-entered : goal.returns-clause-entered
returns-clause-entered c = λ ds front tail opening before are h o.
    let early = (opens_at 1 _ o.opens o.whole).may.early (inl (omega arith)) in
    let bytes : c.split_at.result.0.now ≡ take 4096 c.args.behind.now = search rules in
    let many : length c.split_at.result.0.now ≡ 4096 = search rules in
    let told : IsOf c.args.intake.now.terms.version (page c.args.number c.split_at.result.0.now) = c.has_record.ensures.0 (search rules) in
    let has : IsOf opening.version (page c.args.number c.split_at.result.0.now) = rw (← h.version_is) told in
    rw (← bytes) (
      kept ds,
      more_page ds front opening before c.args.intake.now _ c.args.number c.split_at.result.0.now h early (omega (arith, c.ranges.number.fits), many, rw bytes (IsBytes-take 4096 c.args.behind.now (λ k. omega (arith, c.type_inv.behind k)))) has (c.has_page.ensures.0 (search rules))
          (c.put_page.ensures.bytes ∙ put_is c.args.intake.now.ram.bytes c.split_at.result.0.now c.args.number (PAGE_SIZE * c.args.number) refl many) c.insert.ensures refl refl refl refl refl refl,
    )

pub returns-clause-sized : goal.returns-clause-sized
returns-clause-sized c =
    let i = c.args.intake.now in
    let low = c.has_page.ensures.0 (search rules) in
    let many : length c.split_at.result.0.now ≡ 4096 = search rules in
    let ram = c.put_page.ensures.bytes ∙ put_is i.ram.bytes c.split_at.result.0.now c.args.number (PAGE_SIZE * c.args.number) refl many in
    sized_on i _ c.requires.sized (ap length ram ∙ put_size i.ram.bytes c.split_at.result.0.now c.args.number low many) (ap length c.insert.ensures ∙ length-set i.named c.args.number _) refl refl refl c.requires.sized.roomy
