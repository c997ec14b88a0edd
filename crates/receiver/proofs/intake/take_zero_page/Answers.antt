use Rattle.std.proofs.Common.{◌*◌, arith, refl, rules, inr, replicate, ap, length, ◌∙◌}
use Rattle.std.proofs.lemmas.List.{length-set}
use Rattle.guestmem.specs.declared.limits.TheConstants.{PAGE_SIZE}
use Rattle.wire.specs.declared.record_head.RecordHead.TheVariants as heads
use Rattle.receiver.proofs.Lists.{not_both_ways}
use Rattle.receiver.proofs.Standing.{entered_refused, opens_at, page_marked, page_there, sized_on}
use Rattle.receiver.proofs.Takings.{put_is, put_size}
use Rattle.receiver.proofs.Steps.{more_zeros}
use Rattle.receiver.proofs.Working.{kept}
use Rattle.receiver.proofs.intake.take_zero_page.Goals as goal

pub clear_page-requires : goal.clear_page-requires
clear_page-requires c = omega (arith, c.has_page.ensures.0 (search rules), c.recall.ensures.sound.pages)

pub insert-requires : goal.insert-requires
insert-requires c = page_marked c.args.intake.now c.args.number c.requires.sized (c.has_page.ensures.0 (search rules))

pub returns-clause-sized : goal.returns-clause-sized
returns-clause-sized c =
    let i = c.args.intake.now in
    let ram = c.clear_page.ensures.bytes ∙ put_is i.ram.bytes (replicate 4096 0) c.args.number (PAGE_SIZE * c.args.number) refl refl in
    sized_on i _ c.requires.sized (ap length ram ∙ put_size i.ram.bytes (replicate 4096 0) c.args.number (c.has_page.ensures.0 (search rules)) refl) (ap length c.insert.ensures ∙ length-set i.named c.args.number _) refl refl refl c.requires.sized.roomy

pub returns-then-not-has_page-clause-entered : goal.returns-then-not-has_page-clause-entered
returns-then-not-has_page-clause-entered c = λ ds behind front tail opening before are h o.
    entered_refused ds opening before c.args.intake.now front tail behind (heads.ZeroPage c.args.number) o (λ low. not_both_ways c.has_page.result (c.has_page.ensures.1 ((page_there c.args.number h).1 low)) c.if-not-has_page.true)

pub returns-clause-entered : goal.returns-clause-entered
returns-clause-entered c = λ ds behind front tail opening before are h o.
    let allowed = (opens_at 6 _ o.opens o.whole).may in (
      kept ds,
      more_zeros ds front opening before c.args.intake.now _ c.args.number h (allowed.early (inr refl)) (omega (arith, c.ranges.number.fits)) (allowed.since refl) (c.has_page.ensures.0 (search rules))
          (c.clear_page.ensures.bytes ∙ put_is c.args.intake.now.ram.bytes (replicate 4096 0) c.args.number (PAGE_SIZE * c.args.number) refl refl) c.insert.ensures refl refl refl refl refl refl,
    )
