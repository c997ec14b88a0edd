use Rattle.std.proofs.Common.{arith, refl, inl}
use Rattle.wire.specs.declared.record_head.RecordHead.TheVariants as heads
use Rattle.receiver.proofs.Standing.{entered_refused, opens_at, sized_on}
use Rattle.receiver.proofs.Steps.{more_round}
use Rattle.receiver.proofs.Working.{kept}
use Rattle.receiver.proofs.intake.take_round.Goals as goal

pub returns-then-number-eq0-clause-entered : goal.returns-then-number-eq0-clause-entered
returns-then-number-eq0-clause-entered c = λ ds behind front tail opening before are h o.
    entered_refused ds opening before c.args.intake.now front tail behind (heads.RoundEnd c.args.number) o (λ next. omega (arith, next, c.if-number-eq0.true))

pub returns-then-number-intake-clause-entered : goal.returns-then-number-intake-clause-entered
returns-then-number-intake-clause-entered c = λ ds behind front tail opening before are h o.
    entered_refused ds opening before c.args.intake.now front tail behind (heads.RoundEnd c.args.number) o (λ next. omega (arith, next, h.rounds_are))

pub returns-clause-entered : goal.returns-clause-entered
returns-clause-entered c = λ ds behind front tail opening before are h o.
    let early = (opens_at 3 _ o.opens o.whole).may.early (inl (omega arith)) in
    (kept ds, more_round ds front opening before c.args.intake.now _ c.args.number h early o.fits (omega arith) refl refl refl refl refl refl refl refl)

pub returns-clause-sized : goal.returns-clause-sized
returns-clause-sized c = sized_on c.args.intake.now _ c.requires.sized refl refl refl refl refl c.requires.sized.roomy
