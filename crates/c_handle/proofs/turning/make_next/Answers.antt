use Rattle.std.proofs.Common.{◌≡◌, ℕ, Bool, ap, refl, sym, subst, ◌∙◌, arith}
use Rattle.c_handle.specs.Turns.{IsNamed, goes_on}
use Rattle.machine.specs.declared.work.Work.{Work}
use Rattle.c_handle.proofs.turning.make_next.Goals as goal

pub returns-then-named-eq-SYNC-clause-once : goal.returns-then-named-eq-SYNC-clause-once
returns-then-named-eq-SYNC-clause-once c =
    let w : Work = record { dev = c.next_step-named.new.dev; pick = c.next_step-named.new.pick } in
    let is : c.next_step-named.result ≡ 80 = omega (arith, c.if-named-eq-SYNC.true) in
    (w, subst (λ (s : ℕ). IsNamed c.args.kept.now c.args.turn.now s w) is c.next_step-named.ensures, (refl, refl), c.count.ensures)

pub returns-then-named-ne-WORK-clause-once : goal.returns-then-named-ne-WORK-clause-once
returns-then-named-ne-WORK-clause-once c =
    let w : Work = record { dev = c.next_step-named.new.dev; pick = c.next_step-named.new.pick } in
    (w, c.next_step-named.ensures, (λ is. omega (arith, c.if-named-ne-WORK.true, is)), (λ is. omega (arith, c.if-named-eq-SYNC.false, is)), (refl, refl), refl)

pub returns-then-goes_on-clause-once : goal.returns-then-goes_on-clause-once
returns-then-goes_on-clause-once c =
    let w : Work = record { dev = c.next_step-named.new.dev; pick = c.next_step-named.new.pick } in
    let is : c.next_step-named.result ≡ 78 = omega (arith, c.if-named-ne-WORK.false) in (
      w,
      record {
        status = c.step_kept-status.result;
        number = c.step_kept-status.new.number;
        step = record {
          named = subst (λ (s : ℕ). IsNamed c.args.kept.now c.args.turn.now s w) is c.next_step-named.ensures;
          made = c.step_kept-status.ensures.steps;
          rest = c.step_kept-status.ensures.kind;
        };
        some = c.requires;
        on = ap (λ (b : Bool). goes_on b c.step_kept-status.result) (sym c.is_entropy-is_entropy.ensures) ∙ sym c.goes_on.ensures ∙ c.if-goes_on.true;
      },
      c.count-2.ensures,
    )

pub returns-clause-once : goal.returns-clause-once
returns-clause-once c =
    let w : Work = record { dev = c.next_step-named.new.dev; pick = c.next_step-named.new.pick } in
    let is : c.next_step-named.result ≡ 78 = omega (arith, c.if-named-ne-WORK.false) in (
      w,
      c.step_kept-status.new.number,
      record {
        named = subst (λ (s : ℕ). IsNamed c.args.kept.now c.args.turn.now s w) is c.next_step-named.ensures;
        made = c.step_kept-status.ensures.steps;
        rest = c.step_kept-status.ensures.kind;
      },
      (sym c.is_refused.ensures ∙ c.if-is_refused.false),
      (ap (λ (b : Bool). goes_on b c.step_kept-status.result) (sym c.is_entropy-is_entropy.ensures) ∙ sym c.goes_on.ensures ∙ c.if-goes_on.false),
      rw (c.count-2.ensures) refl,
    )
