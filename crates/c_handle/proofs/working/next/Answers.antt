use Rattle.std.proofs.Common.{◌≡◌, ℕ, arith, inl, inr, refl, subst}
use Rattle.c_handle.specs.NextWork.{FindsIn}
use Rattle.c_handle.proofs.NextCalls.{idle_in}
use Rattle.c_handle.proofs.working.next.Goals as goal

pub returns-then-status-ne-IDLE : goal.returns-then-status-ne-IDLE
returns-then-status-ne-IDLE c = inl (record { finds = c.next_step-status.ensures; no_call = λ is. absurd (omega (arith, c.if-status-ne-IDLE.true, is)) })

pub returns-in-Some : goal.returns-in-Some
returns-in-Some c =
    let k = c.args.kept.now in
    let idle : c.next_step-status.result ≡ 65 = omega (arith, c.if-status-ne-IDLE.false) in
    let found = idle_in k.lost k.state _ _ _ _ (subst (λ (s : ℕ). FindsIn k.lost k.state s c.next_step-status.new.dev c.args.dev.now c.next_step-status.new.pick c.args.pick.now) idle c.next_step-status.ensures) in
    inr (record { no_step = found.none; next = c.in-Some.ensures.some; status_is = refl; pick_same = found.pick_same })

pub returns-in-None : goal.returns-in-None
returns-in-None c =
    let k = c.args.kept.now in
    let idle : c.next_step-status.result ≡ 65 = omega (arith, c.if-status-ne-IDLE.false) in
    inl (record { finds = subst (λ (s : ℕ). FindsIn k.lost k.state s c.next_step-status.new.dev c.args.dev.now c.next_step-status.new.pick c.args.pick.now) idle c.next_step-status.ensures; no_call = λ is. c.in-None.ensures.none refl })
