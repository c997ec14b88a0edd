-- The machine after a history is that of a run, and events and replies settle it.
use Rattle.std.proofs.Common.{◌≡◌, List, [], ◌∷◌, length, inl, inr, refl, ap, sym, subst, ◌∙◌, arith}
use Rattle.machine.specs.Effect.{Effect}
use Rattle.machine.specs.Layout.{layout_of}
use Rattle.machine.specs.Outcome.{outcome_of}
use Rattle.machine.specs.State.{MachineState}
use Rattle.machine.specs.Step.{HasEffect}
use Rattle.machine.specs.declared.event.Event.{Event}
use Rattle.machine.specs.declared.reply.Reply.{Reply}
use Rattle.machine.proofs.Agreeing.{effects_same}
use Rattle.machine.proofs.Running.{run_more}
use Rattle.sender.specs.History.{AllAllowed, Allowed, AllowedBy, History, IsItsChange, guest_events, guest_replies, is_due, is_stale, machine_after, nothing, onward, phase_of, then_came}
use Rattle.sender.specs.HistoryLaws.{AfterIsRun, OneHistory}
use Rattle.sender.specs.LiveState.{refusal_for}
use Rattle.sender.specs.declared.event.LiveEvent.{LiveEvent}
use Rattle.sender.specs.declared.event.LiveEvent.TheVariants.{Guest, Begin, Copy, EndRound, Stop}
use Rattle.sender.specs.declared.event.LiveReply.{LiveReply}
use Rattle.sender.specs.declared.event.LiveReply.TheVariants as r
use Rattle.sender.proofs.Fresh.{told}

-- What a reply of the machine says.
has_effect : (m : MachineState) (h : History) (e : Event) (reply : Reply) (f : Effect) → Allowed m h (Guest e) (r.Guest reply) f → HasEffect (machine_after m h) e (outcome_of reply) reply f
has_effect m h e reply f a =
    elim (told (refusal_for (phase_of h) (Guest e)) (AllowedBy (layout_of m) (machine_after m h) (is_stale (layout_of m) h) (is_due (layout_of m) h) (phase_of h) (Guest e) (r.Guest reply) f) (λ x. r.Guest reply ≡ r.Mig x) a)
    as (λ _. HasEffect (machine_after m h) e (outcome_of reply) reply f) [ inl d ↦ d.1.0 | inr d ↦ (let wrong : r.Guest reply ≡ r.Mig d.0 = d.2 in cc) ]

pub after_is_run : AfterIsRun
after_is_run m nothing all = refl
after_is_run m (then_came h (Guest e) (r.Guest reply) f) all =
    run_more m (machine_after m h) _ (guest_events h) (guest_replies h) e reply (after_is_run m h all.0) (record { effect = f; has = has_effect m h e reply f all.1; changed = refl })
after_is_run m (then_came h (Guest e) (r.Begun k) f) all = after_is_run m h all.0
after_is_run m (then_came h (Guest e) (r.Copied item) f) all = after_is_run m h all.0
after_is_run m (then_came h (Guest e) r.RoundDone f) all = after_is_run m h all.0
after_is_run m (then_came h (Guest e) r.RoundOpen f) all = after_is_run m h all.0
after_is_run m (then_came h (Guest e) (r.Stopped pages sectors) f) all = after_is_run m h all.0
after_is_run m (then_came h (Guest e) (r.Mig x) f) all = after_is_run m h all.0
after_is_run m (then_came h Begin reply f) all = after_is_run m h all.0
after_is_run m (then_came h Copy reply f) all = after_is_run m h all.0
after_is_run m (then_came h EndRound reply f) all = after_is_run m h all.0
after_is_run m (then_came h Stop reply f) all = after_is_run m h all.0

-- One entry settles its effect.
one_effect : (m : MachineState) (h : History) (e : LiveEvent) (reply : LiveReply) (f g : Effect) → Allowed m h e reply f → IsItsChange e reply f → Allowed m h e reply g → IsItsChange e reply g → f ≡ g
one_effect m h (Guest e) (r.Guest reply) f g a i b k = (effects_same (machine_after m h) e (outcome_of reply) reply reply f g (has_effect m h e reply f a) (has_effect m h e reply g b)).1
one_effect m h _ _ f g a i b k = i ∙ sym k

-- What was allowed in the end was so in the beginning.
allowed_before : (m : MachineState) (h : History) (es : List LiveEvent) (replies : List LiveReply) (fs : List Effect) → AllAllowed m (onward h es replies fs) → AllAllowed m h
allowed_before m h [] replies fs all = all
allowed_before m h (e ∷ es) [] fs all = all
allowed_before m h (e ∷ es) (reply ∷ replies) [] all = all
allowed_before m h (e ∷ es) (reply ∷ replies) (f ∷ fs) all = (allowed_before m (then_came h e reply f) es replies fs all).0

settled : (m : MachineState) (h : History) (es : List LiveEvent) (replies : List LiveReply) (fs gs : List Effect) → length fs ≡ length gs → AllAllowed m (onward h es replies fs) → AllAllowed m (onward h es replies gs) → onward h es replies fs ≡ onward h es replies gs
settled m h [] replies fs gs even a b = refl
settled m h (e ∷ es) [] fs gs even a b = refl
settled m h (e ∷ es) (reply ∷ replies) [] [] even a b = refl
settled m h (e ∷ es) (reply ∷ replies) [] (g ∷ gs) even a b = absurd (omega (arith, even))
settled m h (e ∷ es) (reply ∷ replies) (f ∷ fs) [] even a b = absurd (omega (arith, even))
settled m h (e ∷ es) (reply ∷ replies) (f ∷ fs) (g ∷ gs) even a b =
    let one = allowed_before m (then_came h e reply f) es replies fs a in
    let two = allowed_before m (then_came h e reply g) es replies gs b in
    let same : f ≡ g = one_effect m h e reply f g one.1 one.2 two.1 two.2 in
    let back : AllAllowed m (onward (then_came h e reply f) es replies gs) = (let P : Effect → Type 0 = λ x. AllAllowed m (onward (then_came h e reply x) es replies gs) in subst P (sym same) b) in
    settled m (then_came h e reply f) es replies fs gs (omega (arith, even)) a back ∙ ap (λ (x : Effect). onward (then_came h e reply x) es replies gs) same

pub one_history : OneHistory
one_history m events replies fs gs even a b = settled m nothing events replies fs gs even a b
