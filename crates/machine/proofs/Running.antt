-- A run goes on by one step.
use Rattle.std.proofs.Common.{List, [], ◌∷◌, ◌++◌, map, refl, subst}
use Rattle.machine.specs.Applied.{AreApplied, IsApplied}
use Rattle.machine.specs.Seen.{Seen}
use Rattle.machine.specs.State.{MachineState}
use Rattle.machine.specs.Outcome.{outcome_of}
use Rattle.machine.specs.Step.{IsStep}
use Rattle.machine.specs.Run.{IsRun}
use Rattle.machine.specs.declared.event.Event.{Event}
use Rattle.machine.specs.declared.reply.Reply.{Reply}

pub run_more : (m n k : MachineState) (es : List Event) (rs : List Reply) (e : Event) (r : Reply) → IsRun m es (map outcome_of rs) rs n → IsStep n e (outcome_of r) r k
    → IsRun m (es ++ e ∷ []) (map outcome_of (rs ++ r ∷ [])) (rs ++ r ∷ []) k
run_more m n k [] [] e r run step = (k, subst (λ x. IsStep x e (outcome_of r) r k) run step, refl)
run_more m n k [] (s ∷ rs) e r run step = absurd run
run_more m n k (f ∷ es) [] e r run step = absurd run
run_more m n k (f ∷ es) (s ∷ rs) e r run step = (run.0, run.1, run_more run.0 n k es rs e r run.2 step)

-- One event more was applied.
pub applied_more : (old now new : Seen) (es : List Event) (rs : List Reply) (e : Event) (r : Reply) → AreApplied old es rs now → IsApplied now e r new → AreApplied old (es ++ e ∷ []) (rs ++ r ∷ []) new
applied_more old now new [] [] e r done a = (new, subst (λ x. IsApplied x e r new) done a, refl)
applied_more old now new [] (s ∷ rs) e r done a = absurd done
applied_more old now new (f ∷ es) [] e r done a = absurd done
applied_more old now new (f ∷ es) (s ∷ rs) e r done a = (done.0, done.1, applied_more done.0 now new es rs e r done.2 a)
