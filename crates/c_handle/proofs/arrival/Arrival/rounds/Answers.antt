use Rattle.std.proofs.Common.{inl, inr, refl, sym, subst}
use Rattle.c_handle.specs.ArrivalSeen.{ArrivalSeen}
use Rattle.c_handle.specs.Awaited.{CountsRounds, IsAtHead, awaited_by}
use Rattle.c_handle.specs.declared.arrival.Progress.{Progress}
use Rattle.c_handle.proofs.Awaited.{not_counted}
use Rattle.c_handle.proofs.arrival.Arrival.rounds.Goals as goal

pub returns-in-Head : goal.returns-in-Head
returns-in-Head g c = elim c.in-Head.is [
  | inl h ↦ not_counted c.self.inside.progress c.args.self.now c.self.invariant c.self.view_is (subst (λ (p : Progress _). IsAtHead (awaited_by p)) (sym h.3) tt)
  | inr e ↦ subst (λ (a : ArrivalSeen). CountsRounds a 0) c.self.view_is (subst (λ (p : Progress _). CountsRounds (awaited_by p) 0) (sym e) refl)
]
