use Rattle.std.proofs.Common.{ap, false, inl, inr, refl, sym, subst, ◌∙◌}
use Rattle.c_handle.specs.ArrivalSeen.{ArrivalSeen}
use Rattle.c_handle.specs.Awaited.{IsAtHead, TellsWhole, awaited_by}
use Rattle.c_handle.specs.declared.arrival.Progress.{Progress}
use Rattle.c_handle.proofs.Awaited.{not_whole, over_whole}
use Rattle.c_handle.proofs.arrival.Arrival.is_whole.Goals as goal

pub returns-in-Head : goal.returns-in-Head
returns-in-Head g c = elim c.in-Head.is [
  | inl h ↦ not_whole c.self.inside.progress c.args.self.now c.self.invariant c.self.view_is (subst (λ (p : Progress _). IsAtHead (awaited_by p)) (sym h.3) tt)
  | inr e ↦ subst (λ (a : ArrivalSeen). TellsWhole a false) c.self.view_is (subst (λ (p : Progress _). TellsWhole (awaited_by p) false) (sym e) refl)
]

pub returns-in-Over : goal.returns-in-Over
returns-in-Over g c =
    let has = c.is_whole-in-Over.ensures in
    subst (λ (a : ArrivalSeen). TellsWhole a c.is_whole-in-Over.result) (sym (ap awaited_by c.in-Over.is) ∙ c.self.view_is) (over_whole c.in-Over.receiver c.is_whole-in-Over.result has.whole has.lacking has.failed)
