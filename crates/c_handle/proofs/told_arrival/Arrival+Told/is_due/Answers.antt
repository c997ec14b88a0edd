use Rattle.std.proofs.Common.{◌≡◌, ℕ, List, ap, subst, sym, ◌∙◌}
use Rattle.c_handle.specs.ArrivalSeen.{ArrivalSeen, AtBody, Over}
use Rattle.c_handle.specs.Awaited.{HasCome, awaited_by}
use Rattle.c_handle.specs.ToldArrival.{IsBefore, IsDueAt, digested}
use Rattle.c_handle.proofs.ToldArrival.{all_digested}
use Rattle.c_handle.proofs.told_arrival.Arrival+Told.is_due.Goals as goal

pub returns-in-Body-clause-digests : goal.returns-in-Body-clause-digests
returns-in-Body-clause-digests c =
    let view : awaited_by c.self.inside.progress ≡ c.args.self.now = c.self.view_is in
    let seen : AtBody c.in-Body.receiver ≡ c.args.self.now = sym (ap awaited_by c.in-Body.is) ∙ view in
    let rest = c.args.rest.now in
    subst (λ (a : ArrivalSeen). IsDueAt a rest → (b : List ℕ) → HasCome a b → IsBefore a → digested a ≡ b) seen (λ due b come before. all_digested c.in-Body.receiver b rest c.recall_bytes.ensures come.0 due before)

pub returns-in-Over-clause-digests : goal.returns-in-Over-clause-digests
returns-in-Over-clause-digests c =
    let view : awaited_by c.self.inside.progress ≡ c.args.self.now = c.self.view_is in
    let seen : Over c.in-Over.receiver ≡ c.args.self.now = sym (ap awaited_by c.in-Over.is) ∙ view in
    let rest = c.args.rest.now in
    subst (λ (a : ArrivalSeen). IsDueAt a rest → (b : List ℕ) → HasCome a b → IsBefore a → digested a ≡ b) seen (λ due b come before. all_digested c.in-Over.receiver b rest c.recall_bytes-in-Over.ensures come due before)
