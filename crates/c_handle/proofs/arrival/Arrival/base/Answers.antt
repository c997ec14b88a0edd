use Rattle.std.proofs.Common.{◌≡◌, ap, sym, subst, ◌∙◌}
use Rattle.c_handle.specs.ArrivalSeen.{ArrivalSeen}
use Rattle.c_handle.specs.Awaited.{awaited_base, awaited_by}
use Rattle.c_handle.proofs.Awaited.{based_at}
use Rattle.c_handle.proofs.arrival.Arrival.base.Goals as goal

pub returns-in-Head : goal.returns-in-Head
returns-in-Head g c = subst (λ (a : ArrivalSeen). c.in-Head.terms.base ≡ awaited_base a) (sym (ap awaited_by c.in-Head.is) ∙ c.self.view_is) (based_at c.in-Head.terms c.in-Head.field-1)
