use Rattle.std.proofs.Common.{◌≡◌, ◌∙◌, ℕ, List, ap, drop, sym, length, subst, rules}
use Rattle.std.proofs.lemmas.List.{take_at}
use Rattle.guestmem.specs.Lent.{AreBelow, raise_each}
use Rattle.guestmem.specs.Memory.{Memory}
use Rattle.guestmem.proofs.GivenBack.{rises_given}
use Rattle.guestmem.proofs.parked.ParkedRam.give_back.Goals as goal

pub returns-clause-rises : goal.returns-clause-rises
returns-clause-rises g c = λ lent same.
    let kept : c.as_mut_slice.result.now ≡ lent.versions = c.as_mut_slice.ensures.value ∙ c.self.view_is ∙ sym same in
    let now = c.raise_each.new.versions in
    let size : length now ≡ c.self.inside.versions.len = search rules in
    let put : c.from_parts.result.versions ≡ now = ap (λ (m : Memory). m.versions) c.from_parts.ensures ∙ take_at now (drop (length now) c.self.inside.versions.items) c.self.inside.versions.len size in
    let new : c.from_parts.result.versions ≡ raise_each lent.versions c.args.pages.now = put ∙ c.raise_each.ensures.versions ∙ ap (λ (v : List ℕ). raise_each v c.args.pages.now) kept in
    rises_given lent c.from_parts.result c.args.pages.now (subst (λ (v : List ℕ). AreBelow (length v) c.args.pages.now) (sym same) c.requires.below) new
