use Rattle.std.proofs.Common.{◌≡◌, ◌∙◌, sym, refl, None}
use Rattle.c_handle.specs.Resetting.{state_refusal}
use Rattle.c_handle.proofs.outside.place_of.Goals as goal

pub returns-in-None-clause-refused : goal.returns-in-None-clause-refused
returns-in-None-clause-refused c =
    let none : state_refusal c.args.kept.now.state ≡ None = sym c.state_refusal.ensures ∙ c.in_default.is in
    rw none (refl, rw (← c.kept.view_is) (c.in-None.ensures.none refl))
