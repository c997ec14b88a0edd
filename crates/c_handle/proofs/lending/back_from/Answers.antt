use Rattle.std.proofs.Common.{◌≡◌, length, subst, true}
use Rattle.c_handle.specs.Kept.{loan_of, parked_in}
use Rattle.c_machine.specs.Named.{are_pages}
use Rattle.c_handle.specs.declared.loan.Loan.{Loan}
use Rattle.c_handle.proofs.Lent.{below}
use Rattle.c_handle.proofs.lending.back_from.Goals as goal

pub give_back-requires-clause-below : goal.give_back-requires-clause-below
give_back-requires-clause-below g c =
    let pages = c.args.pages.now in
    below (length c.in-Still.parked.memory) pages (subst (λ (l : Loan _). are_pages (length (parked_in (loan_of l)).memory) pages ≡ true) c.in-Still.is c.requires.below)

pub give_back-requires-in-Moving-clause-below : goal.give_back-requires-in-Moving-clause-below
give_back-requires-in-Moving-clause-below g c =
    let pages = c.args.pages.now in
    below (length c.in-Moving.live.machine.memory) pages (subst (λ (l : Loan _). are_pages (length (parked_in (loan_of l)).memory) pages ≡ true) c.in-Moving.is c.requires.below)

pub give_back-requires-in-Told-clause-below : goal.give_back-requires-in-Told-clause-below
give_back-requires-in-Told-clause-below g c =
    let pages = c.args.pages.now in
    below (length c.in-Told.live.machine.memory) pages (subst (λ (l : Loan _). are_pages (length (parked_in (loan_of l)).memory) pages ≡ true) c.in-Told.is c.requires.below)
