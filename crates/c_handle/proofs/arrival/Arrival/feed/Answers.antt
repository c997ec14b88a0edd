use Rattle.std.proofs.Common.{◌≡◌, ap, refl, sym, subst, ◌∙◌}
use Rattle.std.specs.Prelude.{Err, IfErr, IfOk}
use Rattle.c_handle.specs.ArrivalSeen.{ArrivalSeen, AtBody, Over, Refused}
use Rattle.c_handle.specs.Awaited.{AreSteady, IsClosed, IsComing, IsFed, RefusesUntouched, TellsOf, awaited_by}
use Rattle.c_handle.proofs.Awaited.{more_fed, more_refused}
use Rattle.c_handle.proofs.Landings.{fed_if, steady_after, told_if, untouched_if}
use Rattle.c_handle.proofs.arrival.Arrival.feed.Goals as goal

pub returns-in-Ok-clause-fed : goal.returns-in-Ok-clause-fed
returns-in-Ok-clause-fed c =
    let view : awaited_by c.self.inside.progress ≡ c.args.self.now = c.self.view_is in
    let seen : AtBody c.in-Body.receiver ≡ c.args.self.now = sym (ap awaited_by c.in-Body.is) ∙ view in
    subst (λ (a : ArrivalSeen). IsFed a c.args.piece.now (AtBody c.feed.new.self)) seen (more_fed c.in-Body.receiver c.feed.new.self c.args.piece.now c.in-Ok.ensures.ram c.in-Ok.ensures.place c.in-Ok.ensures.sizes c.in-Ok.ensures.fed c.in-Ok.ensures.quiet)

pub returns-in-Err-clause-refused : goal.returns-in-Err-clause-refused
returns-in-Err-clause-refused c =
    let coming : IsComing c.self.inside.progress = c.self.invariant in
    let view : awaited_by c.self.inside.progress ≡ c.args.self.now = c.self.view_is in
    let steady : AreSteady c.in-Body.receiver = rw c.in-Body.is at coming in
    let seen : AtBody c.in-Body.receiver ≡ c.args.self.now = sym (ap awaited_by c.in-Body.is) ∙ view in
    rw c.replace.ensures.after (subst (λ (a : ArrivalSeen). TellsOf a c.args.piece.now c.in-Err.error × IsClosed a Refused) seen (more_refused c.in-Body.receiver c.feed.new.self.marks c.args.piece.now c.in-Err.error steady c.in-Err.ensures.marks c.in-Err.ensures.told (λ none. c.in-Err.ensures.memory (ap Err none)), refl))

pub invariant_of-self-in-Over : goal.invariant_of-self-in-Over
invariant_of-self-in-Over c =
    let coming : IsComing c.self.inside.progress = c.self.invariant in
    let steady : AreSteady c.in-Over.receiver = rw c.in-Over.is at coming in
    let fed = c.feed-in-Over in
    steady_after c.in-Over.receiver fed.new.self fed.result steady fed.ensures.sizes fed.ensures.marks

pub returns-in-Over-clause-fed : goal.returns-in-Over-clause-fed
returns-in-Over-clause-fed c =
    let view : awaited_by c.self.inside.progress ≡ c.args.self.now = c.self.view_is in
    let seen : Over c.in-Over.receiver ≡ c.args.self.now = sym (ap awaited_by c.in-Over.is) ∙ view in
    let fed = c.feed-in-Over in
    let has = fed.ensures in
    subst (λ (a : ArrivalSeen). IfOk fed.result (λ x. IsFed a c.args.piece.now (Over fed.new.self))) seen (fed_if c.in-Over.receiver fed.new.self c.args.piece.now fed.result has.already has.ram has.sizes has.fed has.quiet has.place has.waits)

pub returns-in-Over-clause-refused : goal.returns-in-Over-clause-refused
returns-in-Over-clause-refused c =
    let coming : IsComing c.self.inside.progress = c.self.invariant in
    let steady : AreSteady c.in-Over.receiver = rw c.in-Over.is at coming in
    let view : awaited_by c.self.inside.progress ≡ c.args.self.now = c.self.view_is in
    let seen : Over c.in-Over.receiver ≡ c.args.self.now = sym (ap awaited_by c.in-Over.is) ∙ view in
    let fed = c.feed-in-Over in
    let has = fed.ensures in
    subst (λ (a : ArrivalSeen). IfErr fed.result (λ e. TellsOf a c.args.piece.now e × IsClosed a (Over fed.new.self))) seen (told_if c.in-Over.receiver fed.new.self c.args.piece.now fed.result steady has.sizes has.failed has.marks has.already has.told has.memory)

pub returns-in-Over-clause-untouched : goal.returns-in-Over-clause-untouched
returns-in-Over-clause-untouched c =
    let view : awaited_by c.self.inside.progress ≡ c.args.self.now = c.self.view_is in
    let seen : Over c.in-Over.receiver ≡ c.args.self.now = sym (ap awaited_by c.in-Over.is) ∙ view in
    let fed = c.feed-in-Over in
    subst (λ (a : ArrivalSeen). IfErr fed.result (λ e. RefusesUntouched a c.args.piece.now e (Over fed.new.self))) seen (untouched_if c.in-Over.receiver fed.new.self c.args.piece.now fed.result fed.ensures.gone fed.ensures.untouched)
