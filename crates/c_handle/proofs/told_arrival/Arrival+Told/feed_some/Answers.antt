use Rattle.std.proofs.Common.{◌≡◌, ap, refl, subst, sym, ◌∙◌}
use Rattle.std.specs.Prelude.{IfErr, IfOk}
use Rattle.c_handle.specs.ArrivalSeen.{ArrivalSeen, AtBody, Over, Refused}
use Rattle.c_handle.specs.Awaited.{AreSteady, IsClosed, IsComing, RefusesUntouched, TellsOf, awaited_by}
use Rattle.c_handle.specs.ToldArrival.{DueAfter}
use Rattle.c_handle.proofs.ToldArrival.{some_body, some_over, some_refused, some_steady, some_told, some_untouched}
use Rattle.c_handle.proofs.told_arrival.Arrival+Told.feed_some.Goals as goal

pub returns-in-Ok-clause-fed : goal.returns-in-Ok-clause-fed
returns-in-Ok-clause-fed c =
    let view : awaited_by c.self.inside.progress ≡ c.args.self.now = c.self.view_is in
    let seen : AtBody c.in-Body.receiver ≡ c.args.self.now = sym (ap awaited_by c.in-Body.is) ∙ view in
    subst (λ (a : ArrivalSeen). DueAfter a c.args.piece.now c.in-Ok.fed (AtBody c.feed_some.new.self)) seen (some_body c.in-Body.receiver c.feed_some.new.self c.args.piece.now c.in-Ok.fed c.in-Ok.ensures c.recall_bytes.ensures)

pub returns-in-Err-clause-refused : goal.returns-in-Err-clause-refused
returns-in-Err-clause-refused c =
    let coming : IsComing c.self.inside.progress = c.self.invariant in
    let view : awaited_by c.self.inside.progress ≡ c.args.self.now = c.self.view_is in
    let steady : AreSteady c.in-Body.receiver = rw c.in-Body.is at coming in
    let seen : AtBody c.in-Body.receiver ≡ c.args.self.now = sym (ap awaited_by c.in-Body.is) ∙ view in
    rw c.replace.ensures.after (subst (λ (a : ArrivalSeen). TellsOf a c.args.piece.now c.in-Err.error × IsClosed a Refused) seen (some_refused c.in-Body.receiver c.feed_some.new.self c.args.piece.now c.in-Err.error steady c.in-Err.ensures, refl))

pub invariant_of-self-in-Over : goal.invariant_of-self-in-Over
invariant_of-self-in-Over c =
    let coming : IsComing c.self.inside.progress = c.self.invariant in
    let steady : AreSteady c.in-Over.receiver = rw c.in-Over.is at coming in
    some_steady c.in-Over.receiver c.feed_some-fed.new.self c.args.piece.now c.feed_some-fed.result steady c.feed_some-fed.ensures

pub returns-in-Over-clause-fed : goal.returns-in-Over-clause-fed
returns-in-Over-clause-fed c =
    let view : awaited_by c.self.inside.progress ≡ c.args.self.now = c.self.view_is in
    let seen : Over c.in-Over.receiver ≡ c.args.self.now = sym (ap awaited_by c.in-Over.is) ∙ view in
    let fed = c.feed_some-fed in
    subst (λ (a : ArrivalSeen). IfOk fed.result (λ x. DueAfter a c.args.piece.now x (Over fed.new.self))) seen (some_over c.in-Over.receiver fed.new.self c.args.piece.now fed.result fed.ensures c.recall_bytes-in-Over.ensures)

pub returns-in-Over-clause-refused : goal.returns-in-Over-clause-refused
returns-in-Over-clause-refused c =
    let coming : IsComing c.self.inside.progress = c.self.invariant in
    let steady : AreSteady c.in-Over.receiver = rw c.in-Over.is at coming in
    let view : awaited_by c.self.inside.progress ≡ c.args.self.now = c.self.view_is in
    let seen : Over c.in-Over.receiver ≡ c.args.self.now = sym (ap awaited_by c.in-Over.is) ∙ view in
    let fed = c.feed_some-fed in
    subst (λ (a : ArrivalSeen). IfErr fed.result (λ e. TellsOf a c.args.piece.now e × IsClosed a (Over fed.new.self))) seen (some_told c.in-Over.receiver fed.new.self c.args.piece.now fed.result steady fed.ensures)

pub returns-in-Over-clause-untouched : goal.returns-in-Over-clause-untouched
returns-in-Over-clause-untouched c =
    let view : awaited_by c.self.inside.progress ≡ c.args.self.now = c.self.view_is in
    let seen : Over c.in-Over.receiver ≡ c.args.self.now = sym (ap awaited_by c.in-Over.is) ∙ view in
    let fed = c.feed_some-fed in
    subst (λ (a : ArrivalSeen). IfErr fed.result (λ e. RefusesUntouched a c.args.piece.now e (Over fed.new.self))) seen (some_untouched c.in-Over.receiver fed.new.self c.args.piece.now fed.result fed.ensures)
