use Rattle.std.proofs.Common.{◌≡◌, ap, subst, sym, ◌∙◌}
use Rattle.std.specs.Prelude.{Err, Ok}
use Rattle.sha2.specs.Sha256.{sha256}
use Rattle.c_handle.specs.ArrivalSeen.{ArrivalSeen, AtBody, Over, Refused}
use Rattle.c_handle.specs.Awaited.{AreSteady, IsComing, awaited_by}
use Rattle.c_handle.specs.ToldArrival.{ClosesRight, MeetsRecordAt, digested}
use Rattle.c_handle.proofs.ToldArrival.{meets_record, right_body, right_over, wrong_body}
use Rattle.c_handle.proofs.told_arrival.Arrival+Told.close.Goals as goal

pub returns-in-Ok-clause-meets : goal.returns-in-Ok-clause-meets
returns-in-Ok-clause-meets c =
    let view : awaited_by c.self.inside.progress ≡ c.args.self.now = c.self.view_is in
    let seen : AtBody c.in-Body.receiver ≡ c.args.self.now = sym (ap awaited_by c.in-Body.is) ∙ view in
    let told = c.args.digest.now in
    subst (λ (a : ArrivalSeen). MeetsRecordAt a told c.args.rest.now (Ok tt)) seen (meets_record c.in-Body.receiver c.close_on_trust.new.self told c.args.rest.now (Ok tt) c.in-Ok.ensures)

pub returns-in-Err-clause-meets : goal.returns-in-Err-clause-meets
returns-in-Err-clause-meets c =
    let view : awaited_by c.self.inside.progress ≡ c.args.self.now = c.self.view_is in
    let seen : AtBody c.in-Body.receiver ≡ c.args.self.now = sym (ap awaited_by c.in-Body.is) ∙ view in
    let told = c.args.digest.now in
    subst (λ (a : ArrivalSeen). MeetsRecordAt a told c.args.rest.now (Err c.in-Err.error)) seen (meets_record c.in-Body.receiver c.close_on_trust.new.self told c.args.rest.now (Err c.in-Err.error) c.in-Err.ensures)

pub returns-in-Over-clause-meets : goal.returns-in-Over-clause-meets
returns-in-Over-clause-meets c =
    let view : awaited_by c.self.inside.progress ≡ c.args.self.now = c.self.view_is in
    let seen : Over c.in-Over.receiver ≡ c.args.self.now = sym (ap awaited_by c.in-Over.is) ∙ view in
    let told = c.args.digest.now in
    let closes = c.close_on_trust-in-Over in
    subst (λ (a : ArrivalSeen). MeetsRecordAt a told c.args.rest.now closes.result) seen (meets_record c.in-Over.receiver closes.new.self told c.args.rest.now closes.result closes.ensures)

pub returns-in-Ok-clause-right : goal.returns-in-Ok-clause-right
returns-in-Ok-clause-right c =
    let view : awaited_by c.self.inside.progress ≡ c.args.self.now = c.self.view_is in
    let seen : AtBody c.in-Body.receiver ≡ c.args.self.now = sym (ap awaited_by c.in-Body.is) ∙ view in
    let told = c.args.digest.now in
    subst (λ (a : ArrivalSeen). told ≡ sha256 (digested a) → ClosesRight a c.args.rest.now (Ok tt) (AtBody c.close_on_trust.new.self)) seen (λ is. right_body c.in-Body.receiver c.close_on_trust.new.self told c.args.rest.now c.in-Ok.ensures is)

pub returns-in-Err-clause-right : goal.returns-in-Err-clause-right
returns-in-Err-clause-right c =
    let coming : IsComing c.self.inside.progress = c.self.invariant in
    let steady : AreSteady c.in-Body.receiver = rw c.in-Body.is at coming in
    let view : awaited_by c.self.inside.progress ≡ c.args.self.now = c.self.view_is in
    let seen : AtBody c.in-Body.receiver ≡ c.args.self.now = sym (ap awaited_by c.in-Body.is) ∙ view in
    let told = c.args.digest.now in
    rw c.replace.ensures.after (subst (λ (a : ArrivalSeen). told ≡ sha256 (digested a) → ClosesRight a c.args.rest.now (Err c.in-Err.error) Refused) seen
    (λ is. wrong_body c.in-Body.receiver c.close_on_trust.new.self told c.args.rest.now c.in-Err.error steady c.in-Err.ensures is))

pub returns-in-Over-clause-right : goal.returns-in-Over-clause-right
returns-in-Over-clause-right c =
    let coming : IsComing c.self.inside.progress = c.self.invariant in
    let steady : AreSteady c.in-Over.receiver = rw c.in-Over.is at coming in
    let view : awaited_by c.self.inside.progress ≡ c.args.self.now = c.self.view_is in
    let seen : Over c.in-Over.receiver ≡ c.args.self.now = sym (ap awaited_by c.in-Over.is) ∙ view in
    let told = c.args.digest.now in
    let closes = c.close_on_trust-in-Over in
    subst (λ (a : ArrivalSeen). told ≡ sha256 (digested a) → ClosesRight a c.args.rest.now closes.result (Over closes.new.self)) seen (λ is. right_over c.in-Over.receiver closes.new.self told c.args.rest.now closes.result steady closes.ensures is)
