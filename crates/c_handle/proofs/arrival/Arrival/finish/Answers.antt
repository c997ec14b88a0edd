use Rattle.std.proofs.Common.{◌≡◌, ap, sym, subst, ◌∙◌}
use Rattle.receiver.specs.declared.recv_error.RecvError.TheVariants.{Truncated}
use Rattle.receiver.specs.Opened.{told_by}
use Rattle.receiver.specs.Receiving.{place_aside}
use Rattle.c_handle.specs.ArrivalSeen.{ArrivalSeen, AtBody, Over}
use Rattle.c_handle.specs.Awaited.{AreSteady, HasArrived, IsClosed, IsComing, TellsEnd, awaited_by}
use Rattle.c_handle.specs.Headed.{HasNoHeader}
use Rattle.c_handle.proofs.Awaited.{arrived, head_ends}
use Rattle.c_handle.proofs.Landings.{arrived_over}
use Rattle.c_handle.proofs.arrival.Arrival.finish.Goals as goal

pub returns-in-Head-clause-refused : goal.returns-in-Head-clause-refused
returns-in-Head-clause-refused g c =
    let coming : IsComing c.self.inside.progress = c.self.invariant in
    let none : HasNoHeader c.in-Head.field-2.items = rw c.in-Head.is at coming in
    let view : awaited_by c.self.inside.progress ≡ c.args.self = c.self.view_is in
    let seen = sym (ap awaited_by c.in-Head.is) ∙ view in
    subst (λ (a : ArrivalSeen). TellsEnd a Truncated × IsClosed a c.failed.result) seen (head_ends (told_by c.in-Head.field-0 c.in-Head.field-1) (place_aside c.in-Head.field-1) c.in-Head.field-2.items none, c.failed.ensures)

pub returns-in-Ok-clause-arrived : goal.returns-in-Ok-clause-arrived
returns-in-Ok-clause-arrived g c =
    let coming : IsComing c.self.inside.progress = c.self.invariant in
    let steady : AreSteady c.in-Body.receiver = rw c.in-Body.is at coming in
    let view : awaited_by c.self.inside.progress ≡ c.args.self = c.self.view_is in
    let seen : AtBody c.in-Body.receiver ≡ c.args.self = sym (ap awaited_by c.in-Body.is) ∙ view in
    let has = c.in-Ok.ensures in
    subst (λ (a : ArrivalSeen). HasArrived a c.in-Ok.machine) seen (arrived c.in-Body.receiver c.in-Ok.machine steady has.received has.marks has.based has.place has.ram_len)

pub returns-in-Body-clause-refused : goal.returns-in-Body-clause-refused
returns-in-Body-clause-refused g c =
    let view : awaited_by c.self.inside.progress ≡ c.args.self = c.self.view_is in
    let seen : AtBody c.in-Body.receiver ≡ c.args.self = sym (ap awaited_by c.in-Body.is) ∙ view in
    subst (λ (a : ArrivalSeen). TellsEnd a c.in-Err.error × IsClosed a c.failed-in-Err.result) seen ((c.in-Err.ensures.told, λ b h. c.in-Err.ensures.refused b h.0), c.failed-in-Err.ensures)

pub returns-in-Ok-finish_or_back-clause-arrived : goal.returns-in-Ok-finish_or_back-clause-arrived
returns-in-Ok-finish_or_back-clause-arrived g c =
    let coming : IsComing c.self.inside.progress = c.self.invariant in
    let steady : AreSteady c.in-Over.receiver = rw c.in-Over.is at coming in
    let view : awaited_by c.self.inside.progress ≡ c.args.self = c.self.view_is in
    let seen : Over c.in-Over.receiver ≡ c.args.self = sym (ap awaited_by c.in-Over.is) ∙ view in
    let has = c.in-Ok-finish_or_back.ensures in
    subst (λ (a : ArrivalSeen). HasArrived a c.in-Ok-finish_or_back.machine) seen (arrived_over c.in-Over.receiver c.in-Ok-finish_or_back.machine steady has.goes_on has.received has.marks has.based has.place has.ram_len)
