use Rattle.std.proofs.Common.{rules, ◌≡◌, ◌∙◌, [], ap, sym}
use Rattle.c_handle.specs.AdmissionSeen.{Denied}
use Rattle.c_handle.specs.Kept.{admission_of}
use Rattle.c_handle.proofs.ToldFeeding.{some_left, to_digest, to_end, to_refusal}
use Rattle.c_handle.proofs.told_feeding.feed_rest.Goals as goal

pub returns-in-Ok-clause-feeds : goal.returns-in-Ok-clause-feeds
returns-in-Ok-clause-feeds c =
    let some : ¬ (c.args.rest.now ≡ []) = some_left c.args.rest.now (search rules) in
    to_digest (admission_of c.args.admission.now) c.args.arrival.now c.feed_some.new.self c.args.rest.now c.in-Ok.fed c.requires.let_in some c.in-Ok.ensures.fed c.if-fed.true

pub returns-in-Ok-2-clause-feeds : goal.returns-in-Ok-2-clause-feeds
returns-in-Ok-2-clause-feeds c =
    let some : ¬ (c.args.rest.now ≡ []) = some_left c.args.rest.now (search rules) in
    to_end (admission_of c.args.admission.now) c.args.arrival.now c.feed_some.new.self c.args.rest.now c.in-Ok.fed c.is_whole-in-Ok-2.result c.taken_status-in-Ok-2.result c.requires.let_in some c.in-Ok.ensures.fed c.if-fed.false c.is_whole-in-Ok-2.ensures c.taken_status-in-Ok-2.ensures

pub returns-in-Err-clause-feeds : goal.returns-in-Err-clause-feeds
returns-in-Err-clause-feeds c =
    let some : ¬ (c.args.rest.now ≡ []) = some_left c.args.rest.now (search rules) in
    to_refusal (admission_of c.args.admission.now) (admission_of c.denied.new.admission) c.args.arrival.now c.feed_some.new.self c.args.rest.now c.in-Err.error c.refused.result.status c.refused.result.used c.requires.let_in some c.in-Err.ensures.refused c.in-Err.ensures.untouched
    (c.refused.ensures.status ∙ c.denied.ensures.status) (c.denied.ensures.denied ∙ ap Denied (sym c.refused.ensures.status))
