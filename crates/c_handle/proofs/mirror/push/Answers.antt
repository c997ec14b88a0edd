use Rattle.std.proofs.Common.{◌≡◌, ◌∙◌, ap, length, subst, sym}
use Rattle.c_handle.specs.Kept.{KeptSeen, State, held_state}
use Rattle.c_handle.specs.Mirror.{IsPushable}
use Rattle.c_handle.proofs.PushedPages.{pushable_list, pushable_named, pushed_list}
use Rattle.c_handle.proofs.mirror.push.Goals as goal

pub push_listed-requires : goal.push_listed-requires
push_listed-requires c = pushable_list c.args.kept.now.state c.args.pages.now (length c.args.ram.now) (length c.args.seen.now) c.push_refusal.result c.push_refusal.ensures c.in_default.is

pub push_listed-status-requires : goal.push_listed-status-requires
push_listed-status-requires c =
    let state : held_state c.kept.inside.held ≡ c.args.kept.now.state = ap (λ (k : KeptSeen). k.state) c.kept.view_is in
    subst (λ (k : State). IsPushable k c.as_slice.result.now (length c.args.ram.now) (length c.args.seen.now)) (sym state)
    (pushable_named c.args.kept.now.state c.args.pages.now c.as_slice.result.now c.pages_in-count.result (length c.args.ram.now) (length c.args.seen.now) c.push_refusal.result c.push_refusal.ensures c.in_default.is c.pages_in-count.ensures.count (c.as_slice.ensures.value ∙ c.in-Ok.ensures))

pub returns-then-not-needs_list-clause-pushes : goal.returns-then-not-needs_list-clause-pushes
returns-then-not-needs_list-clause-pushes c =
    let told = c.push_listed.ensures in
    pushed_list c.args.kept.now.state c.push_listed.new.kept.state c.args.kept.now.written c.push_listed.new.kept.written c.args.pages.now c.args.ram.now c.args.seen.now c.push_listed.new.seen c.push_listed.result c.push_refusal.result c.push_refusal.ensures c.in_default.is
    (sym c.needs_list.ensures ∙ c.if-not-needs_list.true) told.pushed told.done
