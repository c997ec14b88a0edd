use Rattle.std.proofs.Common.{◌≡◌, ◌+◌, ◌<◌, false, length, set, subst, sym, ap, ◌∙◌}
use Rattle.std.specs.Prelude.{Some}
use Rattle.dirtylog.specs.Members.{IsLeastFrom}
use Rattle.machine.specs.Layout.{pages_of}
use Rattle.sender.specs.LiveState.{LiveSeen, now}
use Rattle.sender.specs.Stopping.{lesser}
use Rattle.sender.proofs.NextLeft.{along_here, along_next, later, next_inside, next_member, onward_first, onward_more, reads_failed, reads_first, reads_next, reads_onward, shorter, still_next}
use Rattle.sender.proofs.Stopping.{Along, few_counted, short_of}
use Rattle.sender.proofs.live.LiveOver+D+W+Ram.send_all.Goals as goal

pub items-init : goal.items-init
items-init g c =
    let due = subst (λ (v : LiveSeen). IsLeastFrom v.due 0 c.first_from-due.result) c.self.view_is c.first_from-due.ensures in
    let dirty = subst (λ (v : LiveSeen). IsLeastFrom v.dirty 0 c.first_from-dirty.result) c.self.view_is c.first_from-dirty.ensures in
    record {
      onward = onward_first c.args.self.now c.first_from-due.result c.first_from-dirty.result c.page_count-pages.result c.recall.ensures
          (subst (λ (v : LiveSeen). c.page_count-pages.result ≡ pages_of (now v)) c.self.view_is c.page_count-pages.ensures.count) due dirty;
      reads = reads_first g.D.Disk.called c.args.self.now c.first_from-due.result c.first_from-dirty.result due dirty;
    }

pub returns-in-Err-clause-sent : goal.returns-in-Err-clause-sent
returns-in-Err-clause-sent g c =
    let is : lesser c.items.due c.items.dirty ≡ Some c.in-Some.number = sym c.in-Some.ensures in
    short_of _ _ _ _ _ c.items.sent c.in-Err.error (along_here _ _ _ _ _ _ _ c.items.invariant.onward is) (next_inside _ _ _ _ _ _ _ c.items.invariant.onward is) (next_member _ _ _ _ _ _ _ c.items.invariant.onward is) c.in-Err.ensures.sent

pub returns-in-Err-clause-calls : goal.returns-in-Err-clause-calls
returns-in-Err-clause-calls g c =
    let is : lesser c.items.due c.items.dirty ≡ Some c.in-Some.number = sym c.in-Some.ensures in
    reads_failed _ _ _ _ _ _ _ c.items.invariant.onward is g.D.Disk.called c.send.new.self c.in-Err.error c.items.invariant.reads c.send.ensures.calls c.in-Err.ensures.sent

pub counted-sent-requires-clause-pages : goal.counted-sent-requires-clause-pages
counted-sent-requires-clause-pages g c =
    let is : lesser c.items.due c.items.dirty ≡ Some c.in-Some.number = sym c.in-Some.ensures in
    let along : Along c.args.self.now c.in-Some.number c.page_count-pages.result c.items.sent c.items.self = along_here _ _ _ _ _ _ _ c.items.invariant.onward is in
    few_counted _ c.items.self _ _ _ _ c.items.sent along (next_inside _ _ _ _ _ _ _ c.items.invariant.onward is) along.pages_are

pub counted-sent-requires-clause-sectors : goal.counted-sent-requires-clause-sectors
counted-sent-requires-clause-sectors g c =
    let is : lesser c.items.due c.items.dirty ≡ Some c.in-Some.number = sym c.in-Some.ensures in
    let along : Along c.args.self.now c.in-Some.number c.page_count-pages.result c.items.sent c.items.self = along_here _ _ _ _ _ _ _ c.items.invariant.onward is in
    few_counted _ c.items.self _ _ _ _ c.items.sent along (next_inside _ _ _ _ _ _ _ c.items.invariant.onward is) along.sectors_are

pub next_past-due-requires-clause-found : goal.next_past-due-requires-clause-found
next_past-due-requires-clause-found g c = λ other.
    let taken : c.self-in-Some.inside.due ≡ set c.items.self.due c.in-Some.number false = ap (λ (v : LiveSeen). v.due) c.self-in-Some.view_is ∙ c.in_default-send.ensures.sent.sent.due in
    subst (λ s. IsLeastFrom s 0 c.items.due) (sym taken) (still_next c.items.self.due c.in-Some.number c.items.due c.items.invariant.onward.due_next other)

pub next_past-dirty-requires-clause-found : goal.next_past-dirty-requires-clause-found
next_past-dirty-requires-clause-found g c = λ other.
    let taken : c.self-in-Some.inside.logs.first.set ≡ set c.items.self.dirty c.in-Some.number false = ap (λ (v : LiveSeen). v.dirty) c.self-in-Some.view_is ∙ c.in_default-send.ensures.sent.sent.dirty in
    subst (λ s. IsLeastFrom s 0 c.items.dirty) (sym taken) (still_next c.items.self.dirty c.in-Some.number c.items.dirty c.items.invariant.onward.dirty_next other)

pub items-smaller : goal.items-smaller
items-smaller g c =
    let is : lesser c.items.due c.items.dirty ≡ Some c.in-Some.number = sym c.in-Some.ensures in
    let within : c.in-Some.number < length c.args.self.now.due = next_inside _ _ _ _ _ _ _ c.items.invariant.onward is in
    let along : Along c.args.self.now (c.in-Some.number + 1) c.page_count-pages.result c.counted-sent.result c.send.new.self = along_next _ _ _ _ _ _ _ c.items.invariant.onward is _ _ _ c.in_default-send.ensures.sent c.counted-sent.ensures in
    shorter (lesser c.items.due c.items.dirty) (lesser c.next_past-due.result c.next_past-dirty.result) c.in-Some.number _ is within (later _ c.send.new.self c.next_past-due.result c.next_past-dirty.result c.in-Some.number c.page_count-pages.result c.counted-sent.result along within
    (subst (λ (v : LiveSeen). IsLeastFrom v.due 0 c.next_past-due.result) c.self-in-Some.view_is c.next_past-due.ensures)
    (subst (λ (v : LiveSeen). IsLeastFrom v.dirty 0 c.next_past-dirty.result) c.self-in-Some.view_is c.next_past-dirty.ensures))

pub items-preserved : goal.items-preserved
items-preserved g c =
    let is : lesser c.items.due c.items.dirty ≡ Some c.in-Some.number = sym c.in-Some.ensures in
    let within : c.in-Some.number < length c.args.self.now.due = next_inside _ _ _ _ _ _ _ c.items.invariant.onward is in
    let along : Along c.args.self.now (c.in-Some.number + 1) c.page_count-pages.result c.counted-sent.result c.send.new.self = along_next _ _ _ _ _ _ _ c.items.invariant.onward is _ _ _ c.in_default-send.ensures.sent c.counted-sent.ensures in
    let due = subst (λ (v : LiveSeen). IsLeastFrom v.due 0 c.next_past-due.result) c.self-in-Some.view_is c.next_past-due.ensures in
    let dirty = subst (λ (v : LiveSeen). IsLeastFrom v.dirty 0 c.next_past-dirty.result) c.self-in-Some.view_is c.next_past-dirty.ensures in
    record {
      onward = onward_more _ c.send.new.self c.next_past-due.result c.next_past-dirty.result c.in-Some.number c.page_count-pages.result c.counted-sent.result along within due dirty;
      reads = reads_onward _ c.send.new.self c.next_past-due.result c.next_past-dirty.result c.in-Some.number c.page_count-pages.result c.counted-sent.result along within due dirty g.D.Disk.called
          (reads_next _ _ _ _ _ _ _ c.items.invariant.onward is g.D.Disk.called c.send.new.self c.items.invariant.reads c.send.ensures.calls);
    }
