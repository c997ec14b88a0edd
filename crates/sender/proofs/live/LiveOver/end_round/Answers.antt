use Rattle.std.proofs.Common.{false, replicate, length, refl, ap, sym, ◌∙◌, rules}
use Rattle.std.proofs.lemmas.List.{length-replicate}
use Rattle.dirtylog.specs.Members.{HasNone}
use Rattle.machine.specs.Layout.{Layout, size_of}
use Rattle.sender.proofs.HereOrLent.{again_over, begun_over, layout_at, round_over, sets_over, still_open}
use Rattle.sender.proofs.Living.{round_fits}
use Rattle.sender.proofs.Served.{wrote_by}
use Rattle.sender.proofs.live.LiveOver.end_round.Goals as goal

pub invariant_of-self : goal.invariant_of-self
invariant_of-self g c =
    let i = c.self.inside in
    again_over (g.M.GuestRam.known i.machine.memory) i.machine.devices i.phase _ i.due i.logs.first.set i.logs.first.firsts.items i.at c.self.invariant tt

pub invariant_of-self-2 : goal.invariant_of-self-2
invariant_of-self-2 g c =
    let i = c.self.inside in
    let k = g.M.GuestRam.known i.machine.memory in
    let free = rw (← c.self.view_is) at (sym c.refusal.ensures ∙ c.in_default.is) in
    let sets = sets_over k i.machine.devices i.phase i.due i.logs.first.set i.logs.first.firsts.items i.at c.self.invariant in
    let even = sets.dirty_size ∙ sym sets.due_size in
    begun_over k i.machine.devices i.phase _ i.due c.swap_out.new.other i.logs.first.set c.swap_out.new.self i.logs.first.firsts.items i.at c.self.invariant
    (ap length c.swap_out.ensures.given ∙ even) (ap length c.swap_out.ensures.left ∙ length-replicate (length i.logs.first.set) false) (round_fits i.phase c.in-Open.round c.in-Open.is sets.round free)

pub returns-then-not-is_empty-clause-served : goal.returns-then-not-is_empty-clause-served
returns-then-not-is_empty-clause-served g c =
    let i = c.self.inside in
    let free = rw (← c.self.view_is) at (sym c.refusal.ensures ∙ c.in_default.is) in
    let some : ¬ (HasNone i.due) = search rules in
    rw (← c.self.view_is) (still_open g.M.GuestRam.known (record { machine = i.machine; phase = i.phase; due = i.due; dirty = i.logs.first.set; digest = g.W.Sink.sum i.writer; out = g.W.Sink.state i.writer }) free some)

pub returns-clause-served : goal.returns-clause-served
returns-clause-served g c =
    let i = c.self.inside in
    let k = g.M.GuestRam.known i.machine.memory in
    let free = rw (← c.self.view_is) at (sym c.refusal.ensures ∙ c.in_default.is) in
    let sets = sets_over k i.machine.devices i.phase i.due i.logs.first.set i.logs.first.firsts.items i.at c.self.invariant in
    rw (← c.self.view_is) (round_over g.M.GuestRam.known _ _ _ free (c.if-not-is_empty.ensures.0 refl) (λ m may. record {
      round = c.in-Open.round;
      was = c.in-Open.is;
      next = refl;
      machine = refl;
      phase = refl;
      due = c.swap_out.ensures.given;
      dirty = c.swap_out.ensures.left ∙ ap (λ n. replicate n false) (sets.dirty_size ∙ ap (λ (l : Layout). size_of l) (sym (layout_at k i.machine.devices m may)));
      wrote = wrote_by _ _ _ _ _ refl c.in_default-encode_round.ensures.out c.in_default-encode_round.ensures.taken;
    }) refl)
