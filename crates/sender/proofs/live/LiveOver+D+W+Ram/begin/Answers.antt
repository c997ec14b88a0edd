use Rattle.std.proofs.Common.{true, false, replicate, length, refl, ap, sym, ◌∙◌, arith}
use Rattle.std.proofs.lemmas.List.{length-replicate}
use Rattle.machine.specs.Seen.{state_of}
use Rattle.sender.proofs.Living.{live_again, live_begun}
use Rattle.sender.proofs.Served.{header_told, served_begin, wrote_by}
use Rattle.sender.proofs.live.LiveOver+D+W+Ram.begin.Goals as goal

pub invariant_of-self : goal.invariant_of-self
invariant_of-self g c = let i = c.self.inside in live_again i.machine i.machine i.phase _ i.due i.logs.first.set i.logs.first.firsts.items i.at c.self.invariant refl tt

pub invariant_of-self-2 : goal.invariant_of-self-2
invariant_of-self-2 g c =
    let i = c.self.inside in
    live_begun i.machine i.phase _ i.due c.fill.new.self i.logs.first.set c.clear.new.self i.logs.first.firsts.items i.at c.self.invariant
    (ap length c.fill.ensures ∙ length-replicate (length i.due) true) (ap length c.clear.ensures ∙ length-replicate (length i.logs.first.set) false) (omega arith)

pub returns-clause-served : goal.returns-clause-served
returns-clause-served g c =
    let i = c.self.inside in
    let free = rw (← c.self.view_is) at (sym c.refusal.ensures ∙ c.in_default.is) in
    let sets = c.self.invariant.sets in
    rw (← c.self.view_is) (served_begin _ _ free (record {
      machine = refl;
      phase = refl;
      due = c.fill.ensures ∙ ap (λ n. replicate n true) sets.due_size;
      dirty = c.clear.ensures ∙ ap (λ n. replicate n false) sets.dirty_size;
      wrote = wrote_by _ _ _ _ _ (header_told (state_of i.machine) c.page_count-pages.result c.shapes.result.now c.page_count-pages.ensures.count c.shapes.ensures.shapes) c.in_default-encode_header.ensures.out c.in_default-encode_header.ensures.taken;
    }))
