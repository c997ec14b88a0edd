use Rattle.std.proofs.Common.{rules, arith, ◌≡◌, ◌≤◌, ◌<◌, ◌++◌, length, take, ap, sym, ◌∙◌}
use Rattle.std.proofs.lemmas.List.{length-take, nil_from_length}
use Rattle.receiver.proofs.Cutting.{clear_begun, clear_lacking, clear_one, clear_start, not_five_on}
use Rattle.receiver.proofs.receiver.Receiver.clear_len.Goals as goal

pub returns-then-not-reads-clause-clear : goal.returns-then-not-reads-clause-clear
returns-then-not-reads-clause-clear g c = λ some.
    let r = c.self.inside.reader in
    rw (← c.self.view_is) (λ b t. clear_start r.ram r.disks r.digest b c.self.inside.held.items (take 1 c.args.rest.now) r.stage (omega (arith, length-take 1 c.args.rest.now)) (sym c.reads.ensures ∙ c.if-not-reads.true) t)

pub returns-then-begins_digest-clause-due : goal.returns-then-begins_digest-clause-due
returns-then-begins_digest-clause-due g c = λ none.
    let b = c.begins_digest.ensures.begins c.if-begins_digest.true in
    rw (← c.self.view_is) (record {
      reads = sym c.reads.ensures ∙ c.if-not-reads.false;
      goes_on = rw (← c.self.view_is) at c.requires.goes_on;
      more = b.0 ++ c.args.rest.now;
      begins = ap (λ x. x ++ c.args.rest.now) (sym c.deref.ensures.value ∙ b.1);
    })

pub returns-then-self-gt0-clause-clear : goal.returns-then-self-gt0-clause-clear
returns-then-self-gt0-clause-clear g c = λ some.
    let r = c.self.inside.reader in
    let low : c.min.result ≤ c.self.inside.lacking = search rules in
    rw (← c.self.view_is) (λ b t. clear_lacking r.ram r.disks r.digest b c.self.inside.held.items (take c.min.result c.args.rest.now) r.stage c.self.inside.lacking (c.self.invariant.lacks (omega arith)) (omega (arith, low, length-take c.min.result c.args.rest.now))
    (rw c.deref.ensures.value at (c.begins_digest.ensures.other c.if-begins_digest.false)) (rw (← c.self.view_is) at c.requires.goes_on) t)

pub returns-then-not-is_empty-clause-clear : goal.returns-then-not-is_empty-clause-clear
returns-then-not-is_empty-clause-clear g c = λ some.
    let r = c.self.inside.reader in
    let filled : 0 < length c.self.inside.held.items = search rules in
    rw (← c.self.view_is) (λ b t. clear_one r.ram r.disks r.digest b c.self.inside.held.items (take 1 c.args.rest.now) r.stage (omega (arith, length-take 1 c.args.rest.now))
    (not_five_on c.self.inside.held.items (take 1 c.args.rest.now) filled (rw c.deref.ensures.value at (c.begins_digest.ensures.other c.if-begins_digest.false))) (sym c.reads.ensures ∙ c.if-not-reads.false) (rw (← c.self.view_is) at c.requires.goes_on) t)

pub returns-clause-clear : goal.returns-clause-clear
returns-clause-clear g c = λ some.
    let r = c.self.inside.reader in
    let none : length c.self.inside.held.items ≡ 0 = search rules in
    let low : c.min-2.result ≤ c.record_len.result = search rules in
    rw (← c.self.view_is) (λ b t. clear_begun r.ram r.disks r.digest b c.self.inside.held.items c.args.rest.now c.min-2.result c.record_len.result r.stage (nil_from_length c.self.inside.held.items none) low
    (c.record_len.ensures.other (omega (arith, some, low))) c.record_len.ensures.within (sym c.reads.ensures ∙ c.if-not-reads.false) (rw (← c.self.view_is) at c.requires.goes_on) t)
