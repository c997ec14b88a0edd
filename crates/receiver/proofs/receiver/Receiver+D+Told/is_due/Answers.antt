use Rattle.std.proofs.Common.{rules, ◌<◌, ◌++◌, length, ap, sym, ◌∙◌}
use Rattle.receiver.proofs.Closes.{begun, front_five}
use Rattle.receiver.proofs.receiver.Receiver+D+Told.is_due.Goals as goal

pub returns : goal.returns
returns g c =
    let held = c.self.inside.held.items in
    let rest = c.args.rest.now in
    let some : 0 < length held = search rules in
    rw (← c.self.view_is) (
      λ t.
          let b = c.begins_digest-2.ensures.begins t in
          record {
            reads = sym c.reads.ensures ∙ c.if-not-reads.false;
            goes_on = sym c.has_ended.ensures ∙ c.if-has_ended.false;
            more = b.0 ++ rest;
            begins = ap (λ x. x ++ rest) (sym c.deref.ensures.value ∙ b.1);
          },
      λ due.
          let front = front_five held rest due.more some due.begins in
          begun c.begins_digest-2.result c.deref.result.now front.0 c.begins_digest-2.ensures.other (c.deref.ensures.value ∙ front.1),
    )
