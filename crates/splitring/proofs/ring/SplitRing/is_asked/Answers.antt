use Rattle.std.proofs.Common.{refl, sym}
use Rattle.splitring.proofs.Word.{asked_event, asked_flags}
use Rattle.splitring.proofs.ring.SplitRing.is_asked.Goals as goal

pub returns-then-has_event_index : goal.returns-then-has_event_index
returns-then-has_event_index c = λ ram slots h.
    rw (← c.self.view_is) (asked_event ram c.args.word _ c.number_of-first.result slots refl (sym c.if-has_event_index.ensures) c.number_of-first.ensures (rw (← c.self.view_is) at h))

pub returns : goal.returns
returns c = λ ram slots h.
    rw (← c.self.view_is) (asked_flags ram c.args.word _ c.number_of-first.result slots refl (sym c.if-has_event_index.ensures) c.number_of-first.ensures (rw (← c.self.view_is) at h))
