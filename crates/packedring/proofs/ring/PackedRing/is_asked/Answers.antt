use Rattle.std.proofs.Common.{refl, sym, ◌∙◌}
use Rattle.packedring.proofs.Word.{always_asked, asked_here, asked_plainly, never_asked}
use Rattle.packedring.proofs.ring.PackedRing.is_asked.Goals as goal

pub returns-then-flags-eq-DISABLE : goal.returns-then-flags-eq-DISABLE
returns-then-flags-eq-DISABLE c = λ ram h.
    rw (← c.self.view_is) (never_asked ram c.args.word _ c.args.slots _ c.number_of-flags.result refl refl c.number_of-flags.ensures (rw (← c.self.view_is) at h) c.if-flags-eq-DISABLE.true)

pub returns-then-not-has_event_index : goal.returns-then-not-has_event_index
returns-then-not-has_event_index c = λ ram h.
    rw (← c.self.view_is) (always_asked ram c.args.word _ c.args.slots _ c.number_of-flags.result refl refl c.number_of-flags.ensures (rw (← c.self.view_is) at h) c.if-flags-eq-DISABLE.false (sym c.if-not-has_event_index.ensures))

pub returns-then-flags-ne-DESC : goal.returns-then-flags-ne-DESC
returns-then-flags-ne-DESC c = λ ram h.
    rw (← c.self.view_is) (asked_plainly ram c.args.word _ c.args.slots _ c.number_of-flags.result refl refl c.number_of-flags.ensures (rw (← c.self.view_is) at h) c.if-flags-eq-DISABLE.false c.if-flags-ne-DESC.true (sym c.if-not-has_event_index.ensures))

pub returns : goal.returns
returns c = λ ram h.
    rw (← c.self.view_is) (c.is_covered.ensures ∙ asked_here ram c.args.word _ c.args.slots c.number_of.result c.number_of-flags.result refl c.number_of.ensures c.number_of-flags.ensures (rw (← c.self.view_is) at h) c.if-flags-ne-DESC.false (sym c.if-not-has_event_index.ensures))
