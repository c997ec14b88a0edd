use Rattle.std.proofs.Common.{◌≡◌, ◌∙◌, ap}
use Rattle.machine.specs.Writing.{writing_base}
use Rattle.machine.proofs.Meeting.{reach_first, reach_last}
use Rattle.machine.proofs.stores.Stores.may_write.Goals as goal

pub returns-then-segments_meet : goal.returns-then-segments_meet
returns-then-segments_meet c =
    let base : c.self.inside.base ≡ writing_base c.args.self.now = c.self.invariant.base_is ∙ ap writing_base c.self.view_is in
    reach_first c.args.self.now c.self.inside.base c.segments.result.now c.args.piece base c.segments.ensures c.if-segments_meet.ensures

pub returns : goal.returns
returns c =
    let base : c.self.inside.base ≡ writing_base c.args.self.now = c.self.invariant.base_is ∙ ap writing_base c.self.view_is in
    reach_last c.pieces_meet.result c.args.self.now c.self.inside.base c.segments.result.now c.as_slice.result.now c.args.piece base c.segments.ensures (c.as_slice.ensures ∙ c.ends.ensures.is) c.if-segments_meet.ensures c.pieces_meet.ensures
