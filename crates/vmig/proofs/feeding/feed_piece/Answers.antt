use Rattle.std.proofs.Common.{◌∙◌}
use Rattle.vmig.proofs.Arriving.{fed_on, fed_quietly, piece_refused}
use Rattle.vmig.proofs.feeding.feed_piece.Goals as goal

pub returns-in-Ok-feed-clause-goes_on : goal.returns-in-Ok-feed-clause-goes_on
returns-in-Ok-feed-clause-goes_on g c = λ terms front h. fed_on terms _ front h.more _ (c.in-Ok-feed.ensures.ram ∙ h.at) (c.in-Ok-feed.ensures.fed _ h.fed)

pub returns-in-Ok-feed-clause-quiet : goal.returns-in-Ok-feed-clause-quiet
returns-in-Ok-feed-clause-quiet g c = λ end terms front h. fed_quietly terms _ front h.more _ (c.in-Ok-feed.ensures.fed _ h.fed) (rw (c.in-Ok-feed.ensures.sizes, ← h.at) (c.in-Ok-feed.ensures.quiet _ h.fed))

pub returns-in-Err-feed-clause-failed : goal.returns-in-Err-feed-clause-failed
returns-in-Err-feed-clause-failed g c = λ terms front h.
    piece_refused _ front h.more _ terms c.args.receiver.now.sizes c.args.receiver.now.marks _ c.in-Err-feed.refusal _ c.from.ensures c.in-Err-feed.ensures.marks (rw h.at at (c.in-Err-feed.ensures.told _ h.fed))
