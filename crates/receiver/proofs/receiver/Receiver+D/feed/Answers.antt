use Rattle.receiver.proofs.Clearing.{clear_own}
use Rattle.receiver.proofs.receiver.Receiver+D.feed.Goals as goal

pub feed_clear-requires : goal.feed_clear-requires
feed_clear-requires g c = record { clear = rw (← c.self.view_is) (λ b t. clear_own c.self.inside.reader.digest _ _ _ c.recall.ensures) }
