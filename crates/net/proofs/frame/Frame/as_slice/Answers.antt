use Rattle.std.proofs.Common.{drop}
use Rattle.net.proofs.Keeping.{header_fits}
use Rattle.net.proofs.frame.Frame.as_slice.Goals as goal

pub split_at-requires : goal.split_at-requires
split_at-requires c = rw (c.as_slice.ensures.value) (header_fits _ (drop 12 c.self.inside.room.items) c.self.invariant.1)
