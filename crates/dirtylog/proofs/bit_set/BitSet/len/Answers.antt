use Rattle.std.proofs.Common.{sym}
use Rattle.dirtylog.proofs.Flags.{flags_length}
use Rattle.dirtylog.proofs.bit_set.BitSet.len.Goals as goal

pub returns : goal.returns
returns c = rw (← c.self.view_is) (sym (flags_length c.self.inside.words.items c.self.inside.len))
