use Rattle.std.proofs.Common.{◌<◌, ◌^◌, ◌∙◌, length, sym}
use Rattle.dirtylog.proofs.Flags.{flags_length, flags_zero, count_zero}
use Rattle.dirtylog.proofs.Levels.{zero_levels}
use Rattle.dirtylog.proofs.Counts.{none_are, none_counted}
use Rattle.dirtylog.proofs.bit_set.BitSet.clear.Goals as goal

pub invariant_of-self : goal.invariant_of-self
invariant_of-self c =
    let i = c.self.invariant.0 in
    let fits : c.self.inside.len < 2 ^ 64 = rw flags_length at c.self.invariant.1.fits in
    rw (c.clear_all.ensures, c.clear_all-2.ensures) (zero_levels c.self.inside.len _ _ i.words_room i.marks_room, count_zero (length c.self.inside.words.items) c.self.inside.len fits)

pub returns : goal.returns
returns c = rw (← c.self.view_is, c.clear_all.ensures, flags_length) (flags_zero (length c.self.inside.words.items) c.self.inside.len)

pub returns-then-count-eq0 : goal.returns-then-count-eq0
returns-then-count-eq0 c = none_are c.args.self.now (none_counted c.args.self.now (sym c.count.ensures ∙ c.if-count-eq0.true))
