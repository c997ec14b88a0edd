use Rattle.std.proofs.Common.{◌≡◌, ◌<◌, ◌^◌, length, arith}
use Rattle.dirtylog.proofs.Flags.{flags_length, flags_all, count_full}
use Rattle.dirtylog.proofs.Levels.{all_levels}
use Rattle.dirtylog.proofs.bit_set.BitSet.fill.Goals as goal

pub invariant_of-self : goal.invariant_of-self
invariant_of-self c =
    let i = c.self.invariant.0 in
    let fits : c.self.inside.len < 2 ^ 64 = rw flags_length at c.self.invariant.1.fits in
    let count : c.len-count.result ≡ length c.self.inside.words.items = omega (arith, c.len-count.ensures) in (
      all_levels _ _ c.self.inside.len (rw c.set_all.ensures.size i.words_room) (rw (c.set_all.ensures.size, c.set_all-2.ensures.size) i.marks_room) c.set_all.ensures.all (rw c.set_all.ensures.size (rw count at c.set_all-2.ensures.all)),
      rw (flags_all 1 _ c.self.inside.len c.set_all.ensures.all) (count_full c.self.inside.len fits),
    )

pub returns : goal.returns
returns c = rw (← c.self.view_is, flags_length) (flags_all 1 _ c.self.inside.len c.set_all.ensures.all)
