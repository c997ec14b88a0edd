use Rattle.std.proofs.Common.{◌≡◌, ◌<◌, ◌+◌, ◌^◌, false, arith}
use Rattle.dirtylog.specs.Members.{has}
use Rattle.dirtylog.specs.Words.{flags_of}
use Rattle.dirtylog.proofs.Flags.{flags_length, flag_set, one_more, more_fits}
use Rattle.dirtylog.proofs.Levels.{levels_kept, mark_set}
use Rattle.dirtylog.proofs.bit_set.BitSet.take_in.Goals as goal

pub set_bit-requires : goal.set_bit-requires
set_bit-requires c =
    let len : c.args.n < c.self.inside.len = rw (← c.self.view_is, flags_length) at c.requires.inside in
    omega (arith, len, c.self.invariant.0.words_room.fit)

pub set_bit-requires-2 : goal.set_bit-requires-2
set_bit-requires-2 c =
    let len : c.args.n < c.self.inside.len = rw (← c.self.view_is, flags_length) at c.requires.inside in
    omega (arith, len, c.self.invariant.0.words_room.fit, c.self.invariant.0.marks_room.fit)

pub overflow_add-self : goal.overflow_add-self
overflow_add-self c =
    let len : c.args.n < c.self.inside.len = rw (← c.self.view_is, flags_length) at c.requires.inside in
    let old = flags_of c.self.inside.words.items c.self.inside.len in
    let out : has old c.args.n ≡ false = rw (← c.self.view_is) at c.requires.out in
    let fits : c.self.inside.members + 1 < 2 ^ 64 = more_fits old c.args.n c.self.inside.members (rw flags_length len) out c.self.invariant.1 in
    omega (arith, fits)

pub invariant_of-self : goal.invariant_of-self
invariant_of-self c =
    let len : c.args.n < c.self.inside.len = rw (← c.self.view_is, flags_length) at c.requires.inside in
    let out : has (flags_of c.self.inside.words.items c.self.inside.len) c.args.n ≡ false = rw (← c.self.view_is) at c.requires.out in
    let old = flags_of c.self.inside.words.items c.self.inside.len in (
      levels_kept c.self.inside.words.items c.self.inside.marks.items _ _ c.self.inside.len c.args.n 1 c.self.invariant.0 len c.set_bit.ensures (mark_set _ _ c.self.inside.words.items _ c.args.n c.set_bit.ensures c.set_bit-2.ensures),
      rw (flag_set _ _ c.self.inside.len c.args.n 1 len c.set_bit.ensures) (one_more old c.args.n c.self.inside.members (rw flags_length len) out c.self.invariant.1),
    )

pub returns : goal.returns
returns c =
    let len : c.args.n < c.self.inside.len = rw (← c.self.view_is, flags_length) at c.requires.inside in
    rw (← c.self.view_is) (flag_set _ _ c.self.inside.len c.args.n 1 len c.set_bit.ensures)
