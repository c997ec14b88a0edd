use Rattle.std.proofs.Common.{◌≡◌, ◌<◌, true, sym, ◌∙◌, arith}
use Rattle.dirtylog.specs.Members.{has}
use Rattle.dirtylog.specs.Words.{flags_of, bit_in}
use Rattle.dirtylog.proofs.Flags.{flags_length, flag_set, member_bit, one_less}
use Rattle.dirtylog.proofs.Levels.{levels_kept, mark_looked_at}
use Rattle.dirtylog.proofs.bit_set.BitSet.remove.Goals as goal

pub clear_bit-requires : goal.clear_bit-requires
clear_bit-requires c =
    let len : c.args.n < c.self.inside.len = rw (← c.self.view_is, flags_length) at c.requires in
    omega (arith, len, c.self.invariant.0.words_room.fit)

pub unmark-requires-clause-word : goal.unmark-requires-clause-word
unmark-requires-clause-word c =
    let len : c.args.n < c.self.inside.len = rw (← c.self.view_is, flags_length) at c.requires in
    omega (arith, len, c.self.invariant.0.words_room.fit, c.clear_bit.ensures.size)

pub unmark-requires-clause-mark : goal.unmark-requires-clause-mark
unmark-requires-clause-mark c =
    let len : c.args.n < c.self.inside.len = rw (← c.self.view_is, flags_length) at c.requires in
    omega (arith, len, c.self.invariant.0.words_room.fit, c.self.invariant.0.marks_room.fit)

pub invariant_of-self : goal.invariant_of-self
invariant_of-self c =
    let len : c.args.n < c.self.inside.len = rw (← c.self.view_is, flags_length) at c.requires in
    let old = flags_of c.self.inside.words.items c.self.inside.len in
    let inside : has old c.args.n ≡ true = rw (← c.self.view_is) at (sym c.contains.ensures ∙ c.if-not-contains.false) in
    let one : bit_in c.self.inside.words.items c.args.n ≡ 1 = member_bit c.self.inside.words.items c.self.inside.len c.args.n len inside in (
      levels_kept c.self.inside.words.items c.self.inside.marks.items _ _ c.self.inside.len c.args.n 0 c.self.invariant.0 len c.clear_bit.ensures (mark_looked_at c.self.inside.words.items c.self.inside.marks.items _ _ c.self.inside.len c.args.n c.self.invariant.0 len one c.unmark.ensures),
      rw (flag_set _ _ c.self.inside.len c.args.n 0 len c.clear_bit.ensures) (one_less old c.args.n c.self.inside.members (rw flags_length len) inside c.self.invariant.1),
    )

pub returns : goal.returns
returns c =
    let len : c.args.n < c.self.inside.len = rw (← c.self.view_is, flags_length) at c.requires in
    rw (← c.self.view_is) (flag_set _ _ c.self.inside.len c.args.n 0 len c.clear_bit.ensures)
