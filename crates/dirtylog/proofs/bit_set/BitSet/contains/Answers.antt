use Rattle.std.proofs.Common.{◌≡◌, ◌<◌, sym, ◌∙◌, arith}
use Rattle.std.specs.Prelude.{◌==◌}
use Rattle.dirtylog.specs.Words.{bit_in}
use Rattle.dirtylog.proofs.Flags.{flag_at, flags_length}
use Rattle.dirtylog.proofs.bit_set.BitSet.contains.Goals as goal

pub has_bit-requires : goal.has_bit-requires
has_bit-requires c =
    let len : c.args.n < c.self.inside.len = rw (← c.self.view_is, flags_length) at c.requires in
    rw c.as_slice.ensures.value (omega (arith, len, c.self.invariant.0.words_room.fit))

pub returns : goal.returns
returns c =
    let len : c.args.n < c.self.inside.len = rw (← c.self.view_is, flags_length) at c.requires in
    let bit : c.has_bit.result ≡ (bit_in c.self.inside.words.items c.args.n == 1) = rw c.as_slice.ensures.value at c.has_bit.ensures in
    rw (← c.self.view_is) (bit ∙ sym (flag_at c.self.inside.words.items c.self.inside.len c.args.n len))
