use Rattle.std.proofs.Common.{◌≡◌, ◌≤◌, take, ◌∙◌, arith}
use Rattle.dirtylog.specs.Members.{member_count}
use Rattle.dirtylog.specs.Words.{flags_of}
use Rattle.dirtylog.proofs.Counts.{count_split}
use Rattle.dirtylog.proofs.Flags.{flags_length}
use Rattle.dirtylog.proofs.WordCounts.{counted_below}
use Rattle.dirtylog.proofs.bit_set.BitSet.count_below.Goals as goal

pub count_ones-requires : goal.count_ones-requires
count_ones-requires c =
    let len : c.args.n ≤ c.self.inside.len = rw (← c.self.view_is, flags_length) at c.requires in
    rw c.deref.ensures.value (omega (arith, len, c.self.invariant.0.words_room.fit))

pub returns-clause-below : goal.returns-clause-below
returns-clause-below c =
    let len : c.args.n ≤ c.self.inside.len = rw (← c.self.view_is, flags_length) at c.requires in
    rw (← c.self.view_is) ((rw c.deref.ensures.value at c.count_ones.ensures) ∙ counted_below c.self.inside.words.items c.self.inside.len c.args.n len)

pub returns-clause-rest : goal.returns-clause-rest
returns-clause-rest c =
    let len : c.args.n ≤ c.self.inside.len = rw (← c.self.view_is, flags_length) at c.requires in
    let flags = flags_of c.self.inside.words.items c.self.inside.len in
    let below : c.count_ones.result ≡ member_count (take c.args.n flags) = (rw c.deref.ensures.value at c.count_ones.ensures) ∙ counted_below c.self.inside.words.items c.self.inside.len c.args.n len in
    rw (← c.self.view_is) (omega (arith, below, count_split flags c.args.n))
