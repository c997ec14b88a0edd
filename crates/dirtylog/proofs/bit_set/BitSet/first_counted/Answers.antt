use Rattle.std.proofs.Common.{◌≡◌, false, length, ap, arith}
use Rattle.std.proofs.lemmas.List.{get_or_past}
use Rattle.dirtylog.specs.Words.{flags_of}
use Rattle.dirtylog.proofs.Finding.{looks_through}
use Rattle.dirtylog.proofs.Flags.{flags_length, least_member}
use Rattle.dirtylog.proofs.bit_set.BitSet.first_counted.Goals as goal

pub returns-then-n-self-clause-least : goal.returns-then-n-self-clause-least
returns-then-n-self-clause-least c = λ k a. rw (← c.self.view_is) (get_or_past (flags_of c.self.inside.words.items c.self.inside.len) k false (omega (arith, a, c.if-n-self.true, flags_length c.self.inside.words.items c.self.inside.len)))

pub returns-clause-least : goal.returns-clause-least
returns-clause-least c = rw (← c.self.view_is) (least_member c.self.inside.words.items c.self.inside.len c.args.n c.find_bit-found.result c.self.invariant.0.tail (rw c.as_slice.ensures.value at c.find_bit-found.ensures.least))

pub returns-then-n-self-clause-through : goal.returns-then-n-self-clause-through
returns-then-n-self-clause-through c = rw (← c.self.view_is) (λ _ low. absurd (omega (arith, low, c.if-n-self.true, flags_length c.self.inside.words.items c.self.inside.len)))

pub returns-clause-through : goal.returns-clause-through
returns-clause-through c =
    let i = c.self.invariant.0 in
    let marks : length c.as_slice-2.result.now ≡ length c.self.inside.marks.items = ap length c.as_slice-2.ensures.value in
    rw (← c.self.view_is, flags_length) (λ _ _. looks_through c.self.inside.len (length c.as_slice-2.result.now) c.args.n c.looked.result c.find_bit-found.result
    (omega (arith, marks, i.marks_room.fit, i.words_room.fit)) (rw (← c.looked.ensures) at c.find_bit-found.ensures.through))

pub returns-clause-few : goal.returns-clause-few
returns-clause-few c =
    let i = c.self.invariant.0 in
    let marks : length c.as_slice-2.result.now ≡ length c.self.inside.marks.items = ap length c.as_slice-2.ensures.value in
    rw (← c.self.view_is, flags_length) (omega (arith, c.looked.ensures, c.find_bit-found.ensures.counted, marks, i.marks_room.tight, i.words_room.tight))
