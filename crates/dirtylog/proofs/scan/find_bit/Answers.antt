use Rattle.std.proofs.Common.{◌≡◌, ◌≤◌, ◌/◌, ◌%◌, ℕ, get_or}
use Rattle.std.specs.Int.{bit_at}
use Rattle.dirtylog.proofs.Finding.{found_later}
use Rattle.dirtylog.proofs.scan.find_bit.Goals as goal

pub returns-clause-least : goal.returns-clause-least
returns-clause-least c =
    let rest : (j : ℕ) → c.args.n % 64 ≤ j → bit_at (get_or c.args.words.now (c.args.n / 64) 0) j ≡ 0 = rw c.word.ensures.word at c.in_default.ensures in
    found_later c.args.words.now c.args.marks.now c.requires.levels.0 c.args.n c.in_ok-next.next c.lowest_bit-bit.result c.requires.levels.1 rest c.in_ok-next.ensures.least
    c.lowest_bit-bit.ensures.place (rw c.word-2.ensures.word at c.lowest_bit-bit.ensures.one) (rw c.word-2.ensures.word at c.lowest_bit-bit.ensures.lowest)
