use Rattle.std.proofs.Common.{◌≡◌, true, ◌*◌, take}
use Rattle.guestmem.specs.Zeros.{are_zeros}
use Rattle.guestmem.proofs.zero_page.is_zero.Given as goal

-- The blocks so far are zeros.
abbrev pub invariant-loop-block : goal.invariant-loop-block
invariant-loop-block l = are_zeros (take (64 * l.block) l.page) ≡ true
