use Rattle.std.proofs.Common.{◌≡◌, arith, refl, rules}
use Rattle.net.specs.Header.{header}
use Rattle.net.proofs.frame.Frame.new.Goals as goal

pub invariant_of-result : goal.invariant_of-result
unfolding header
invariant_of-result c =
    let all : c.extend_from_slice.new.self.items ≡ header = search rules in
    (omega (arith, c.in_ok-room.ensures.exact, c.extend_from_slice.ensures.capacity), rw all refl)
