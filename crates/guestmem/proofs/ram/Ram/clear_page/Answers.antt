use Rattle.std.proofs.Common.{◌+◌, ◌*◌, ◌≤◌, List, ℕ, length, sym, ap, ◌∙◌, arith}
use Rattle.guestmem.specs.Zeros.{are_zeros}
use Rattle.guestmem.proofs.Clearing.{clear_same}
use Rattle.guestmem.proofs.ram.Ram.clear_page.Goals as goal

pub returns-then-is_zero : goal.returns-then-is_zero
returns-then-is_zero c =
    let m = c.args.self.now in
    let zeros = ap are_zeros (sym c.page.ensures) ∙ sym c.is_zero.ensures ∙ c.if-is_zero.true in
    let whole : 4096 * c.args.page + 4096 ≤ length m.bytes = omega (arith, c.requires, c.recall.ensures.sound.pages) in
    ap (λ (bytes : List ℕ). record m { bytes = bytes }) (sym (clear_same m.bytes c.args.page whole zeros))
