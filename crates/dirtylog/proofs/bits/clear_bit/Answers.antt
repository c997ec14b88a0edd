use Rattle.std.proofs.Common.{◌≡◌, ◌*◌, ◌/◌, ◌%◌, ◌^◌, ℕ, get_or, ap, ◌∙◌, arith}
use Rattle.std.specs.Prelude.{bit_and}
use Rattle.std.specs.Int.{bit_not}
use mir.Syntax.{w64}
use Rattle.dirtylog.proofs.Changed.{with_bit, is_clear, any_default}
use Rattle.dirtylog.proofs.bits.clear_bit.Goals as goal

pub returns : goal.returns
returns c =
    let e : c.index-word.result.now ≡ get_or c.args.words.now.items (c.args.n / 64) 0 = c.index-word.ensures ∙ any_default c.args.words.now.items (c.args.n / 64) _ 0 (omega (arith, c.requires)) in
    with_bit c.args.words.now.items c.args.n _ 0 c.requires (is_clear _ _ (c.args.n % 64) (omega arith) (ap (λ (x : ℕ). bit_and x (bit_not w64 (1 * 2 ^ (c.args.n % 64) % 2 ^ 64))) e))
