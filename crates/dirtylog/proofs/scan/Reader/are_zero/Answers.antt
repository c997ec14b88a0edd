use Rattle.std.proofs.Common.{◌≡◌, ◌-◌, ℕ, take, sym, ◌∙◌, arith, Bool, length, get_or}
use Rattle.std.specs.Prelude.{not, ◌==◌}
use Rattle.std.proofs.lemmas.Bool.{eqb-true}
use Rattle.std.proofs.lemmas.Simd.{none_from_empty_mask, bitmask_splat}
use mir.Syntax.{w64}
use Rattle.dirtylog.proofs.Zeros.{zero_of, chunk_length, in_chunk}
use Rattle.dirtylog.proofs.scan.Reader.are_zero.Goals as goal

pub returns-clause-zero : goal.returns-clause-zero
returns-clause-zero c = λ e k a b.
    let words = c.args.words.now in
    let read = c.read.result.now in
    let mask = eqb-true _ _ e in
    let t : ℕ → ℕ → Bool = λ x y. not (x == y) in
    let long : length read ≡ 8 = rw c.read.ensures.words (chunk_length words c.args.at c.requires.inside) in
    let whole : length (take 8 read) ≡ 8 = chunk_length read 0 (omega (arith, long)) in
    let same = bitmask_splat w64 t (take 8 read) 8 0 whole (omega arith) in
    let zero : get_or read (k - c.args.at) 0 ≡ 0 = zero_of _ (none_from_empty_mask (λ (x : ℕ). t x 0) read 0 8 0 (omega (arith, long)) (sym same ∙ mask) (k - c.args.at) (omega arith) (omega (arith, a, b))) in
    sym (rw c.read.ensures.words (in_chunk words c.args.at k a b)) ∙ zero
