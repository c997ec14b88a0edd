use Rattle.std.proofs.Common.{◌≡◌, ℕ, ◌+◌, ◌-◌, ◌*◌, ◌/◌, length, drop, refl, ap, arith, ◌∙◌}
use Rattle.std.proofs.lemmas.List.{take_rest}
use Rattle.sha2.specs.Sha256.{initial_hash_256}
use Rattle.sha2.proofs.Absorbing256.{IsAbsorbed_block, IsAbsorbed_none, IsAbsorbed_tail}
use Rattle.c_digest.proofs.digest.Digest.take_blocks.Goals as goal

pub whole-init : goal.whole-init
whole-init c = (
  refl,
  refl,
  omega arith,
  λ message edge held. IsAbsorbed_none initial_hash_256 c.args.self.now.hash c.args.self.now.block message c.args.bytes.now held,
)

pub whole-preserved : goal.whole-preserved
whole-preserved c =
    let next : 64 * (c.whole.n + 1) ≡ 64 * c.whole.n + 64 = omega arith in
    let width : 64 * c.whole.n + 64 - 64 * c.whole.n ≡ 64 = omega arith in (
      c.whole.invariant.0,
      c.whole.invariant.1,
      omega arith,
      λ message edge held.
          rw (c.take_block.ensures, next)
          (IsAbsorbed_block initial_hash_256 c.whole.self.hash c.whole.self.block message c.args.bytes.now _ (64 * c.whole.n) (c.whole.invariant.3 message edge held) (omega arith) (omega arith) (rw width refl)),
    )

pub returns-clause-length : goal.returns-clause-length
returns-clause-length c = c.whole.invariant.0

pub returns-clause-reserved : goal.returns-clause-reserved
returns-clause-reserved c = c.whole.invariant.1

pub returns-clause-taken : goal.returns-clause-taken
returns-clause-taken c = λ message edge held.
    let end : ℕ = 64 * (length c.args.bytes.now / 64) in
    let same : end ≡ 64 * c.whole.n = omega arith in
    IsAbsorbed_tail initial_hash_256 _ c.whole.self.hash c.whole.self.block message c.args.bytes.now _ (64 * c.whole.n) _ (c.whole.invariant.3 message edge held) (omega arith) (omega arith) (omega arith) refl
    (c.copy_from_slice.ensures.after ∙ take_rest c.args.bytes.now end ∙ ap (λ (k : ℕ). drop k c.args.bytes.now) same)
