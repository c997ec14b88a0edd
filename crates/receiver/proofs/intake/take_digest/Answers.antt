use Rattle.std.proofs.Common.{arith, refl, rules, ◌≡◌, length, take}
use Rattle.sha2.specs.Sha256.{sha256}
use Rattle.wire.specs.declared.record_head.RecordHead.TheVariants as heads
use Rattle.receiver.proofs.Lists.{not_both_ways}
use Rattle.receiver.proofs.Standing.{body_waits, digest_refused, digest_there, ended_on, sized_on}
use Rattle.receiver.proofs.intake.take_digest.Goals as goal

pub returns-then-behind-lt-DIGEST_LEN-clause-closed : goal.returns-then-behind-lt-DIGEST_LEN-clause-closed
returns-then-behind-lt-DIGEST_LEN-clause-closed g c = λ ds front tail opening before are d h o can. (h, body_waits opening before tail c.args.behind.now heads.Commit are o tt (omega arith))

pub returns-then-not-is_digest-clause-closed : goal.returns-then-not-is_digest-clause-closed
returns-then-not-is_digest-clause-closed g c = λ ds front tail opening before are d h o can.
    let digest : c.split_at.result.0.now ≡ take 32 c.args.behind.now = search rules in
    let many : length c.split_at.result.0.now ≡ 32 = search rules in (
      refl,
      digest_refused opening before tail c.args.behind.now o (rw digest at many)
          (λ same. not_both_ways c.is_digest.result ((c.is_digest.ensures.is front d can).1 (rw (digest, same, ← h.whole) refl)) c.if-not-is_digest.true),
    )

pub returns-clause-closed : goal.returns-clause-closed
returns-clause-closed g c = λ ds front tail opening before are d h o can.
    let digest : c.split_at.result.0.now ≡ take 32 c.args.behind.now = search rules in
    let same : take 32 c.args.behind.now ≡ sha256 front = rw digest at ((c.is_digest.ensures.is front d can).0 (search rules)) in
    (ended_on ds opening before c.args.intake.now _ front h, digest_there opening before tail c.args.behind.now o (rw h.whole at same))

pub returns-clause-sized : goal.returns-clause-sized
returns-clause-sized g c = sized_on c.args.intake.now _ c.requires.sized refl refl refl refl refl c.requires.sized.roomy
