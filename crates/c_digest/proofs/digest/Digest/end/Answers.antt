use Rattle.std.proofs.Common.{◌≡◌, ℕ, List, ◌*◌, ◌%◌, ◌^◌, length, ap, arith, ◌∙◌}
use Rattle.sha2.specs.Sha256.{digest_bytes, sha256}
use Rattle.c_digest.proofs.Taking.{padded}
use Rattle.c_digest.proofs.digest.Digest.end.Goals as goal

pub returns-clause-digest : goal.returns-clause-digest
unfolding sha256
returns-clause-digest c = λ message held.
    let total : c.args.self.now.length ≡ length message % 2 ^ 64 = held.1 in
    let used : c.args.self.now.length % 64 ≡ length message % 64 = omega arith in
    let bits : c.args.self.now.length * 8 % 2 ^ 64 ≡ length message * 8 % 2 ^ 64 = omega arith in
    let all = c.add-2.ensures _ (c.add.ensures message held) in
    let hash = padded c.add-2.new.self message _ _ all.2 (rw used at c.padding.ensures) (rw bits at c.to_be_bytes.ensures) in
    c.bytes_of-digest.ensures ∙ ap (λ (h : List ℕ). digest_bytes h 8) hash
