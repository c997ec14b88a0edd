use Rattle.std.proofs.Common.{rules, ◌≡◌, ◌∷◌, length, take, drop}
use Rattle.receiver.proofs.Closes.{record_by}
use Rattle.receiver.proofs.closing.is_record.Goals as goal

pub returns-then-eq : goal.returns-then-eq
returns-then-eq c =
    let front : c.split_at.result.0.now ≡ take (length c.args.held.now) (5 ∷ c.args.digest.now) = search rules in
    let back : c.split_at.result.1.now ≡ drop (length c.args.held.now) (5 ∷ c.args.digest.now) = search rules in
    let same = record_by (5 ∷ c.args.digest.now) c.args.held.now c.args.last.now c.split_at.result.0.now c.split_at.result.1.now front back in
    (λ t. same.0 (search rules, search rules), λ e. let other : c.args.last.now ≡ c.split_at.result.1.now = (same.1 e).1 in search rules)

pub returns-else-eq : goal.returns-else-eq
returns-else-eq c =
    let front : c.split_at.result.0.now ≡ take (length c.args.held.now) (5 ∷ c.args.digest.now) = search rules in
    let back : c.split_at.result.1.now ≡ drop (length c.args.held.now) (5 ∷ c.args.digest.now) = search rules in
    let same = record_by (5 ∷ c.args.digest.now) c.args.held.now c.args.last.now c.split_at.result.0.now c.split_at.result.1.now front back in
    (λ t. absurd cc, λ e. let other : c.args.held.now ≡ c.split_at.result.0.now = (same.1 e).0 in search rules)
