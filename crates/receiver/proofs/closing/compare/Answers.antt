use Rattle.std.proofs.Common.{rules, arith, ◌≡◌, ◌∷◌, ◌++◌, ◌<◌, ◌-◌, length, take, ap, sym, ◌∙◌}
use Rattle.std.proofs.lemmas.List.{length-append}
use Rattle.receiver.proofs.Closes.{first_of, goes_on}
use Rattle.receiver.proofs.closing.compare.Goals as goal

pub returns-then-not-is_record : goal.returns-then-not-is_record
returns-then-not-is_record c =
    let held = c.args.held.now in
    let rest = c.args.rest.now in
    let last : c.split_at.result.0.now ≡ take (33 - length held) rest = search rules in
    record {
      long = omega (arith, c.requires, length-append held rest);
      never = λ e.
          let is : held ++ c.split_at.result.0.now ≡ 5 ∷ c.args.digest.now = ap (λ x. held ++ x) last ∙ sym (first_of held rest (33 - length held) (omega (arith, c.requires))) ∙ e in
          absurd (search rules);
    }

pub returns-then-not-is_empty : goal.returns-then-not-is_empty
returns-then-not-is_empty c =
    let held = c.args.held.now in
    let rest = c.args.rest.now in
    let last : c.split_at.result.0.now ≡ take (33 - length held) rest = search rules in
    let is : held ++ c.split_at.result.0.now ≡ 5 ∷ c.args.digest.now = search rules in
    let some : 0 < length c.split_at.result.1.now = search rules in
    goes_on held rest c.args.digest.now c.split_at.result.1.now (33 - length held) (ap (λ x. held ++ x) (sym last) ∙ is) (search rules) some
