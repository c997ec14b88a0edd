use Rattle.std.proofs.Common.{◌≡◌, ◌++◌, ◌∙◌, ap, arith, drop, refl, rules, sym, take}
use Rattle.std.proofs.lemmas.List.{take_at}
use Rattle.net.specs.Header.{header}
use Rattle.net.proofs.Keeping.{after_header}
use Rattle.net.proofs.frame.Frame.fill.Goals as goal

pub invariant_of-self : goal.invariant_of-self
unfolding header
invariant_of-self c =
    let was = c.self.invariant in
    let cut : c.truncate.new.self.items ≡ take 12 c.self.inside.room.items = search rules in
    let more : c.extend_from_slice.new.self.items ≡ c.truncate.new.self.items ++ c.args.bytes.now = search rules in
    let whole : c.truncate.new.self.items ≡ header = cut ∙ ap (take 12) was.1 ∙ take_at header (drop 12 c.self.inside.room.items) 12 refl in
    let all : c.extend_from_slice.new.self.items ≡ header ++ c.args.bytes.now = more ∙ ap (λ t. t ++ c.args.bytes.now) whole in
    (omega (arith, was.0, c.truncate.ensures.capacity, c.extend_from_slice.ensures.capacity), all ∙ ap (λ t. header ++ t) (sym (after_header _ _ all)))

pub returns-clause-bytes : goal.returns-clause-bytes
unfolding header
returns-clause-bytes c =
    let was = c.self.invariant in
    let cut : c.truncate.new.self.items ≡ take 12 c.self.inside.room.items = search rules in
    let more : c.extend_from_slice.new.self.items ≡ c.truncate.new.self.items ++ c.args.bytes.now = search rules in
    let whole : c.truncate.new.self.items ≡ header = cut ∙ ap (take 12) was.1 ∙ take_at header (drop 12 c.self.inside.room.items) 12 refl in
    after_header _ _ (more ∙ ap (λ t. t ++ c.args.bytes.now) whole)
