use Rattle.std.proofs.Common.{◌≡◌, ap, ◌∙◌, rules, arith}
use Rattle.guestmem.specs.Write.{raise}
use Rattle.guestmem.proofs.Raising.{raise_one, raise_behind}
use Rattle.guestmem.proofs.ram.raise_pages.Goals as goal

pub returns-then-first-last : goal.returns-then-first-last
returns-then-first-last c = raise_behind c.args.versions.now c.args.first c.args.last c.raised_version.result c.raise_all.new.versions c.if-first-last.true c.requires.inside (search rules) (search rules)

pub returns-else-first-last : goal.returns-else-first-last
returns-else-first-last c =
    let same : c.args.first ≡ c.args.last = omega arith in
    raise_one c.args.versions.now c.args.first c.raised_version.result (omega arith) (search rules) ∙ ap (raise c.args.versions.now c.args.first) same
