use Rattle.std.proofs.Common.{◌∙◌, sym}
use Rattle.std.proofs.lemmas.Bool.{eqb-true, eq-eqb}
use Rattle.receiver.proofs.Named.{all_counted, count_of_all}
use Rattle.receiver.proofs.intake.is_named.Goals as goal

pub returns : goal.returns
returns c = (
  λ same. all_counted c.args.named.now (sym c.count.ensures ∙ eqb-true c.count.result c.len.result same ∙ c.len.ensures),
  λ all. eq-eqb c.count.result c.len.result (c.count.ensures ∙ count_of_all c.args.named.now all ∙ sym c.len.ensures),
)
