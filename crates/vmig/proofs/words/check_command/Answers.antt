use Rattle.std.proofs.Common.{rules, ap₂, ◌∙◌}
use Rattle.clap.specs.Words.{with_rule}
use Rattle.vmig.proofs.words.check_command.Goals as goal

pub returns : goal.returns
returns c =
    let named = c.in_ok-named.ensures.shape (search rules) ∙ ap₂ with_rule c.new.ensures.app c.file.ensures.rule in
    c.in_ok-command.ensures.shape (search rules) ∙ ap₂ with_rule named c.plain_option.ensures.rule
