use Rattle.std.proofs.Common.{rules, ap₂, ◌∙◌}
use Rattle.clap.specs.Words.{with_rule}
use Rattle.vmig.proofs.words.resume_command.Goals as goal

pub returns : goal.returns
returns c =
    let sent = c.in_ok-sent.ensures.shape (search rules) ∙ ap₂ with_rule c.new.ensures.app c.file.ensures.rule in
    let named = c.in_ok-named.ensures.shape (search rules) ∙ ap₂ with_rule sent c.file-2.ensures.rule in
    let over = c.in_ok-over.ensures.shape (search rules) ∙ ap₂ with_rule named c.option.ensures.rule in
    c.in_ok-command.ensures.shape (search rules) ∙ ap₂ with_rule over c.plain_option.ensures.rule
