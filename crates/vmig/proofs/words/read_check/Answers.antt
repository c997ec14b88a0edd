use Rattle.std.proofs.Common.{ap, List, ℕ, map, codes, ◌∙◌}
use Rattle.clap.specs.Words.{app_of, takes}
use Rattle.vmig.specs.Commands.{check_command}
use Rattle.vmig.specs.Words.{names_outside}
use Rattle.vmig.proofs.TakenWords.{check_finds, flag_is, reads, reads_flag, text_is, some_text}
use Rattle.vmig.proofs.words.read_check.Goals as goal

pub returns-in-Err-clause-memory : goal.returns-in-Err-clause-memory
returns-in-Err-clause-memory c =
    let finds = check_finds (map (λ w. w.now) c.args.words.now) c.requires in
    c.from.ensures (c.in-Err.ensures.passes (ap (λ a. takes a (map (λ w. w.now) c.args.words.now)) c.in_ok-command.ensures ∙ finds.taken.takes))

pub returns-in_default-clause-memory : goal.returns-in_default-clause-memory
returns-in_default-clause-memory c =
    let words : List (List ℕ) = map (λ w. w.now) c.args.words.now in
    let finds = check_finds words c.requires in
    let found = reads c.in-Ok.matches (app_of c.in_ok-command.command) check_command words (codes "stream") c.in_ok-command.ensures finds.taken c.in-Ok.ensures.matches ∙ finds.stream in
    absurd (some_text c.get_str.result _ c.in_default.is (c.get_str.ensures ∙ found))

pub returns-clause-asks : goal.returns-clause-asks
returns-clause-asks c =
    let words : List (List ℕ) = map (λ w. w.now) c.args.words.now in
    let finds = check_finds words c.requires in
    let found = reads c.in-Ok.matches (app_of c.in_ok-command.command) check_command words (codes "stream") c.in_ok-command.ensures finds.taken c.in-Ok.ensures.matches in
    let flag = reads_flag c.in-Ok.matches (app_of c.in_ok-command.command) check_command words (codes "outside") c.in_ok-command.ensures finds.taken c.in-Ok.ensures.matches in (
      c.requires,
      text_is c.get_str.result c.in-Some.stream _ c.in-Some.is (c.get_str.ensures ∙ found ∙ finds.stream),
      flag_is c.get_flag-outside.result (names_outside words) _ (flag ∙ finds.outside) c.get_flag-outside.ensures.value c.get_flag-outside.ensures.other,
    )
