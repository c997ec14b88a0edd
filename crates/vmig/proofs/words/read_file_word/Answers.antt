use Rattle.std.proofs.Common.{ap, List, ℕ, map, codes, ◌∙◌}
use Rattle.clap.specs.Words.{app_of, takes}
use Rattle.vmig.specs.Commands.{file_command}
use Rattle.vmig.proofs.TakenWords.{file_finds, reads, text_is, some_text}
use Rattle.vmig.proofs.words.read_file_word.Goals as goal

pub returns-in-Err-clause-memory : goal.returns-in-Err-clause-memory
returns-in-Err-clause-memory c =
    let finds = file_finds (map (λ w. w.now) c.args.words.now) c.requires in
    c.from.ensures (c.in-Err.ensures.passes (ap (λ a. takes a (map (λ w. w.now) c.args.words.now)) c.in_ok-command.ensures ∙ finds.taken.takes))

pub returns-in-Some-clause-named : goal.returns-in-Some-clause-named
returns-in-Some-clause-named c =
    let words : List (List ℕ) = map (λ w. w.now) c.args.words.now in
    let finds = file_finds words c.requires in
    let found = reads c.in-Ok.matches (app_of c.in_ok-command.command) file_command words (codes "file") c.in_ok-command.ensures finds.taken c.in-Ok.ensures.matches ∙ finds.file in
    text_is c.get_str.result c.in-Some.name _ c.in-Some.is (c.get_str.ensures ∙ found)

pub returns-clause-memory : goal.returns-clause-memory
returns-clause-memory c =
    let words : List (List ℕ) = map (λ w. w.now) c.args.words.now in
    let finds = file_finds words c.requires in
    let found = reads c.in-Ok.matches (app_of c.in_ok-command.command) file_command words (codes "file") c.in_ok-command.ensures finds.taken c.in-Ok.ensures.matches ∙ finds.file in
    absurd (some_text c.get_str.result _ c.in-None.is (c.get_str.ensures ∙ found))
