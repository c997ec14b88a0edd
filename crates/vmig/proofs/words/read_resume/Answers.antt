use Rattle.std.proofs.Common.{ap, List, ℕ, map, codes, ◌∙◌}
use Rattle.clap.specs.Words.{app_of, takes}
use Rattle.vmig.specs.Commands.{resume_command}
use Rattle.vmig.specs.Words.{names_outside}
use Rattle.vmig.proofs.TakenWords.{flag_is, resume_finds, reads, reads_flag, text_is, some_text}
use Rattle.vmig.proofs.words.read_resume.Goals as goal

pub returns-in-Err-clause-memory : goal.returns-in-Err-clause-memory
returns-in-Err-clause-memory c =
    let finds = resume_finds (map (λ w. w.now) c.args.words.now) c.requires in
    c.from.ensures (c.in-Err.ensures.passes (ap (λ a. takes a (map (λ w. w.now) c.args.words.now)) c.in_ok-command.ensures ∙ finds.taken.takes))

pub returns-in_default-clause-memory : goal.returns-in_default-clause-memory
returns-in_default-clause-memory c =
    let words : List (List ℕ) = map (λ w. w.now) c.args.words.now in
    let finds = resume_finds words c.requires in
    let found = reads c.in-Ok.matches (app_of c.in_ok-command.command) resume_command words (codes "stream") c.in_ok-command.ensures finds.taken c.in-Ok.ensures.matches ∙ finds.stream in
    absurd (some_text c.get_str.result _ c.in_default.is (c.get_str.ensures ∙ found))

pub returns-in_default-get_str-clause-memory : goal.returns-in_default-get_str-clause-memory
returns-in_default-get_str-clause-memory c =
    let words : List (List ℕ) = map (λ w. w.now) c.args.words.now in
    let finds = resume_finds words c.requires in
    let found = reads c.in-Ok.matches (app_of c.in_ok-command.command) resume_command words (codes "trace") c.in_ok-command.ensures finds.taken c.in-Ok.ensures.matches ∙ finds.trace in
    absurd (some_text c.get_str-2.result _ c.in_default-get_str.is (c.get_str-2.ensures ∙ found))

pub returns-clause-asks : goal.returns-clause-asks
returns-clause-asks c =
    let words : List (List ℕ) = map (λ w. w.now) c.args.words.now in
    let finds = resume_finds words c.requires in
    let found = λ (id : List ℕ). reads c.in-Ok.matches (app_of c.in_ok-command.command) resume_command words id c.in_ok-command.ensures finds.taken c.in-Ok.ensures.matches in
    let flag = reads_flag c.in-Ok.matches (app_of c.in_ok-command.command) resume_command words (codes "outside") c.in_ok-command.ensures finds.taken c.in-Ok.ensures.matches in (
      c.requires,
      text_is c.get_str.result c.in-Some.stream _ c.in-Some.is (c.get_str.ensures ∙ found (codes "stream") ∙ finds.stream),
      text_is c.get_str-2.result c.in-Some-get_str.trace _ c.in-Some-get_str.is (c.get_str-2.ensures ∙ found (codes "trace") ∙ finds.trace),
      c.get_str-image.ensures ∙ found (codes "disk") ∙ finds.image,
      flag_is c.get_flag.result (names_outside words) _ (flag ∙ finds.outside) c.get_flag.ensures.value c.get_flag.ensures.other,
    )
