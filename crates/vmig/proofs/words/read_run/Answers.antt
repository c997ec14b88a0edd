use Rattle.std.proofs.Common.{ap, List, ℕ, map, codes, ◌∙◌}
use Rattle.clap.specs.Words.{app_of, takes}
use Rattle.vmig.specs.Commands.{run_command}
use Rattle.vmig.proofs.TakenWords.{run_finds, reads, text_is, some_text}
use Rattle.vmig.proofs.words.read_run.Goals as goal

pub returns-in-Err-clause-memory : goal.returns-in-Err-clause-memory
returns-in-Err-clause-memory c =
    let finds = run_finds (map (λ w. w.now) c.args.words.now) c.requires in
    c.from.ensures (c.in-Err.ensures.passes (ap (λ a. takes a (map (λ w. w.now) c.args.words.now)) c.in_ok-command.ensures ∙ finds.taken.takes))

pub returns-in-Some-clause-asks : goal.returns-in-Some-clause-asks
returns-in-Some-clause-asks c =
    let words : List (List ℕ) = map (λ w. w.now) c.args.words.now in
    let finds = run_finds words c.requires in
    let found = λ (id : List ℕ). reads c.in-Ok.matches (app_of c.in_ok-command.command) run_command words id c.in_ok-command.ensures finds.taken c.in-Ok.ensures.matches in (
      c.requires,
      text_is c.get_str.result c.in-Some.trace _ c.in-Some.is (c.get_str.ensures ∙ found (codes "trace") ∙ finds.trace),
      c.get_str-in-Some.ensures ∙ found (codes "disk") ∙ finds.image,
      c.get_str-in-Some-2.ensures ∙ found (codes "out") ∙ finds.stream,
    )

pub returns-clause-memory : goal.returns-clause-memory
returns-clause-memory c =
    let words : List (List ℕ) = map (λ w. w.now) c.args.words.now in
    let finds = run_finds words c.requires in
    let found = reads c.in-Ok.matches (app_of c.in_ok-command.command) run_command words (codes "trace") c.in_ok-command.ensures finds.taken c.in-Ok.ensures.matches ∙ finds.trace in
    absurd (some_text c.get_str.result _ c.in-None.is (c.get_str.ensures ∙ found))
