-- The lines of the program, as clap takes them.
use Rattle.std.proofs.Common.{◌≡◌, Option, Some, None, ℕ, List, [], ◌∷◌, ◌&&◌, Bool, true, false, map, find, codes, bytes_eq, if◌then◌else◌, refl, ap, sym, subst, ◌∙◌}
use Rattle.std.specs.Prelude.{slice_get, option_map, option_and_then}
use Rattle.std.specs.Borrow.{Bor}
use Rattle.std.proofs.lemmas.Slice.Eq.{bytes_eq-Decides}
use Rattle.clap.specs.Facts.{Entry}
use Rattle.clap.specs.Words.{App, HasMatchesOf, Row, takes, first_of, first_value, found_of, matches_of, one_text}
use Rattle.clap.specs.Simple.{Shape, argument_words, built, is_simple}
use Rattle.clap.specs.Takes.{settle_passes}
use Rattle.clap.specs.Values.{read_as}
use Rattle.clap.specs.Walk.{Held, Walk, finished, nothing_held, one_of, row_of, row_text}
use Rattle.clap.specs.Walk.Waiting.{idle, option as awaits}
use Rattle.clap.specs.declared.builder.value_parser.Reading.{Reading}
use Rattle.clap.specs.declared.parser.matches.ArgMatches.{ArgMatches}
use Rattle.clap.specs.declared.parser.matches.MatchedArg.{MatchedArg}
use Rattle.clap.proofs.OnLiterals.{clap_on_literals}
use Rattle.vmig.specs.Words.{are_resume_options, are_run_options, behind, is_check_line, is_name, is_option, is_outside_option, is_resume_line, is_run_line, is_verb_and_file, named_file, named_image, named_stream, names_outside, second_file}
use Rattle.vmig.specs.Commands.{check_command, file_command, resume_command, run_command}
use Rattle.vmig.proofs.TakenSteps.{Goes, at_first, does_end, goes_nowhere, goes_on, goes_over_name, is_taken, no_option, rows_are, standing, with_flag, with_option, with_value}

-- Words that clap takes.
pub record IsTaken (app : App) (words : List (List ℕ)) : Type 0 where
  pub simple : is_simple app ≡ true
  pub takes : takes app words ≡ true

-- What clap finds in words of a command: these are the files.
pub record FindsFile (words : List (List ℕ)) : Type 0 where
  pub taken : IsTaken file_command words
  pub file : first_of (codes "file") (matches_of file_command words) ≡ Some (named_file words)

-- the text of an option alone, which is there or not
abbrev pub told_flag : Bool → List ℕ
told_flag is = if is then codes "true" else codes "false"

pub record FindsCheck (words : List (List ℕ)) : Type 0 where
  pub taken : IsTaken check_command words
  pub stream : first_of (codes "stream") (matches_of check_command words) ≡ Some (named_file words)
  pub outside : one_of (codes "outside") (matches_of check_command words) ≡ Some (told_flag (names_outside words))

pub record FindsRun (words : List (List ℕ)) : Type 0 where
  pub taken : IsTaken run_command words
  pub trace : first_of (codes "trace") (matches_of run_command words) ≡ Some (named_file words)
  pub image : first_of (codes "disk") (matches_of run_command words) ≡ named_image words
  pub stream : first_of (codes "out") (matches_of run_command words) ≡ named_stream words

pub record FindsResume (words : List (List ℕ)) : Type 0 where
  pub taken : IsTaken resume_command words
  pub stream : first_of (codes "stream") (matches_of resume_command words) ≡ Some (named_file words)
  pub trace : first_of (codes "trace") (matches_of resume_command words) ≡ Some (second_file words)
  pub image : first_of (codes "disk") (matches_of resume_command words) ≡ named_image words
  pub outside : one_of (codes "outside") (matches_of resume_command words) ≡ Some (told_flag (names_outside words))

-- The arguments of each command, as clap has filled them in.
abbrev file_shape : Shape
file_shape = (built file_command).top

abbrev check_shape : Shape
check_shape = (built check_command).top

abbrev run_shape : Shape
run_shape = (built run_command).top

abbrev resume_shape : Shape
resume_shape = (built resume_command).top

-- An option and its value.
over_disk : (h : Held) (image : List ℕ) (words : List (List ℕ)) (end : Walk) → is_name image ≡ true → settle_passes run_shape.rules false h ≡ true
    → Goes run_shape (standing (with_value run_shape.rules h (codes "disk") image) idle 2) words end → Goes run_shape (standing h idle 2) (codes "--disk" ∷ image ∷ words) end
unfolding clap_on_literals
over_disk h image words end name passes more =
    goes_on run_shape (standing h idle 2) (standing (with_option run_shape.rules h (codes "disk")) (awaits (codes "disk")) 2) (codes "--disk") (image ∷ words) end (rw passes refl) refl
    (goes_over_name run_shape (with_option run_shape.rules h (codes "disk")) (awaits (codes "disk")) 2 image words end name refl more)

into_stream : (h : Held) (stream : List ℕ) (words : List (List ℕ)) (end : Walk) → is_name stream ≡ true → settle_passes run_shape.rules false h ≡ true
    → Goes run_shape (standing (with_value run_shape.rules h (codes "out") stream) idle 2) words end → Goes run_shape (standing h idle 2) (codes "--out" ∷ stream ∷ words) end
unfolding clap_on_literals
into_stream h stream words end name passes more =
    goes_on run_shape (standing h idle 2) (standing (with_option run_shape.rules h (codes "out")) (awaits (codes "out")) 2) (codes "--out") (stream ∷ words) end (rw passes refl) refl
    (goes_over_name run_shape (with_option run_shape.rules h (codes "out")) (awaits (codes "out")) 2 stream words end name refl more)

onto_disk : (h : Held) (image : List ℕ) (words : List (List ℕ)) (end : Walk) → is_name image ≡ true → settle_passes resume_shape.rules false h ≡ true
    → Goes resume_shape (standing (with_value resume_shape.rules h (codes "disk") image) idle 3) words end → Goes resume_shape (standing h idle 3) (codes "--disk" ∷ image ∷ words) end
unfolding clap_on_literals
onto_disk h image words end name passes more =
    goes_on resume_shape (standing h idle 3) (standing (with_option resume_shape.rules h (codes "disk")) (awaits (codes "disk")) 3) (codes "--disk") (image ∷ words) end (rw passes refl) refl
    (goes_over_name resume_shape (with_option resume_shape.rules h (codes "disk")) (awaits (codes "disk")) 3 image words end name refl more)

-- What is held behind the names that stand first.
abbrev with_file : List ℕ → Held
with_file name = with_value file_shape.rules nothing_held (codes "file") name

abbrev with_checked : List ℕ → Held
with_checked name = with_value check_shape.rules nothing_held (codes "stream") name

abbrev with_trace : List ℕ → Held
with_trace name = with_value run_shape.rules nothing_held (codes "trace") name

abbrev with_stream : List ℕ → Held
with_stream name = with_value resume_shape.rules nothing_held (codes "stream") name

abbrev with_both : List ℕ → List ℕ → Held
with_both stream trace = with_value resume_shape.rules (with_stream stream) (codes "trace") trace

-- What clap takes and finds, where it stands so at the end.
finds_file : (words : List (List ℕ)) (end : Walk) → Goes file_shape at_first (argument_words file_command words) end → does_end (built file_command) end ≡ true
    → first_of (codes "file") (finished file_shape.rules end.held) ≡ Some (named_file words) → FindsFile words
finds_file words end goes ends file = record {
  taken = record { simple = refl; takes = is_taken file_command words end refl refl goes ends };
  file = ap (first_of (codes "file")) (rows_are file_command words end refl goes) ∙ file;
}

finds_check : (words : List (List ℕ)) (end : Walk) → Goes check_shape at_first (argument_words check_command words) end → does_end (built check_command) end ≡ true
    → first_of (codes "stream") (finished check_shape.rules end.held) ≡ Some (named_file words) → one_of (codes "outside") (finished check_shape.rules end.held) ≡ Some (told_flag (names_outside words)) → FindsCheck words
finds_check words end goes ends stream outside =
    let rows = rows_are check_command words end refl goes in
    record {
      taken = record { simple = refl; takes = is_taken check_command words end refl refl goes ends };
      stream = ap (first_of (codes "stream")) rows ∙ stream;
      outside = ap (one_of (codes "outside")) rows ∙ outside;
    }

finds_run : (words : List (List ℕ)) (end : Walk) → Goes run_shape at_first (argument_words run_command words) end → does_end (built run_command) end ≡ true
    → first_of (codes "trace") (finished run_shape.rules end.held) ≡ Some (named_file words) → first_of (codes "disk") (finished run_shape.rules end.held) ≡ named_image words
    → first_of (codes "out") (finished run_shape.rules end.held) ≡ named_stream words → FindsRun words
finds_run words end goes ends trace image stream =
    let rows = rows_are run_command words end refl goes in
    record {
      taken = record { simple = refl; takes = is_taken run_command words end refl refl goes ends };
      trace = ap (first_of (codes "trace")) rows ∙ trace;
      image = ap (first_of (codes "disk")) rows ∙ image;
      stream = ap (first_of (codes "out")) rows ∙ stream;
    }

finds_resume : (words : List (List ℕ)) (end : Walk) → Goes resume_shape at_first (argument_words resume_command words) end → does_end (built resume_command) end ≡ true
    → first_of (codes "stream") (finished resume_shape.rules end.held) ≡ Some (named_file words) → first_of (codes "trace") (finished resume_shape.rules end.held) ≡ Some (second_file words)
    → first_of (codes "disk") (finished resume_shape.rules end.held) ≡ named_image words → one_of (codes "outside") (finished resume_shape.rules end.held) ≡ Some (told_flag (names_outside words)) → FindsResume words
finds_resume words end goes ends stream trace image outside =
    let rows = rows_are resume_command words end refl goes in
    record {
      taken = record { simple = refl; takes = is_taken resume_command words end refl refl goes ends };
      stream = ap (first_of (codes "stream")) rows ∙ stream;
      trace = ap (first_of (codes "trace")) rows ∙ trace;
      image = ap (first_of (codes "disk")) rows ∙ image;
      outside = ap (one_of (codes "outside")) rows ∙ outside;
    }

one_file : (word name : List ℕ) → is_name name ≡ true → FindsFile (word ∷ name ∷ [])
unfolding clap_on_literals
one_file word name h =
    let end : Walk = standing (with_file name) idle 2 in
    finds_file (word ∷ name ∷ []) end (goes_over_name file_shape nothing_held idle 1 name [] end h refl (goes_nowhere file_shape end)) refl refl

checks : (word stream : List ℕ) → is_name stream ≡ true → FindsCheck (word ∷ stream ∷ [])
unfolding clap_on_literals
checks word stream h =
    let end : Walk = standing (with_checked stream) idle 2 in
    finds_check (word ∷ stream ∷ []) end (goes_over_name check_shape nothing_held idle 1 stream [] end h refl (goes_nowhere check_shape end)) refl refl refl

checks_outside : (word stream : List ℕ) → is_name stream ≡ true → FindsCheck (word ∷ stream ∷ codes "--outside" ∷ [])
unfolding clap_on_literals
checks_outside word stream h =
    let held : Held = with_checked stream in
    let end : Walk = standing (with_flag check_shape.rules held (codes "outside")) idle 2 in
    finds_check (word ∷ stream ∷ codes "--outside" ∷ []) end
    (goes_over_name check_shape nothing_held idle 1 stream (codes "--outside" ∷ []) end h refl (goes_on check_shape (standing held idle 2) end (codes "--outside") [] end refl refl (goes_nowhere check_shape end))) refl refl refl

-- The words behind the trace, and behind both names of a line of `resume`.
trace_goes : (name : List ℕ) (words : List (List ℕ)) (end : Walk) → is_name name ≡ true → Goes run_shape (standing (with_trace name) idle 2) words end → Goes run_shape at_first (name ∷ words) end
unfolding clap_on_literals
trace_goes name words end h more = goes_over_name run_shape nothing_held idle 1 name words end h refl more

both_go : (stream trace : List ℕ) (words : List (List ℕ)) (end : Walk) → is_name stream ≡ true → is_name trace ≡ true → Goes resume_shape (standing (with_both stream trace) idle 3) words end → Goes resume_shape at_first (stream ∷ trace ∷ words) end
unfolding clap_on_literals
both_go stream trace words end h k more =
    goes_over_name resume_shape nothing_held idle 1 stream (trace ∷ words) end h refl (goes_over_name resume_shape (with_stream stream) idle 2 trace words end k refl more)

runs : (word name : List ℕ) → is_name name ≡ true → FindsRun (word ∷ name ∷ [])
unfolding clap_on_literals behind
runs word name h =
    let end : Walk = standing (with_trace name) idle 2 in
    finds_run (word ∷ name ∷ []) end (trace_goes name [] end h (goes_nowhere run_shape end)) refl refl refl refl

runs_over : (word name image : List ℕ) → is_name name ≡ true → is_name image ≡ true → FindsRun (word ∷ name ∷ codes "--disk" ∷ image ∷ [])
unfolding clap_on_literals behind
runs_over word name image h k =
    let end : Walk = standing (with_value run_shape.rules (with_trace name) (codes "disk") image) idle 2 in
    let other : bytes_eq image (codes "--out") ≡ false = no_option image _ k in
    finds_run (word ∷ name ∷ codes "--disk" ∷ image ∷ []) end (trace_goes name _ end h (over_disk (with_trace name) image [] end k refl (goes_nowhere run_shape end))) refl refl refl (rw other refl)

runs_into : (word name stream : List ℕ) → is_name name ≡ true → is_name stream ≡ true → FindsRun (word ∷ name ∷ codes "--out" ∷ stream ∷ [])
unfolding clap_on_literals behind
runs_into word name stream h k =
    let end : Walk = standing (with_value run_shape.rules (with_trace name) (codes "out") stream) idle 2 in
    let other : bytes_eq stream (codes "--disk") ≡ false = no_option stream _ k in
    finds_run (word ∷ name ∷ codes "--out" ∷ stream ∷ []) end (trace_goes name _ end h (into_stream (with_trace name) stream [] end k refl (goes_nowhere run_shape end))) refl refl (rw other refl) refl

runs_over_into : (word name image stream : List ℕ) → is_name name ≡ true → is_name image ≡ true → is_name stream ≡ true → FindsRun (word ∷ name ∷ codes "--disk" ∷ image ∷ codes "--out" ∷ stream ∷ [])
unfolding clap_on_literals behind
runs_over_into word name image stream h k l =
    let over : Held = with_value run_shape.rules (with_trace name) (codes "disk") image in
    let end : Walk = standing (with_value run_shape.rules over (codes "out") stream) idle 2 in
    let other : bytes_eq image (codes "--out") ≡ false = no_option image _ k in
    finds_run (word ∷ name ∷ codes "--disk" ∷ image ∷ codes "--out" ∷ stream ∷ []) end
    (trace_goes name _ end h (over_disk (with_trace name) image _ end k refl (into_stream over stream [] end l refl (goes_nowhere run_shape end)))) refl refl refl (rw other refl)

resumes : (word stream trace : List ℕ) → is_name stream ≡ true → is_name trace ≡ true → FindsResume (word ∷ stream ∷ trace ∷ [])
unfolding clap_on_literals behind
resumes word stream trace h k =
    let end : Walk = standing (with_both stream trace) idle 3 in
    let other : bytes_eq trace (codes "--disk") ≡ false = no_option trace _ k in
    let plain : bytes_eq trace (codes "--outside") ≡ false = no_option trace _ k in
    finds_resume (word ∷ stream ∷ trace ∷ []) end (both_go stream trace [] end h k (goes_nowhere resume_shape end)) refl refl refl (rw other refl) (rw plain refl)

resumes_over : (word stream trace image : List ℕ) → is_name stream ≡ true → is_name trace ≡ true → is_name image ≡ true → FindsResume (word ∷ stream ∷ trace ∷ codes "--disk" ∷ image ∷ [])
unfolding clap_on_literals behind
resumes_over word stream trace image h k l =
    let end : Walk = standing (with_value resume_shape.rules (with_both stream trace) (codes "disk") image) idle 3 in
    let other : bytes_eq trace (codes "--disk") ≡ false = no_option trace _ k in
    let plain : bytes_eq trace (codes "--outside") ≡ false = no_option trace _ k in
    let none : bytes_eq image (codes "--outside") ≡ false = no_option image _ l in
    finds_resume (word ∷ stream ∷ trace ∷ codes "--disk" ∷ image ∷ []) end (both_go stream trace _ end h k (onto_disk (with_both stream trace) image [] end l refl (goes_nowhere resume_shape end))) refl refl refl (rw other refl) (rw (plain, none) refl)

resumes_outside : (word stream trace : List ℕ) → is_name stream ≡ true → is_name trace ≡ true → FindsResume (word ∷ stream ∷ trace ∷ codes "--outside" ∷ [])
unfolding clap_on_literals behind
resumes_outside word stream trace h k =
    let held : Held = with_both stream trace in
    let end : Walk = standing (with_flag resume_shape.rules held (codes "outside")) idle 3 in
    let other : bytes_eq trace (codes "--disk") ≡ false = no_option trace _ k in
    let plain : bytes_eq trace (codes "--outside") ≡ false = no_option trace _ k in
    finds_resume (word ∷ stream ∷ trace ∷ codes "--outside" ∷ []) end (both_go stream trace _ end h k (goes_on resume_shape (standing held idle 3) end (codes "--outside") [] end refl refl (goes_nowhere resume_shape end))) refl refl refl (rw other refl) (rw plain refl)

resumes_over_outside : (word stream trace image : List ℕ) → is_name stream ≡ true → is_name trace ≡ true → is_name image ≡ true → FindsResume (word ∷ stream ∷ trace ∷ codes "--disk" ∷ image ∷ codes "--outside" ∷ [])
unfolding clap_on_literals behind
resumes_over_outside word stream trace image h k l =
    let held : Held = with_value resume_shape.rules (with_both stream trace) (codes "disk") image in
    let end : Walk = standing (with_flag resume_shape.rules held (codes "outside")) idle 3 in
    let other : bytes_eq trace (codes "--disk") ≡ false = no_option trace _ k in
    let plain : bytes_eq trace (codes "--outside") ≡ false = no_option trace _ k in
    let none : bytes_eq image (codes "--outside") ≡ false = no_option image _ l in
    finds_resume (word ∷ stream ∷ trace ∷ codes "--disk" ∷ image ∷ codes "--outside" ∷ []) end
    (both_go stream trace _ end h k (onto_disk (with_both stream trace) image _ end l refl (goes_on resume_shape (standing held idle 3) end (codes "--outside") [] end refl refl (goes_nowhere resume_shape end)))) refl refl refl (rw other refl) (rw (plain, none) refl)

-- what `get_str` gives is told by the rows
first_of_rows : (id : List ℕ) (entries : List Entry) → option_and_then (λ a. option_map (λ s. s.now) (slice_get a.vals.items 0)) (option_map (λ e. e.1) (find (λ e. bytes_eq e.0.now id) entries))
    ≡ first_of id (map row_of entries)
first_of_rows id [] = refl
first_of_rows id (e ∷ entries) =
    let more = first_of_rows id entries in
    elim (bytes_eq e.0.now id) as (λ b. option_and_then (λ (a : MatchedArg). option_map (λ s. s.now) (slice_get a.vals.items 0)) (option_map (λ (x : Entry). x.1) (if b then Some e else find (λ x. bytes_eq x.0.now id) entries))
    ≡ option_and_then (λ (r : Row). slice_get r.values 0) (if b then Some (row_of e) else find (λ r. bytes_eq r.id id) (map row_of entries))) [
      | true ↦ first_text e.1.vals.items
      | false ↦ more
    ]
  where
    first_text : (values : List (Bor (List ℕ))) → option_map (λ s. s.now) (slice_get values 0) ≡ slice_get (map (λ s. s.now) values) 0
    first_text [] = refl
    first_text (v ∷ values) = refl

-- and so is what `get_flag` reads
one_of_rows : (id : List ℕ) (entries : List Entry) → option_and_then (λ a. option_map (λ s. read_as a.reading s.now) (slice_get a.vals.items 0)) (option_map (λ e. e.1) (find (λ e. bytes_eq e.0.now id) entries))
    ≡ one_of id (map row_of entries)
one_of_rows id [] = refl
one_of_rows id (e ∷ entries) =
    let more = one_of_rows id entries in
    elim (bytes_eq e.0.now id) as (λ b. option_and_then (λ (a : MatchedArg). option_map (λ s. read_as a.reading s.now) (slice_get a.vals.items 0)) (option_map (λ (x : Entry). x.1) (if b then Some e else find (λ x. bytes_eq x.0.now id) entries))
    ≡ option_and_then row_text (if b then Some (row_of e) else find (λ r. bytes_eq r.id id) (map row_of entries))) [
      | true ↦ first_read e.1.reading e.1.vals.items
      | false ↦ more
    ]
  where
    first_read : (how : Reading) (values : List (Bor (List ℕ))) → option_map (λ s. read_as how s.now) (slice_get values 0) ≡ option_map (read_as how) (slice_get (map (λ s. s.now) values) 0)
    first_read how [] = refl
    first_read how (v ∷ values) = refl

pub both : (a b : Bool) → a && b ≡ true → (a ≡ true) × (b ≡ true)
both true true h = (refl, refl)
both true false h = cc
both false b h = cc

pub bytes_same : (a b : List ℕ) → bytes_eq a b ≡ true → a ≡ b
bytes_same a b h = (bytes_eq-Decides a b).0 h

-- A line of the program is taken, and its names are what is found.
pub file_finds : (words : List (List ℕ)) → is_verb_and_file words ≡ true → FindsFile words
file_finds [] h = cc
file_finds (word ∷ []) h = cc
file_finds (word ∷ name ∷ []) h = one_file word name h
file_finds (word ∷ name ∷ more ∷ others) h = cc

-- an option and its name, as they stand
option_is : (named option name : List ℕ) → is_option named (option ∷ name ∷ []) ≡ true → (option ≡ named) × (is_name name ≡ true)
option_is named option name h = let parts = both (bytes_eq option named) (is_name name) h in (bytes_same option named parts.0, parts.1)

-- the options of a run behind a disk
run_over : (word name image : List ℕ) (words : List (List ℕ)) → is_name name ≡ true → is_name image ≡ true → is_option (codes "--out") words ≡ true → FindsRun (word ∷ name ∷ codes "--disk" ∷ image ∷ words)
run_over word name image [] h k o = runs_over word name image h k
run_over word name image (option ∷ []) h k o = cc
run_over word name image (option ∷ stream ∷ []) h k o =
    let is = option_is (codes "--out") option stream o in
    subst (λ (x : List ℕ). FindsRun (word ∷ name ∷ codes "--disk" ∷ image ∷ x ∷ stream ∷ [])) (sym is.0) (runs_over_into word name image stream h k is.1)
run_over word name image (option ∷ stream ∷ more ∷ others) h k o = cc

-- the options of a run that has no disk
run_into : (word name option stream : List ℕ) (words : List (List ℕ)) → is_name name ≡ true → is_option (codes "--out") (option ∷ stream ∷ words) ≡ true → FindsRun (word ∷ name ∷ option ∷ stream ∷ words)
run_into word name option stream [] h o =
    let is = option_is (codes "--out") option stream o in
    subst (λ (x : List ℕ). FindsRun (word ∷ name ∷ x ∷ stream ∷ [])) (sym is.0) (runs_into word name stream h is.1)
run_into word name option stream (more ∷ others) h o = cc

run_with : (is_disk : Bool) (word name option image : List ℕ) (words : List (List ℕ)) → bytes_eq option (codes "--disk") ≡ is_disk → is_name name ≡ true
    → (if is_disk then is_name image && is_option (codes "--out") words else is_option (codes "--out") (option ∷ image ∷ words)) ≡ true → FindsRun (word ∷ name ∷ option ∷ image ∷ words)
run_with true word name option image words disk h o =
    let parts = both (is_name image) (is_option (codes "--out") words) o in
    subst (λ (x : List ℕ). FindsRun (word ∷ name ∷ x ∷ image ∷ words)) (sym (bytes_same option (codes "--disk") disk)) (run_over word name image words h parts.0 parts.1)
run_with false word name option image words disk h o = run_into word name option image words h o

pub run_finds : (words : List (List ℕ)) → is_run_line words ≡ true → FindsRun words
run_finds [] h = cc
run_finds (word ∷ []) h = cc
run_finds (word ∷ name ∷ []) h =
    let front = both (bytes_eq word (codes "run") && is_name name) true h in
    runs word name (both (bytes_eq word (codes "run")) (is_name name) front.0).1
run_finds (word ∷ name ∷ option ∷ []) h = let none = both (bytes_eq word (codes "run") && is_name name) false h in cc
run_finds (word ∷ name ∷ option ∷ image ∷ words) h =
    let parts = both (bytes_eq word (codes "run") && is_name name) (are_run_options (option ∷ image ∷ words)) h in
    run_with (bytes_eq option (codes "--disk")) word name option image words refl (both (bytes_eq word (codes "run")) (is_name name) parts.0).1 parts.1

pub check_finds : (words : List (List ℕ)) → is_check_line words ≡ true → FindsCheck words
check_finds [] h = cc
check_finds (word ∷ []) h = cc
check_finds (word ∷ stream ∷ []) h =
    let names = both (bytes_eq word (codes "check") && is_name stream) true h in
    checks word stream (both (bytes_eq word (codes "check")) (is_name stream) names.0).1
check_finds (word ∷ stream ∷ option ∷ []) h =
    let parts = both (bytes_eq word (codes "check") && is_name stream) (bytes_eq option (codes "--outside")) h in
    subst (λ (x : List ℕ). FindsCheck (word ∷ stream ∷ x ∷ [])) (sym (bytes_same option (codes "--outside") parts.1)) (checks_outside word stream (both (bytes_eq word (codes "check")) (is_name stream) parts.0).1)
check_finds (word ∷ stream ∷ option ∷ more ∷ others) h = let none = both (bytes_eq word (codes "check") && is_name stream) false h in cc

-- the options of an arrival behind a disk
resume_over : (word stream trace image : List ℕ) (words : List (List ℕ)) → is_name stream ≡ true → is_name trace ≡ true → is_name image ≡ true → is_outside_option words ≡ true → FindsResume (word ∷ stream ∷ trace ∷ codes "--disk" ∷ image ∷ words)
resume_over word stream trace image [] h k l o = resumes_over word stream trace image h k l
resume_over word stream trace image (option ∷ []) h k l o =
    subst (λ (x : List ℕ). FindsResume (word ∷ stream ∷ trace ∷ codes "--disk" ∷ image ∷ x ∷ [])) (sym (bytes_same option (codes "--outside") o)) (resumes_over_outside word stream trace image h k l)
resume_over word stream trace image (option ∷ more ∷ others) h k l o = cc

-- the names of a line of `resume`
record AreBoth (stream trace : List ℕ) : Type 0 where
  first : is_name stream ≡ true
  second : is_name trace ≡ true

are_both : (word stream trace : List ℕ) → bytes_eq word (codes "resume") && is_name stream && is_name trace ≡ true → AreBoth stream trace
are_both word stream trace h =
    let front = both (bytes_eq word (codes "resume") && is_name stream) (is_name trace) h in
    record { first = (both (bytes_eq word (codes "resume")) (is_name stream) front.0).1; second = front.1 }

pub resume_finds : (words : List (List ℕ)) → is_resume_line words ≡ true → FindsResume words
unfolding are_resume_options
resume_finds [] h = cc
resume_finds (word ∷ []) h = cc
resume_finds (word ∷ stream ∷ []) h = cc
resume_finds (word ∷ stream ∷ trace ∷ []) h =
    let names = are_both word stream trace (both (bytes_eq word (codes "resume") && is_name stream && is_name trace) true h).0 in
    resumes word stream trace names.first names.second
resume_finds (word ∷ stream ∷ trace ∷ option ∷ []) h =
    let parts = both (bytes_eq word (codes "resume") && is_name stream && is_name trace) (bytes_eq option (codes "--outside")) h in
    let names = are_both word stream trace parts.0 in
    subst (λ (x : List ℕ). FindsResume (word ∷ stream ∷ trace ∷ x ∷ [])) (sym (bytes_same option (codes "--outside") parts.1)) (resumes_outside word stream trace names.first names.second)
resume_finds (word ∷ stream ∷ trace ∷ option ∷ image ∷ words) h =
    let parts = both (bytes_eq word (codes "resume") && is_name stream && is_name trace) (are_resume_options (option ∷ image ∷ words)) h in
    let names = are_both word stream trace parts.0 in
    let over = both (bytes_eq option (codes "--disk") && is_name image) (is_outside_option words) parts.1 in
    let disk = both (bytes_eq option (codes "--disk")) (is_name image) over.0 in
    subst (λ (x : List ℕ). FindsResume (word ∷ stream ∷ trace ∷ x ∷ image ∷ words)) (sym (bytes_same option (codes "--disk") disk.0)) (resume_over word stream trace image words names.first names.second disk.1 over.1)

-- What `get_str` reads of the matches is what stands in the rows.
pub reads : (m : ArgMatches) (app of : App) (words : List (List ℕ)) (id : List ℕ) → app ≡ of → IsTaken of words → HasMatchesOf app words m → first_value (found_of m) id ≡ first_of id (matches_of of words)
reads m app of words id is finds has =
    let rows = (has (ap is_simple is ∙ finds.simple)).0 in
    first_of_rows id (found_of m).entries.items ∙ ap (first_of id) (rows ∙ ap (λ a. matches_of a words) is)

-- What `get_flag` reads of them.
pub reads_flag : (m : ArgMatches) (app of : App) (words : List (List ℕ)) (id : List ℕ) → app ≡ of → IsTaken of words → HasMatchesOf app words m → one_text (found_of m) id ≡ one_of id (matches_of of words)
reads_flag m app of words id is finds has =
    let rows = (has (ap is_simple is ∙ finds.simple)).0 in
    one_of_rows id (found_of m).entries.items ∙ ap (one_of id) (rows ∙ ap (λ a. matches_of a words) is)

pub flag_is : (b wanted : Bool) (o : Option (List ℕ)) → o ≡ Some (told_flag wanted) → (o ≡ Some (codes "true") → b ≡ true) → (o ≡ Some (codes "false") → b ≡ false) → b ≡ wanted
flag_is b true o is true_is false_is = true_is is
flag_is b false o is true_is false_is = false_is is

pub text_is : (o : Option (Bor (List ℕ))) (x : Bor (List ℕ)) (t : List ℕ) → o ≡ Some x → option_map (λ s. s.now) o ≡ Some t → x.now ≡ t
text_is o x t is h = let told : Some x.now ≡ Some t = rw is at h in cc

pub some_text : (o : Option (Bor (List ℕ))) (t : List ℕ) → o ≡ None → option_map (λ s. s.now) o ≡ Some t → ⊥
some_text o t is h = let told : None ≡ Some t = rw is at h in cc
