-- How clap goes over the words of a command, one after another.
use Rattle.std.proofs.Common.{◌≡◌, Some, None, ℕ, List, [], ◌∷◌, ◌==◌, ◌&&◌, Bool, true, false, not, bytes_eq, is_some, refl, ap, ◌∙◌}
use Rattle.std.specs.Prelude.{fold}
use Rattle.std.specs.List.{list_all}
use Rattle.clap.specs.Lexer.{long_of, short_of}
use Rattle.clap.specs.Simple.{App, Shape, argument_words, built, entered, is_simple, matches_of, names_of}
use Rattle.clap.specs.Takes.{default_passes, entered_passes, is_valid, settle_passes, step_passes, takes, turn_passes, walk_passes}
use Rattle.clap.specs.Walk.{Held, Rule, Text, Waiting, Walk, after_step, arg_by_long, finished, long_met, nothing_held, plain_word, settled, walk_from, walked}
use Rattle.clap.specs.Walk.Waiting.{idle, option, positional}
use Rattle.vmig.specs.Words.{is_name}

pub not_true : (b : Bool) → not b ≡ true → b ≡ false
not_true true h = cc
not_true false h = refl

-- A name is no option: neither of a letter or a word, nor the one that ends options.
no_end : (name : List ℕ) → is_name name ≡ true → bytes_eq name (45 ∷ 45 ∷ []) ≡ false
no_end [] h = refl
no_end (c ∷ cs) h = let other : (c == 45) ≡ false = not_true (c == 45) h in simp other

no_long : (name : List ℕ) → is_name name ≡ true → long_of name ≡ None
no_long [] h = refl
no_long (c ∷ cs) h = let other : (c == 45) ≡ false = not_true (c == 45) h in simp other

no_short : (name : List ℕ) → is_name name ≡ true → short_of name ≡ None
no_short [] h = refl
no_short (c ∷ cs) h = let other : (c == 45) ≡ false = not_true (c == 45) h in simp other

-- Where clap stands between two words of a command that has no subcommand.
abbrev pub standing : Held → Waiting → ℕ → Walk
standing h waiting position = record { held = h; waiting = waiting; position = position; is_trailing = false; stopped = None }

-- Where it stands behind a name.
abbrev pub behind_name : List Rule → Held → Waiting → ℕ → Text → Walk
behind_name c h waiting position name = after_step c name (standing h waiting position) (plain_word c waiting name h).0 (plain_word c waiting name h).1

name_walked : (c : List Rule) (h : Held) (waiting : Waiting) (position : ℕ) (name : Text) → is_name name ≡ true → walked c [] (standing h waiting position) name ≡ behind_name c h waiting position name
unfolding walked
name_walked c h idle position name is = rw (no_end name is, no_long name is, no_short name is) refl
name_walked c h (option id) position name is = rw (no_end name is, no_long name is, no_short name is) refl
name_walked c h positional position name is = rw (no_end name is, no_long name is, no_short name is) refl

name_passes : (s : Shape) (h : Held) (waiting : Waiting) (position : ℕ) (name : Text) → is_name name ≡ true
    → step_passes s position (plain_word s.rules waiting name h).0 (plain_word s.rules waiting name h).1 ≡ true → turn_passes s [] (standing h waiting position) name ≡ true
name_passes s h idle position name is step = rw (no_end name is, no_long name is, no_short name is) step
name_passes s h (option id) position name is step = rw (no_end name is, no_long name is, no_short name is) step
name_passes s h positional position name is step = rw (no_end name is, no_long name is, no_short name is) step

-- Clap takes these words from here on, and then stands there.
pub record Goes (s : Shape) (from : Walk) (words : List Text) (end : Walk) : Type 0 where
  pub passes : walk_passes s [] from words ≡ true
  pub walks : fold (walked s.rules []) from words ≡ end

pub goes_nowhere : (s : Shape) (from : Walk) → Goes s from [] from
unfolding walk_passes
goes_nowhere s from = record { passes = refl; walks = refl }

pub goes_on : (s : Shape) (from next : Walk) (word : Text) (words : List Text) (end : Walk) → turn_passes s [] from word ≡ true → walked s.rules [] from word ≡ next → Goes s next words end → Goes s from (word ∷ words) end
unfolding walk_passes
goes_on s from next word words end turn step more = record {
  passes = rw (turn, step) more.passes;
  walks = ap (λ (w : Walk). fold (walked s.rules []) w words) step ∙ more.walks;
}

pub goes_over_name : (s : Shape) (h : Held) (waiting : Waiting) (position : ℕ) (name : Text) (words : List Text) (end : Walk) → is_name name ≡ true
    → step_passes s position (plain_word s.rules waiting name h).0 (plain_word s.rules waiting name h).1 ≡ true → Goes s (behind_name s.rules h waiting position name) words end → Goes s (standing h waiting position) (name ∷ words) end
goes_over_name s h waiting position name words end is step more =
    goes_on s (standing h waiting position) (behind_name s.rules h waiting position name) name words end (name_passes s h waiting position name is step) (name_walked s.rules h waiting position name is) more

-- What is left to see at the end of the words.
abbrev pub does_end : App → Walk → Bool
does_end a end = entered_passes a end.stopped && (true && (settle_passes a.top.rules a.top.args_override_self end.held
    && (list_all default_passes a.top.rules && is_valid a.top (finished a.top.rules end.held) (is_some (entered a end.stopped)))))

pub rows_are : (a : App) (words : List Text) (end : Walk) → names_of (built a) ≡ [] → Goes (built a).top (walk_from nothing_held) (argument_words a words) end → matches_of a words ≡ finished (built a).top.rules end.held
rows_are a words end none goes = rw none (ap (λ (w : Walk). finished (built a).top.rules w.held) goes.walks)

pub is_taken : (a : App) (words : List Text) (end : Walk) → names_of (built a) ≡ [] → is_simple a ≡ true → Goes (built a).top (walk_from nothing_held) (argument_words a words) end → does_end (built a) end ≡ true → takes a words ≡ true
is_taken a words end none simple goes ends = rw (none, simple, goes.passes, goes.walks) ends

-- What is held behind the value of an argument: what was held before it is used.
abbrev pub with_value : List Rule → Held → Text → Text → Held
with_value c h id value = record (settled c h) { pending = Some (id, value ∷ []) }

-- Behind an option, its value is waited for.
abbrev pub with_option : List Rule → Held → Text → Held
with_option c h id = record (settled c h) { pending = Some (id, []) }

-- Behind an option alone, which is used at once.
abbrev pub with_flag : List Rule → Held → Text → Held
with_flag c h name = (long_met c (arg_by_long c name) None h).0

-- Behind nothing but the program's name.
abbrev pub at_first : Walk
at_first = standing nothing_held idle 1

-- A name does not begin as an option does.
pub no_option : (name rest : List ℕ) → is_name name ≡ true → bytes_eq name (45 ∷ rest) ≡ false
no_option [] rest h = refl
no_option (c ∷ cs) rest h = let other : (c == 45) ≡ false = not_true (c == 45) h in simp other
