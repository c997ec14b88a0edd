-- The words of the program, those after its name.
use Rattle.std.specs.Prelude.{◌≡◌, ℕ, Bool, true, false, ◌==◌, ◌&&◌, ◌||◌, not, if◌then◌else◌, List, [], ◌∷◌, drop, codes, slice_get, Option, None, option_map}
use Rattle.std.specs.Borrow.{Bor}
use Rattle.std.specs.List.{list_any}
use Rattle.std.specs.Str.{bytes_eq}
use Rattle.vmig.specs.declared.words.Request.{Request}
use Rattle.vmig.specs.declared.words.Request.TheVariants.{Run, Resume, Check, Rehearse}

-- a file's name: it does not begin with `-`
abbrev pub is_name : List ℕ → Bool
is_name [] = true
is_name (c ∷ cs) = not (c == 45)

-- an option with the name of a file, or nothing
abbrev pub is_option : List ℕ → List (List ℕ) → Bool
is_option option [] = true
is_option option (word ∷ []) = false
is_option option (word ∷ name ∷ []) = bytes_eq word option && is_name name
is_option option (word ∷ name ∷ more ∷ others) = false

-- --disk IMAGE --out STREAM, of which each may be missing
abbrev pub are_run_options : List (List ℕ) → Bool
are_run_options [] = true
are_run_options (word ∷ []) = false
are_run_options (word ∷ name ∷ words) =
    if bytes_eq word (codes "--disk") then is_name name && is_option (codes "--out") words
    else is_option (codes "--out") (word ∷ name ∷ words)

-- --outside, or nothing
abbrev pub is_outside_option : List (List ℕ) → Bool
is_outside_option [] = true
is_outside_option (word ∷ []) = bytes_eq word (codes "--outside")
is_outside_option (word ∷ more ∷ others) = false

-- --disk IMAGE --outside, of which each may be missing
unfoldable pub are_resume_options : List (List ℕ) → Bool
are_resume_options [] = true
are_resume_options (word ∷ []) = is_outside_option (word ∷ [])
are_resume_options (word ∷ name ∷ words) = bytes_eq word (codes "--disk") && is_name name && is_outside_option words

-- run TRACE [--disk IMAGE] [--out STREAM]
abbrev pub is_run_line : List (List ℕ) → Bool
is_run_line [] = false
is_run_line (verb ∷ []) = false
is_run_line (verb ∷ trace ∷ words) = bytes_eq verb (codes "run") && is_name trace && are_run_options words

-- resume STREAM TRACE [--disk IMAGE] [--outside]
abbrev pub is_resume_line : List (List ℕ) → Bool
is_resume_line [] = false
is_resume_line (verb ∷ []) = false
is_resume_line (verb ∷ stream ∷ []) = false
is_resume_line (verb ∷ stream ∷ trace ∷ words) =
    bytes_eq verb (codes "resume") && is_name stream && is_name trace && are_resume_options words

-- check STREAM [--outside]
abbrev pub is_check_line : List (List ℕ) → Bool
is_check_line [] = false
is_check_line (verb ∷ []) = false
is_check_line (verb ∷ stream ∷ words) = bytes_eq verb (codes "check") && is_name stream && is_outside_option words

-- rehearse TRACE
abbrev pub is_rehearse_line : List (List ℕ) → Bool
is_rehearse_line (verb ∷ trace ∷ []) = bytes_eq verb (codes "rehearse") && is_name trace
is_rehearse_line _ = false

abbrev pub is_program_line : List (List ℕ) → Bool
is_program_line words = is_run_line words || is_resume_line words || is_check_line words || is_rehearse_line words

-- a verb and the name of one file
abbrev pub is_verb_and_file : List (List ℕ) → Bool
is_verb_and_file (verb ∷ name ∷ []) = is_name name
is_verb_and_file _ = false

-- the first file that a line names
abbrev pub named_file : List (List ℕ) → List ℕ
named_file (verb ∷ name ∷ words) = name
named_file _ = []

-- the second file that a line names
abbrev pub second_file : List (List ℕ) → List ℕ
second_file (verb ∷ name ∷ second ∷ words) = second
second_file _ = []

-- The word after an option, if the option is there.
unfoldable pub behind : List ℕ → List (List ℕ) → Option (List ℕ)
behind option [] = None
behind option (word ∷ words) = if bytes_eq word option then slice_get words 0 else behind option words

-- the image of a disk, and the stream, if a line has one
abbrev pub named_image : List (List ℕ) → Option (List ℕ)
named_image words = behind (codes "--disk") (drop 2 words)

abbrev pub named_stream : List (List ℕ) → Option (List ℕ)
named_stream words = behind (codes "--out") (drop 2 words)

-- whether a line has `--outside`
abbrev pub names_outside : List (List ℕ) → Bool
names_outside words = list_any (λ word. bytes_eq word (codes "--outside")) (drop 2 words)

-- the text of an optional name
abbrev pub name_in : Option (Bor (List ℕ)) → Option (List ℕ)
name_in = option_map (λ name. name.now)

-- The words ask for this request.
abbrev pub Asks : List (List ℕ) → Request → Type 0
Asks words (Run trace image stream) = (is_run_line words ≡ true) × (trace.now ≡ named_file words) × (name_in image ≡ named_image words) × (name_in stream ≡ named_stream words)
Asks words (Resume stream trace image outside) = (is_resume_line words ≡ true) × (stream.now ≡ named_file words) × (trace.now ≡ second_file words) × (name_in image ≡ named_image words) × (outside ≡ names_outside words)
Asks words (Check stream outside) = (is_check_line words ≡ true) × (stream.now ≡ named_file words) × (outside ≡ names_outside words)
Asks words (Rehearse trace) = (is_rehearse_line words ≡ true) × (trace.now ≡ named_file words)
