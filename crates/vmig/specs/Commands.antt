-- The command lines of the program, as clap knows them. Only private contracts name these.
use Rattle.std.specs.Prelude.{ℕ, true, List, codes, Some}
use Rattle.clap.specs.Words.{App, Rule, new_app, new_rule, with_rule}
use Rattle.clap.specs.declared.builder.ArgAction.TheVariants.{Set, SetTrue}

-- a file that is to be given
abbrev pub file_argument : List ℕ → Rule
file_argument id = record (new_rule id) { required = true; action = Some Set }

-- an option with a file
abbrev pub file_option : List ℕ → Rule
file_option name = record (new_rule name) { long = Some name; action = Some Set }

-- an option alone
abbrev pub plain_option : List ℕ → Rule
plain_option name = record (new_rule name) { long = Some name; action = Some SetTrue }

-- `run`, the name of a file, the image of a disk, and a stream
abbrev pub run_command : App
run_command = with_rule (with_rule (with_rule (new_app (codes "run")) (file_argument (codes "trace"))) (file_option (codes "disk"))) (file_option (codes "out"))

-- `resume`, the names of two files, the image of a disk, and whether disks may be outside
abbrev pub resume_command : App
resume_command = with_rule (with_rule (with_rule (with_rule (new_app (codes "resume")) (file_argument (codes "stream"))) (file_argument (codes "trace"))) (file_option (codes "disk"))) (plain_option (codes "outside"))

-- `check`, the name of a file, and whether disks may be outside
abbrev pub check_command : App
check_command = with_rule (with_rule (new_app (codes "check")) (file_argument (codes "stream"))) (plain_option (codes "outside"))

-- a verb, and the name of a file
abbrev pub file_command : App
file_command = with_rule (new_app (codes "vmig")) (file_argument (codes "file"))
