-- What the program does for its command line: what it writes to standard output, and why it may fail.
use Rattle.std.specs.Prelude.{◌≡◌, ℕ, List, Option, MatchBool}
use Rattle.std.specs.Io.KnownBytes.{Keeps}
use Rattle.traces.specs.Replies.{AppendsBeginning}
use Rattle.vmig.specs.Checking.{IsStreamLine, TellsOfStream}
use Rattle.vmig.specs.Comparing.{AreRehearsedLines, TellsOfRehearsing}
use Rattle.vmig.specs.Faults.{fault_line, status_of}
use Rattle.vmig.specs.Output.{HasDoneFile, FailsOnFile, Silently}
use Rattle.vmig.specs.Playing.{AreLinesOver, TellsOfText}
use Rattle.vmig.specs.Resuming.{AreResumedOver, TellsOfResuming}
use Rattle.vmig.specs.Words.{is_run_line, is_resume_line, is_check_line, is_rehearse_line, named_file, second_file, named_image, named_stream, names_outside}
use Rattle.vmig.specs.declared.fault.Fault.{Fault}
use Rattle.vmig.specs.declared.fault.Fault.TheVariants.{Usage}

-- What the words ask for was done.
abbrev pub HasDone : List (List ℕ) → Option (List ℕ) → Option (List ℕ) → Type 0
HasDone words old new =
    MatchBool (is_run_line words) (HasDoneFile (AreLinesOver (named_image words) (named_stream words)) old new)
    (MatchBool (is_resume_line words) (HasDoneFile (λ text. Silently (AreResumedOver (names_outside words) (named_image words) text)) old new)
    (MatchBool (is_check_line words) (HasDoneFile (λ bytes. Silently (IsStreamLine (names_outside words) bytes)) old new)
    (MatchBool (is_rehearse_line words) (HasDoneFile AreRehearsedLines old new) ⊥)))

-- It failed, and this fault says why.
abbrev pub HasFailed : List (List ℕ) → Option (List ℕ) → Option (List ℕ) → Fault → Type 0
HasFailed words old new fault =
    MatchBool (is_run_line words) (FailsOnFile (named_file words) (TellsOfText (named_image words) (named_stream words)) (AreLinesOver (named_image words) (named_stream words)) old new fault)
    (MatchBool (is_resume_line words) (FailsOnFile (second_file words) (TellsOfResuming (names_outside words) (named_image words) (named_file words)) (λ text. Silently (AreResumedOver (names_outside words) (named_image words) text)) old new fault)
    (MatchBool (is_check_line words) (FailsOnFile (named_file words) (TellsOfStream (names_outside words)) (λ bytes. Silently (IsStreamLine (names_outside words) bytes)) old new fault)
    (MatchBool (is_rehearse_line words) (FailsOnFile (named_file words) TellsOfRehearsing AreRehearsedLines old new fault)
    ((fault ≡ Usage) × Keeps old new))))

-- A fault of this exit status says why, and its line was written to standard error, or a beginning of it.
pub record HasTold (status : ℕ) (Told : Fault → Type 0) (old new : Option (List ℕ)) : Type 0 where
  pub fault : Fault
  pub status_is : status ≡ status_of fault
  pub told : Told fault
  pub written : AppendsBeginning old new (fault_line fault)
