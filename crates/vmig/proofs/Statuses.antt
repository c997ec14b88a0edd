-- Status 2 is that of other words alone.
use Rattle.std.proofs.Common.{◌≡◌, inl, inr, ℕ, Bool, true, false, ◌||◌, List, if◌then◌else◌, Option, Some, None, MatchBool, MatchOption, refl, arith, sym, ap, ◌∙◌}
use Rattle.std.specs.List.{list_any}
use Rattle.machine.specs.declared.new_error.NewError.{NewError}
use Rattle.machine.specs.declared.new_error.NewError.TheVariants as new_error
use Rattle.receiver.specs.declared.recv_error.RecvError.{RecvError}
use Rattle.receiver.specs.declared.recv_error.RecvError.TheVariants as errors
use Rattle.sender.specs.History.{is_fault}
use Rattle.traces.specs.Trace.{Contents}
use Rattle.traces.specs.declared.trace.TraceError.{TraceError}
use Rattle.traces.specs.declared.trace.TraceError.TheVariants as trace_error
use Rattle.vmig.specs.Checking.{IsStreamLine, TellsOfStream}
use Rattle.vmig.specs.Comparing.{AreRehearsedLines, TellsOfRehearsed, TellsOfRehearsing, verdict_ending}
use Rattle.vmig.specs.Faults.{TellsOfFile, TellsOfOutput, shape_fault, status_of, stream_fault, trace_fault}
use Rattle.vmig.specs.Output.{FailsOnFile, Silently}
use Rattle.vmig.specs.Playing.{AreLinesOver, TellsOfBegin, TellsOfContents, TellsOfOut, TellsOfSending, TellsOfText, TellsOver}
use Rattle.vmig.specs.Resuming.{AreResumedOver, TellsOfArrival, TellsOfResuming, TellsOfStreamOver}
use Rattle.vmig.specs.Run.{HasFailed}
use Rattle.vmig.specs.Words.{is_check_line, is_program_line, is_rehearse_line, is_resume_line, is_run_line, named_file, named_image, named_stream, names_outside, second_file}
use Rattle.vmig.specs.declared.comparing.Verdict.{Verdict}
use Rattle.vmig.specs.declared.comparing.Verdict.TheVariants as verdicts
use Rattle.vmig.specs.declared.fault.Fault.{Fault}
use Rattle.vmig.specs.declared.fault.Fault.TheVariants as faults

abbrev pub IsOther : Fault → Type 0
IsOther fault = ¬ (status_of fault ≡ 2)

as_told : (fault of : Fault) → fault ≡ of → IsOther of → IsOther fault
as_told fault of is other two = other (sym (ap status_of is) ∙ two)

of_file : (named : List ℕ) (fault : Fault) → TellsOfFile named fault → IsOther fault
of_file named faults.NoMemory h two = omega (arith, two)
of_file named faults.Usage h two = absurd h
of_file named (faults.File name) h two = omega (arith, two)
of_file named (faults.Line number) h two = absurd h
of_file named (faults.Shape refusal) h two = absurd h
of_file named (faults.Stream refusal) h two = absurd h
of_file named faults.StreamOut h two = absurd h
of_file named faults.NotEqual h two = absurd h

of_output : (fault : Fault) → TellsOfOutput fault → IsOther fault
of_output faults.NoMemory h two = absurd h
of_output faults.Usage h two = absurd h
of_output (faults.File name) h two = omega (arith, two)
of_output (faults.Line number) h two = absurd h
of_output (faults.Shape refusal) h two = absurd h
of_output (faults.Stream refusal) h two = absurd h
of_output faults.StreamOut h two = absurd h
of_output faults.NotEqual h two = absurd h

of_new : (refusal : NewError) → IsOther (shape_fault refusal)
of_new new_error.BadShape two = omega (arith, two)
of_new new_error.DiskMismatch two = omega (arith, two)
of_new new_error.NoMemory two = omega (arith, two)

of_refusal : (found : Option NewError) (fault : Fault) → MatchOption found (fault ≡ faults.NoMemory) (λ refusal. fault ≡ shape_fault refusal) → IsOther fault
of_refusal None fault h = as_told fault faults.NoMemory h (λ two. omega (arith, two))
of_refusal (Some refusal) fault h = as_told fault (shape_fault refusal) h (of_new refusal)

of_begin : (stream : Option (List ℕ)) (c : Contents) (fault : Fault) → TellsOfBegin stream c fault → IsOther fault
of_begin None c fault h = as_told fault (faults.Line c.begin_line) h.1 (λ two. omega (arith, two))
of_begin (Some stream) c fault h = absurd h

of_out : (stream : Option (List ℕ)) (fault : Fault) → TellsOfOut stream fault → IsOther fault
of_out None fault h = absurd h
of_out (Some stream) fault h = of_file stream fault h

of_sending : (stream : Option (List ℕ)) (c : Contents) (sizes : List ℕ) (fault : Fault) → TellsOfSending stream c sizes fault → IsOther fault
of_sending stream c sizes fault (inl h) = of_refusal _ fault h
of_sending stream c sizes fault (inr h) = of_out stream fault h.1

of_over : (image stream : Option (List ℕ)) (c : Contents) (fault : Fault) → TellsOver image stream c fault → IsOther fault
of_over None stream c fault h = of_sending stream c _ fault h
of_over (Some image) stream c fault (inl h) = of_file image fault h
of_over (Some image) stream c fault (inr h) = of_sending stream c _ fault h.1

of_contents : (image stream : Option (List ℕ)) (c : Contents) (fault : Fault) → TellsOfContents image stream c fault → IsOther fault
of_contents image stream c fault (inl h) = of_begin stream c fault h
of_contents image stream c fault (inr h) = of_over image stream c fault h.1

of_line : (refusal : TraceError) → IsOther (trace_fault refusal)
of_line trace_error.NoMemory two = omega (arith, two)
of_line (trace_error.Line number) two = omega (arith, two)

of_text : (image stream : Option (List ℕ)) (text : List ℕ) (fault : Fault) → TellsOfText image stream text fault → IsOther fault
of_text image stream text fault (inl h) = as_told fault (trace_fault h.0) h.2 (of_line h.0)
of_text image stream text fault (inr h) = of_contents image stream h.0 fault h.2

of_bytes : (refusal : RecvError) → IsOther (stream_fault refusal)
of_bytes errors.NoMemory two = omega (arith, two)
of_bytes errors.DiskFailed two = omega (arith, two)
of_bytes errors.Truncated two = omega (arith, two)
of_bytes errors.BadMagic two = omega (arith, two)
of_bytes errors.BadVersion two = omega (arith, two)
of_bytes errors.BadShape two = omega (arith, two)
of_bytes errors.ShapeMismatch two = omega (arith, two)
of_bytes errors.BadTag two = omega (arith, two)
of_bytes errors.BadPage two = omega (arith, two)
of_bytes errors.BadSector two = omega (arith, two)
of_bytes errors.BadRound two = omega (arith, two)
of_bytes errors.BadDevice two = omega (arith, two)
of_bytes errors.BadDigest two = omega (arith, two)
of_bytes errors.Missing two = omega (arith, two)
of_bytes errors.Trailing two = omega (arith, two)
of_bytes errors.AlreadyFailed two = omega (arith, two)

of_stream : (outside : Bool) (bytes : List ℕ) (fault : Fault) → TellsOfStream outside bytes fault → IsOther fault
of_stream outside bytes fault (inl h) = as_told fault faults.NoMemory h (λ two. omega (arith, two))
of_stream outside bytes fault (inr h) = as_told fault (stream_fault h.refusal) h.is (of_bytes h.refusal)

of_arrival : (outside : Bool) (stream sizes : List ℕ) (fault : Fault) {marks : _} → TellsOfArrival outside stream sizes marks fault → IsOther fault
of_arrival outside stream sizes fault (inl h) = of_file stream fault h
of_arrival outside stream sizes fault (inr h) = as_told fault (stream_fault h.refusal) h.is (of_bytes h.refusal)

of_stream_over : (outside : Bool) (image : Option (List ℕ)) (stream : List ℕ) (fault : Fault) → TellsOfStreamOver outside image stream fault → IsOther fault
of_stream_over outside None stream fault h = of_arrival outside stream _ fault h
of_stream_over outside (Some image) stream fault (inl h) = of_file image fault h
of_stream_over outside (Some image) stream fault (inr h) = of_arrival outside stream _ fault h.2

of_resuming : (outside : Bool) (image : Option (List ℕ)) (stream text : List ℕ) (fault : Fault) → TellsOfResuming outside image stream text fault → IsOther fault
of_resuming outside image stream text fault (inl h) = as_told fault (trace_fault h.refusal) h.is (of_line h.refusal)
of_resuming outside image stream text fault (inr h) = of_stream_over outside image stream fault h.2

of_rehearsed : (c : Contents) (fault : Fault) → TellsOfRehearsed c fault → IsOther fault
of_rehearsed c fault h = of_refusal _ fault h

of_rehearsing : (text : List ℕ) (fault : Fault) → TellsOfRehearsing text fault → IsOther fault
of_rehearsing text fault (inl h) = as_told fault (trace_fault h.0) h.2 (of_line h.0)
of_rehearsing text fault (inr h) = of_rehearsed h.0 fault h.2

-- What is told behind a whole output.
told_late : (found : Bool) (fault : Fault) → Some fault ≡ (if found then Some faults.StreamOut else None) → IsOther fault
told_late true fault h = (let is : fault ≡ faults.StreamOut = cc in as_told fault faults.StreamOut is (λ two. omega (arith, two)))
told_late false fault h = cc

behind_lines : (image stream : Option (List ℕ)) (text lines : List ℕ) (fault : Fault) → AreLinesOver image stream text (Some fault) lines → IsOther fault
behind_lines None stream text lines fault h = told_late (list_any is_fault h.replies) fault h.ends
behind_lines (Some image) stream text lines fault h = told_late (list_any is_fault h.replies) fault h.ends

told_by : (verdict : Verdict) (fault : Fault) → Some fault ≡ verdict_ending verdict → IsOther fault
told_by verdicts.Equal fault h = cc
told_by verdicts.Differ fault h = (let is : fault ≡ faults.NotEqual = cc in as_told fault faults.NotEqual is (λ two. omega (arith, two)))
told_by verdicts.NoStop fault h = (let is : fault ≡ faults.NotEqual = cc in as_told fault faults.NotEqual is (λ two. omega (arith, two)))
told_by (verdicts.Refused error) fault h = (let is : fault ≡ stream_fault error = cc in as_told fault (stream_fault error) is (of_bytes error))

of_named_file : (named : List ℕ) (Tells : List ℕ → Fault → Type 0) (IsOutput : List ℕ → Option Fault → List ℕ → Type 0) (old new : Option (List ℕ)) (fault : Fault)
    → ((text : List ℕ) → Tells text fault → IsOther fault) → ((text lines : List ℕ) → IsOutput text (Some fault) lines → IsOther fault) → FailsOnFile named Tells IsOutput old new fault → IsOther fault
of_named_file named Tells IsOutput old new fault early late (inl h) = of_file named fault h.0
of_named_file named Tells IsOutput old new fault early late (inr (text, inl h)) = early text h.0
of_named_file named Tells IsOutput old new fault early late (inr (text, inr (inl h))) = of_output fault h.0
of_named_file named Tells IsOutput old new fault early late (inr (text, inr (inr h))) = late text h.output h.asked

-- The first line of four that the words are, or none.
by_lines : (a b c d : Bool) (A B C D U : Type 0) (fault : Fault) → (A → IsOther fault) → (B → IsOther fault) → (C → IsOther fault) → (D → IsOther fault) → (U → fault ≡ faults.Usage)
    → MatchBool a A (MatchBool b B (MatchBool c C (MatchBool d D U)))
    → (status_of fault ≡ 2 → a || b || c || d ≡ false) × (a || b || c || d ≡ false → status_of fault ≡ 2)
by_lines true b c d A B C D U fault f g k l u h = (λ two. absurd (f h two), λ no. cc)
by_lines false true c d A B C D U fault f g k l u h = (λ two. absurd (g h two), λ no. cc)
by_lines false false true d A B C D U fault f g k l u h = (λ two. absurd (k h two), λ no. cc)
by_lines false false false true A B C D U fault f g k l u h = (λ two. absurd (l h two), λ no. cc)
by_lines false false false false A B C D U fault f g k l u h = (λ two. refl, λ no. ap status_of (u h))

-- It is told exactly where the words are no line of the program.
pub usage_is : (words : List (List ℕ)) (old new : Option (List ℕ)) (fault : Fault) → HasFailed words old new fault → (status_of fault ≡ 2 → is_program_line words ≡ false) × (is_program_line words ≡ false → status_of fault ≡ 2)
usage_is words old new fault h =
    by_lines (is_run_line words) (is_resume_line words) (is_check_line words) (is_rehearse_line words) _ _ _ _ _ fault
    (of_named_file (named_file words) (TellsOfText (named_image words) (named_stream words)) (AreLinesOver (named_image words) (named_stream words)) old new fault
    (λ text. of_text (named_image words) (named_stream words) text fault) (λ text lines. behind_lines (named_image words) (named_stream words) text lines fault))
    (of_named_file (second_file words) (TellsOfResuming (names_outside words) (named_image words) (named_file words)) (λ text. Silently (AreResumedOver (names_outside words) (named_image words) text)) old new fault
    (λ text. of_resuming (names_outside words) (named_image words) (named_file words) text fault) (λ text lines none. absurd none))
    (of_named_file (named_file words) (TellsOfStream (names_outside words)) (λ bytes. Silently (IsStreamLine (names_outside words) bytes)) old new fault
    (λ bytes. of_stream (names_outside words) bytes fault) (λ bytes lines none. absurd none))
    (of_named_file (named_file words) TellsOfRehearsing AreRehearsedLines old new fault
    (λ text. of_rehearsing text fault) (λ text lines lined. told_by lined.verdict fault lined.ends))
    (λ u. u.0) h
