-- What a run of the program does, by its words.
use Rattle.std.proofs.Common.{◌≡◌, inl, ℕ, Bool, true, false, ◌||◌, ◌&&◌, List, [], ◌∷◌, codes, bytes_eq, Option, MatchBool, Result, Ok, Err, OnOk, IfErr, refl, sym, subst, ap, ◌∙◌}
use Rattle.vmig.specs.Checking.{IsStreamLine, TellsOfStream}
use Rattle.vmig.specs.Faults.{TellsOfFile, words_fault}
use Rattle.vmig.specs.Output.{FailsOnFile, HasDoneFile, Silently}
use Rattle.vmig.specs.Playing.{AreLinesOver, TellsOfText}
use Rattle.vmig.specs.Resuming.{AreResumedOver, TellsOfResuming}
use Rattle.vmig.specs.Run.{HasDone, HasFailed}
use Rattle.vmig.specs.Words.{are_resume_options, is_check_line, is_name, is_outside_option, is_program_line, is_rehearse_line, is_resume_line, is_run_line, named_file, named_image, named_stream, names_outside, second_file}
use Rattle.vmig.specs.declared.fault.Fault.{Fault}
use Rattle.vmig.specs.declared.fault.Fault.TheVariants as faults
use Rattle.vmig.specs.declared.words.WordsError.{WordsError}
use Rattle.vmig.specs.declared.words.WordsError.TheVariants as words_error
use Rattle.vmig.proofs.TakenWords.{both, bytes_same}
use Rattle.vmig.proofs.Written.{keeps_same}

when_true : (b : Bool) (A B : Type 0) → b ≡ true → A → MatchBool b A B
when_true true A B h a = a
when_true false A B h a = cc

when_false : (b : Bool) (A B : Type 0) → b ≡ false → B → MatchBool b A B
when_false true A B h x = cc
when_false false A B h x = x

-- A line of `resume` is none of `run`.
no_run : (words : List (List ℕ)) → is_resume_line words ≡ true → is_run_line words ≡ false
no_run [] h = cc
no_run (verb ∷ []) h = cc
no_run (verb ∷ stream ∷ []) h = cc
no_run (verb ∷ stream ∷ trace ∷ words) h =
    let names = both (bytes_eq verb (codes "resume") && is_name stream && is_name trace) (are_resume_options words) h in
    let front = both (bytes_eq verb (codes "resume") && is_name stream) (is_name trace) names.0 in
    let first = both (bytes_eq verb (codes "resume")) (is_name stream) front.0 in
    subst (λ (v : List ℕ). is_run_line (v ∷ stream ∷ trace ∷ words) ≡ false) (sym (bytes_same verb (codes "resume") first.0)) refl

pub run_done : (r : Result (Unit {0}) Fault) (words : List (List ℕ)) (image stream : Option (List ℕ)) (old new : Option (List ℕ)) → is_run_line words ≡ true → image ≡ named_image words → stream ≡ named_stream words
    → OnOk r (HasDoneFile (AreLinesOver image stream) old new) → OnOk r (HasDone words old new)
run_done (Err fault) words image stream old new is one two h = tt
run_done (Ok done) words image stream old new is one two h =
    let P : Option (List ℕ) → Type 0 = λ i. HasDoneFile (AreLinesOver i stream) old new in
    let Q : Option (List ℕ) → Type 0 = λ s. HasDoneFile (AreLinesOver (named_image words) s) old new in
    when_true (is_run_line words) _ _ is (subst Q two (subst P one h))

pub run_failed : (r : Result (Unit {0}) Fault) (words : List (List ℕ)) (name : List ℕ) (image stream : Option (List ℕ)) (old new : Option (List ℕ)) → is_run_line words ≡ true → name ≡ named_file words → image ≡ named_image words → stream ≡ named_stream words
    → IfErr r (FailsOnFile name (TellsOfText image stream) (AreLinesOver image stream) old new) → IfErr r (HasFailed words old new)
run_failed (Ok done) words name image stream old new is file one two h = tt
run_failed (Err fault) words name image stream old new is file one two h =
    let N : List ℕ → Type 0 = λ n. FailsOnFile n (TellsOfText image stream) (AreLinesOver image stream) old new fault in
    let P : Option (List ℕ) → Type 0 = λ i. FailsOnFile (named_file words) (TellsOfText i stream) (AreLinesOver i stream) old new fault in
    let Q : Option (List ℕ) → Type 0 = λ s. FailsOnFile (named_file words) (TellsOfText (named_image words) s) (AreLinesOver (named_image words) s) old new fault in
    when_true (is_run_line words) _ _ is (subst Q two (subst P one (subst N file h)))

pub resume_done : (r : Result (Unit {0}) Fault) (words : List (List ℕ)) (outside : Bool) (image : Option (List ℕ)) (old new : Option (List ℕ)) → is_resume_line words ≡ true → image ≡ named_image words → outside ≡ names_outside words
    → OnOk r (HasDoneFile (λ text. Silently (AreResumedOver outside image text)) old new) → OnOk r (HasDone words old new)
resume_done (Err fault) words outside image old new is one two h = tt
resume_done (Ok done) words outside image old new is one two h =
    let P : Option (List ℕ) → Type 0 = λ i. HasDoneFile (λ text. Silently (AreResumedOver outside i text)) old new in
    let Q : Bool → Type 0 = λ o. HasDoneFile (λ text. Silently (AreResumedOver o (named_image words) text)) old new in
    when_false (is_run_line words) _ _ (no_run words is) (when_true (is_resume_line words) _ _ is (subst Q two (subst P one h)))

pub resume_failed : (r : Result (Unit {0}) Fault) (words : List (List ℕ)) (stream name : List ℕ) (outside : Bool) (image : Option (List ℕ)) (old new : Option (List ℕ)) → is_resume_line words ≡ true → stream ≡ named_file words → name ≡ second_file words → image ≡ named_image words
    → outside ≡ names_outside words → IfErr r (FailsOnFile name (TellsOfResuming outside image stream) (λ text. Silently (AreResumedOver outside image text)) old new) → IfErr r (HasFailed words old new)
resume_failed (Ok done) words stream name outside image old new is first second one two h = tt
resume_failed (Err fault) words stream name outside image old new is first second one two h =
    let S : List ℕ → Type 0 = λ s. FailsOnFile name (TellsOfResuming outside image s) (λ text. Silently (AreResumedOver outside image text)) old new fault in
    let N : List ℕ → Type 0 = λ n. FailsOnFile n (TellsOfResuming outside image (named_file words)) (λ text. Silently (AreResumedOver outside image text)) old new fault in
    let P : Option (List ℕ) → Type 0 = λ i. FailsOnFile (second_file words) (TellsOfResuming outside i (named_file words)) (λ text. Silently (AreResumedOver outside i text)) old new fault in
    let Q : Bool → Type 0 = λ o. FailsOnFile (second_file words) (TellsOfResuming o (named_image words) (named_file words)) (λ text. Silently (AreResumedOver o (named_image words) text)) old new fault in
    when_false (is_run_line words) _ _ (no_run words is) (when_true (is_resume_line words) _ _ is (subst Q two (subst P one (subst N second (subst S first h)))))

-- A line of `check` is none of `run` or `resume`.
no_run_checked : (words : List (List ℕ)) → is_check_line words ≡ true → is_run_line words ≡ false
no_run_checked [] h = cc
no_run_checked (verb ∷ []) h = cc
no_run_checked (verb ∷ stream ∷ words) h =
    let names = both (bytes_eq verb (codes "check") && is_name stream) (is_outside_option words) h in
    let first = both (bytes_eq verb (codes "check")) (is_name stream) names.0 in
    subst (λ (v : List ℕ). is_run_line (v ∷ stream ∷ words) ≡ false) (sym (bytes_same verb (codes "check") first.0)) refl

no_resume : (words : List (List ℕ)) → is_check_line words ≡ true → is_resume_line words ≡ false
no_resume [] h = cc
no_resume (verb ∷ []) h = cc
no_resume (verb ∷ stream ∷ []) h = refl
no_resume (verb ∷ stream ∷ trace ∷ words) h =
    let names = both (bytes_eq verb (codes "check") && is_name stream) (is_outside_option (trace ∷ words)) h in
    let first = both (bytes_eq verb (codes "check")) (is_name stream) names.0 in
    subst (λ (v : List ℕ). is_resume_line (v ∷ stream ∷ trace ∷ words) ≡ false) (sym (bytes_same verb (codes "check") first.0)) refl

pub check_done : (r : Result (Unit {0}) Fault) (words : List (List ℕ)) (outside : Bool) (old new : Option (List ℕ)) → is_check_line words ≡ true → outside ≡ names_outside words
    → OnOk r (HasDoneFile (λ bytes. Silently (IsStreamLine outside bytes)) old new) → OnOk r (HasDone words old new)
check_done (Err fault) words outside old new is one h = tt
check_done (Ok done) words outside old new is one h =
    let P : Bool → Type 0 = λ o. HasDoneFile (λ bytes. Silently (IsStreamLine o bytes)) old new in
    when_false (is_run_line words) _ _ (no_run_checked words is) (when_false (is_resume_line words) _ _ (no_resume words is) (when_true (is_check_line words) _ _ is (subst P one h)))

pub check_failed : (r : Result (Unit {0}) Fault) (words : List (List ℕ)) (name : List ℕ) (outside : Bool) (old new : Option (List ℕ)) → is_check_line words ≡ true → name ≡ named_file words → outside ≡ names_outside words
    → IfErr r (FailsOnFile name (TellsOfStream outside) (λ bytes. Silently (IsStreamLine outside bytes)) old new) → IfErr r (HasFailed words old new)
check_failed (Ok done) words name outside old new is file one h = tt
check_failed (Err fault) words name outside old new is file one h =
    let N : List ℕ → Type 0 = λ n. FailsOnFile n (TellsOfStream outside) (λ bytes. Silently (IsStreamLine outside bytes)) old new fault in
    let P : Bool → Type 0 = λ o. FailsOnFile (named_file words) (TellsOfStream o) (λ bytes. Silently (IsStreamLine o bytes)) old new fault in
    when_false (is_run_line words) _ _ (no_run_checked words is) (when_false (is_resume_line words) _ _ (no_resume words is) (when_true (is_check_line words) _ _ is (subst P one (subst N file h))))

-- The first line of four that the words are, or none.
one_of_four : (a b c d : Bool) (A B C D U : Type 0) → (a || b || c || d ≡ true → A × B × C × D) → (a || b || c || d ≡ false → U) → MatchBool a A (MatchBool b B (MatchBool c C (MatchBool d D U)))
one_of_four true b c d A B C D U f u = (f refl).0
one_of_four false true c d A B C D U f u = (f refl).1
one_of_four false false true d A B C D U f u = (f refl).2
one_of_four false false false true A B C D U f u = (f refl).3
one_of_four false false false false A B C D U f u = u refl

is_one_of_four : (a b c d : Bool) (A B C D : Type 0) → MatchBool a A (MatchBool b B (MatchBool c C (MatchBool d D ⊥))) → a || b || c || d ≡ true
is_one_of_four true b c d A B C D h = refl
is_one_of_four false true c d A B C D h = refl
is_one_of_four false false true d A B C D h = refl
is_one_of_four false false false true A B C D h = refl
is_one_of_four false false false false A B C D h = absurd h

-- Words that were refused.
pub words_failed : (words : List (List ℕ)) (refusal : WordsError) (old : Option (List ℕ)) (fault : Fault) → fault ≡ words_fault refusal → (is_program_line words ≡ false → refusal ≡ words_error.Usage)
    → (is_program_line words ≡ true → refusal ≡ words_error.NoMemory) → HasFailed words old old fault
words_failed words refusal old fault is usage memory =
    one_of_four (is_run_line words) (is_resume_line words) (is_check_line words) (is_rehearse_line words) _ _ _ _ _
    (λ line. let none : fault ≡ faults.NoMemory = is ∙ ap words_fault (memory line) in
    (inl (early (named_file words) none, keeps_same old), inl (early (second_file words) none, keeps_same old), inl (early (named_file words) none, keeps_same old), inl (early (named_file words) none, keeps_same old)))
    (λ line. (is ∙ ap words_fault (usage line), keeps_same old))
  where
    early : (named : List ℕ) → fault ≡ faults.NoMemory → TellsOfFile named fault
    early named none = subst (TellsOfFile named) (sym none) tt

pub done_is_a_line : (words : List (List ℕ)) (old new : Option (List ℕ)) → HasDone words old new → is_program_line words ≡ true
done_is_a_line words old new h = is_one_of_four (is_run_line words) (is_resume_line words) (is_check_line words) (is_rehearse_line words) _ _ _ _ h

-- The refusal of words.
abbrev pub refusal_in : {A : Type 0} → Result A WordsError → WordsError
refusal_in (Ok x) = words_error.Usage
refusal_in (Err refusal) = refusal
