-- The rounds that ended in what was read, and what a slice is refused for.
use Rattle.std.proofs.Common.{◌≡◌, ℕ, ◌<◌, ◌⊎◌, inl, inr, Bool, true, false, List, [], ◌∷◌, ◌++◌, refl, sym, ap, ◌∙◌, append_assoc, append-nil}
use Rattle.sha2.specs.Sha256.{sha256}
use Rattle.receiver.specs.Sums.{Summed}
use Rattle.wire.specs.Records.{Record, spelled_record}
use Rattle.wire.specs.Stream.{texts, rounds}
use Rattle.blk.specs.Disk.{DiskState}
use Rattle.machine.specs.Seen.{Marks}
use Rattle.receiver.specs.Disks.{MarksRefused, sizes_in}
use Rattle.receiver.specs.Good.{AreGood}
use Rattle.receiver.specs.Faults.{IsFront, Fault}
use Rattle.receiver.specs.Fed.{IsKnownIn}
use Rattle.receiver.specs.declared.intake.Intake.{Intake}
use Rattle.receiver.specs.Receiving.{IsFinish, IsTaken, HasRounds, NoNext, NoFault, RefusesSlice, TellsFault, TellsNow, rounds_in, has_failed}
use Rattle.receiver.specs.declared.stage.Stage.{Stage}
use Rattle.receiver.specs.declared.stage.Stage.TheVariants as stages
use Rattle.receiver.specs.declared.terms.Terms.{Terms}
use Rattle.receiver.specs.declared.ram_terms.RamTerms.{RamTerms}
use Rattle.receiver.specs.declared.recv_error.RecvError.{RecvError}
use Rattle.receiver.specs.declared.recv_error.RecvError.TheVariants as errors
use Rattle.receiver.proofs.Aligned.{LongerRecords, one_opening, records_led, good_spell, next_good}
use Rattle.receiver.proofs.Knowing.{no_other, none_held}
use Rattle.receiver.proofs.Working.{front_at, front_of, commit_text, tells_more}
use Rattle.receiver.specs.Opened.{Opened, said_by, terms_at}

not_longer : (opening : Opened) (before others : List Record) (tail rest : List ℕ) → AreGood opening [] others → NoNext opening before tail → (more : List Record) → others ≡ before ++ more → tail ≡ texts more ++ rest → others ≡ before
unfolding texts
not_longer opening before others tail rest goods none [] all left = all ∙ append-nil before
not_longer opening before others tail rest goods none (r ∷ more) all left =
    absurd (none r (texts more ++ rest) (next_good opening [] before more r (rw all at goods)) (left ∙ append_assoc (spelled_record r) (texts more) rest))

as_long : (opening : Opened) (before others : List Record) (tail rest : List ℕ) → AreGood opening [] before → AreGood opening [] others → NoNext opening before tail → NoNext opening others rest
    → LongerRecords before others tail rest ⊎ LongerRecords others before rest tail → others ≡ before
as_long opening before others tail rest good goods none nothing (inl l) = not_longer opening before others tail rest goods none l.more l.all l.left
as_long opening before others tail rest good goods none nothing (inr l) = sym (not_longer opening others before rest tail good nothing l.more l.all l.left)

-- The whole good records of bytes are the same, wherever they are cut.
pub same_records : (ram : RamTerms) (sizes b : List ℕ) (o p : Opened) (before others : List Record) (tail rest : List ℕ) → IsFront ram sizes b o before tail → NoNext o before tail → IsFront ram sizes b p others rest → NoNext p others rest → others ≡ before
same_records ram sizes b o p before others tail rest f none g nothing =
    let t = one_opening b p o (texts others ++ rest) (texts before ++ tail) (g.based ∙ sym f.based) g.begins f.begins in
    let goods : AreGood o [] others = rw t.0 at g.good in
    let no_next : NoNext o others rest = rw t.0 at nothing in
    as_long o before others tail rest f.good goods none no_next (records_led before others tail rest (good_spell o [] before f.good) (good_spell o [] others goods) (sym t.1))

rounds_by : (ram : RamTerms) (sizes b : List ℕ) (o : Opened) (before : List Record) (tail : List ℕ) (n : ℕ) → IsFront ram sizes b o before tail → NoNext o before tail → n ≡ rounds before → HasRounds ram sizes b n
rounds_by ram sizes b o before tail n f none e = record {
  none = λ never. absurd (never (said_by o) (texts before ++ tail) f.begins);
  some = λ p others rest g nothing. e ∙ ap rounds (sym (same_records ram sizes b o p before others tail rest f none g nothing));
}

rounds_in_intake : (ended : Bool) (ram : RamTerms) (ds : List DiskState) (digest : Summed) (front bytes held : List ℕ) (i : Intake) → bytes ≡ front ++ held → IsKnownIn ended ram ds digest front held i → HasRounds ram (sizes_in ds) bytes i.rounds
rounds_in_intake false ram ds digest front bytes held i parts k =
    let r = k.1 in
    let o = r.open_at in
    rounds_by ram (sizes_in ds) bytes r.opening o.before held i.rounds (front_at r.based (front_of bytes held o.read parts)) (λ r y g e. o.waits.no_record r y g.spells g.has e) o.read.rounds_are
rounds_in_intake true ram ds digest front bytes held i parts k =
    let h = k.1 in
    let w = h.ended in
    let all : bytes ≡ front = parts ∙ none_held front held k.0 in
    let whole : bytes ≡ w.front ++ (5 ∷ sha256 w.front) = all ∙ w.whole ∙ ap (λ (x : List ℕ). w.front ++ x) (commit_text (sha256 w.front)) in
    rounds_by ram (sizes_in ds) bytes h.opening w.before (5 ∷ sha256 w.front) i.rounds (front_at h.based (front_of bytes (5 ∷ sha256 w.front) w.read whole)) (λ r y g e. no_other h.opening w.before (sha256 w.front) r y g e) w.read.rounds_are

pub rounds_known : (ram : RamTerms) (ds : List DiskState) (digest : Summed) (bytes held : List ℕ) (stage : Stage) → IsTaken ram ds digest bytes held stage → HasRounds ram (sizes_in ds) bytes (rounds_in stage)
rounds_known ram ds digest bytes held stages.Head t =
    let same : bytes ≡ held = t.whole ∙ ap (λ (x : List ℕ). x ++ held) t.known.0 in
    rw same (record { none = λ never. refl; some = λ o before tail g none. absurd (t.known.2.no_header (said_by o) (texts before ++ tail) g.begins) })
rounds_known ram ds digest bytes held (stages.Records i) t = rounds_in_intake i.ended ram ds digest t.front bytes held i t.whole t.known
rounds_known ram ds digest bytes held stages.Failed t = absurd t.known

pub none_failed : (stage : Stage) → has_failed stage ≡ true → rounds_in stage ≡ 0
none_failed stages.Head e = refl
none_failed (stages.Records i) e = absurd cc
none_failed stages.Failed e = refl

no_truncation : (ram : RamTerms) (sizes bytes : List ℕ) (at : ℕ) → ¬ (Fault ram sizes bytes errors.Truncated at)
no_truncation ram sizes bytes at (inl h) = h
no_truncation ram sizes bytes at (inr h) = h.fault

pub slice_told : (terms : Terms) (sizes : List ℕ) (marks new : List Marks) (bytes : List ℕ) (e : RecvError) → MarksRefused marks e new → TellsFault (terms_at terms) sizes bytes e → RefusesSlice terms sizes marks bytes e
slice_told terms sizes marks new bytes errors.Truncated m t = absurd (no_truncation (terms_at terms) sizes bytes t.0 t.1)
slice_told terms sizes marks new bytes errors.DiskFailed m t = record { disk = m.disk; unsteady = m.unsteady }
slice_told terms sizes marks new bytes errors.NoMemory m t = tt
slice_told terms sizes marks new bytes _ m t = t

pub slice_cut : (terms : Terms) (sizes : List ℕ) (marks : List Marks) (bytes : List ℕ) (e : RecvError) → IsFinish bytes e → NoFault (terms_at terms) sizes bytes → RefusesSlice terms sizes marks bytes e
slice_cut terms sizes marks bytes errors.Truncated h n = (n, h)
slice_cut terms sizes marks bytes _ h n = absurd h

-- What is told of a first piece is told of the slice.
pub told_at_once : (ram : RamTerms) (sizes bytes : List ℕ) (e : RecvError) → TellsNow ram sizes [] bytes e → TellsFault ram sizes bytes e
told_at_once ram sizes bytes e t = tells_more ((at : ℕ) × (0 < at) × Fault ram sizes bytes e at) ((at : ℕ) × Fault ram sizes bytes e at) e (λ x. (x.0, x.2)) t
