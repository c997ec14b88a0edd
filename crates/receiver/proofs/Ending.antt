-- Whether all of a stream was fed.
use Rattle.receiver.specs.declared.ram_terms.RamTerms.{RamTerms}
use Rattle.std.proofs.Common.{◌≡◌, ℕ, Bool, true, false, List, [], ◌∷◌, ◌++◌, refl, ap, sym, subst, ◌∙◌, append_assoc, append-nil}
use Rattle.std.proofs.lemmas.List.{append_cancel_left}
use Rattle.sha2.specs.Sha256.{sha256}
use Rattle.receiver.specs.Sums.{Summed}
use Rattle.sha2.proofs.Facts256.{length-sha256}
use Rattle.blk.specs.Disk.{DiskState}
use Rattle.guestmem.specs.Number.{IsBytes}
use Rattle.wire.specs.Records.{Record, commit, spelled_record}
use Rattle.wire.specs.Stream.{texts}
use Rattle.receiver.specs.Disks.{sizes_in}
use Rattle.receiver.specs.Opened.{opened_header, said_by}
use Rattle.receiver.specs.Faults.{WaitsHead}
use Rattle.guestmem.specs.Memory.{Memory}
use Rattle.machine.specs.Room.{RoomSeen}
use Rattle.std.specs.Prelude.{Err, Option}
use Rattle.receiver.specs.Calls.{EndsWith, FinishesOrBack}
use Rattle.receiver.specs.Disks.{all_marks_in}
use Rattle.receiver.specs.declared.recv_error.RecvError.{RecvError}
use Rattle.receiver.specs.declared.recv_error.RecvError.TheVariants.{AlreadyFailed, Truncated}
use Rattle.receiver.specs.Fed.{IsKnownIn, IsReadWhole, IsReading}
use Rattle.receiver.specs.Receiving.{HasBeenFed, IsFinish, IsGivenUp, IsKnown, IsPastHead, IsReceiver, ReaderSeen, Received, end_error, place_in, received_with, IsTaken, IsWholeFor, NoNext, has_ended, has_failed}
use Rattle.receiver.specs.declared.intake.Intake.{Intake}
use Rattle.receiver.specs.declared.stage.Stage.{Stage}
use Rattle.receiver.specs.declared.stage.Stage.TheVariants as stages
use Rattle.receiver.proofs.Aligned.{one_opening}
use Rattle.receiver.proofs.Counting.{same_records}
use Rattle.receiver.proofs.Feeding.{true_false}
use Rattle.receiver.proofs.Knowing.{come_of, no_other, whole_come}
use Rattle.receiver.proofs.Streams.{digest_bytes}
use Rattle.receiver.proofs.Working.{commit_text, front_at, front_of}

-- Bytes of which no whole header was read.
pub not_whole_head : (ram : RamTerms) (sizes held : List ℕ) → WaitsHead ram.limits held → ¬ (IsWholeFor ram sizes held)
not_whole_head ram sizes held w h = w.no_header (said_by h.opening) (texts h.before ++ spelled_record (commit (sha256 (opened_header h.opening ++ texts h.before)))) h.front.begins

-- Bytes that go on after the last whole record. Were they whole, their last record would be a whole one that follows.
pub not_whole_reading : (ram : RamTerms) (ds : List DiskState) (read tail bytes : List ℕ) (i : Intake) → IsBytes bytes → bytes ≡ read ++ tail → IsReading ram ds read tail i → ¬ (IsWholeFor ram (sizes_in ds) bytes)
not_whole_reading ram ds read tail bytes i are parts r h =
    let o = r.open_at in
    let sum = sha256 (opened_header h.opening ++ texts h.before) in
    let end = spelled_record (commit sum) in
    let f = front_at r.based (front_of bytes tail o.read parts) in
    let none : NoNext r.opening o.before tail = λ s y g e. o.waits.no_record s y g.spells g.has e in
    let nothing : NoNext h.opening h.before end = λ s y g e. no_other h.opening h.before sum s y g (sym (commit_text sum) ∙ e) in
    let t = one_opening bytes h.opening r.opening (texts h.before ++ end) (texts o.before ++ tail) (h.front.based ∙ sym f.based) h.front.begins f.begins in
    let records : h.before ≡ o.before = same_records ram (sizes_in ds) bytes r.opening h.opening o.before h.before tail end f none h.front nothing in
    let left : texts o.before ++ end ≡ texts o.before ++ tail = ap (λ (x : List Record). texts x ++ end) (sym records) ∙ t.1 in
    let same : end ≡ tail = append_cancel_left (texts o.before) end tail left in
    let whole : bytes ≡ (opened_header h.opening ++ texts h.before) ++ (5 ∷ sum) =
    h.front.begins.whole ∙ sym (append_assoc (opened_header h.opening) (texts h.before) end) ∙ ap (λ (x : List ℕ). (opened_header h.opening ++ texts h.before) ++ x) (commit_text sum) in
    o.waits.no_record (commit sum) [] (length-sha256 (opened_header h.opening ++ texts h.before), digest_bytes (opened_header h.opening ++ texts h.before) sum bytes are whole) tt (sym same ∙ sym (append-nil end))

-- A receiver that has not read the digest was fed no whole stream, and one that has was.
pub not_whole_taken : (ram : RamTerms) (ds : List DiskState) (digest : Summed) (bytes held : List ℕ) (stage : Stage) → IsBytes bytes → has_ended stage ≡ false → IsTaken ram ds digest bytes held stage → ¬ (IsWholeFor ram (sizes_in ds) bytes)
not_whole_taken ram ds digest bytes held stages.Head are not_yet t h =
    let same : bytes ≡ held = t.whole ∙ ap (λ (x : List ℕ). x ++ held) t.known.0 in
    not_whole_head ram (sizes_in ds) held t.known.2 (rw same at h)
not_whole_taken ram ds digest bytes held (stages.Records i) are not_yet t h =
    let known : IsKnownIn false ram ds digest t.front held i = subst (λ (b : Bool). IsKnownIn b ram ds digest t.front held i) not_yet t.known in
    not_whole_reading ram ds t.front held bytes i are t.whole known.1 h
not_whole_taken ram ds digest bytes held stages.Failed are not_yet t h = t.known

pub whole_taken : (ram : RamTerms) (ds : List DiskState) (digest : Summed) (bytes held : List ℕ) (stage : Stage) → has_ended stage ≡ true → IsTaken ram ds digest bytes held stage → IsWholeFor ram (sizes_in ds) bytes
whole_taken ram ds digest bytes held stages.Head done t = absurd cc
whole_taken ram ds digest bytes held (stages.Records i) done t = whole_come ram ds bytes i (come_of ram ds digest bytes held i done t)
whole_taken ram ds digest bytes held stages.Failed done t = absurd cc

pub not_ended : (stage : Stage) → has_failed stage ≡ true → has_ended stage ≡ false
not_ended stages.Head e = refl
not_ended (stages.Records i) e = absurd cc
not_ended stages.Failed e = refl

-- What contracts see of a reader with these fields.
abbrev pub seen_of : RamTerms → List DiskState → Option Memory → Option RoomSeen → Summed → Stage → ReaderSeen
seen_of ram disks aside room digest stage = record { ram = ram; disks = disks; aside = aside; room = room; digest = digest; stage = stage }

-- A receiver that is given back.
pub given_back_as : (r : ReaderSeen) (held : List ℕ) (new : Received) → new.failed ≡ true → new.ram ≡ r.ram → new.disks ≡ r.disks → new.sizes ≡ sizes_in r.disks → new.marks ≡ all_marks_in r.disks → (¬ (IsPastHead r.stage) → new.aside ≡ r.aside) → new.place ≡ place_in r.aside r.stage
    → IsGivenUp (received_with r held) new
given_back_as r held new failed ram disks sizes marks aside place = record { failed = failed; ram = ram; disks = disks; aside = aside; sizes = sizes; marks = marks; place = place }

-- A receiver that has read the digest has come to the end of a whole stream.
pub has_come : (r : ReaderSeen) (held : List ℕ) (room lacking : ℕ) (i : Intake) → IsReceiver r held room lacking → r.stage ≡ stages.Records i → i.ended ≡ true → (front : List ℕ) × IsReadWhole r.ram r.disks front i
has_come r held room lacking i kept is done =
    let some = kept.known (ap has_failed is) in
    let known : IsKnownIn i.ended r.ram r.disks r.digest some.0 held i = subst (λ (stage : Stage). IsKnown r.ram r.disks r.digest some.0 held stage) is some.1 in
    let ended : IsKnownIn true r.ram r.disks r.digest some.0 held i = subst (λ (b : Bool). IsKnownIn b r.ram r.disks r.digest some.0 held i) done known in
    (some.0, ended.1)

-- An end that is refused.
pub ends_refused : {E : Type 0} {why : E → RecvError} {Gives : E → Type 0} (old : Received) (x : E) → ((b : List ℕ) → HasBeenFed old b → IsFinish b (why x)) → why x ≡ end_error old.failed
    → (why x ≡ Truncated → (b : List ℕ) → HasBeenFed old b → ¬ (IsWholeFor old.ram old.sizes b)) → (old.failed ≡ true → why x ≡ AlreadyFailed) → Gives x → EndsWith why Gives old (Err x)
ends_refused old x refused told lacking already back = record {
  arrived = tt;
  received = tt;
  marks = tt;
  based = tt;
  within = tt;
  ram_len = tt;
  fits = tt;
  refused = refused;
  whole = tt;
  told = told;
  lacking = lacking;
  place = tt;
  already = already;
  goes_on = tt;
  back = back;
}

-- The end of a stream that is cut off, and an end after a refusal.
pub ends_cut : (r : ReaderSeen) (held : List ℕ) (back : Received) → has_failed r.stage ≡ false → has_ended r.stage ≡ false → ((b : List ℕ) → HasBeenFed (received_with r held) b → IsFinish b Truncated) → IsGivenUp (received_with r held) back
    → FinishesOrBack (received_with r held) (Err (Truncated, back))
ends_cut r held back on not_yet refused given =
    ends_refused (received_with r held) (Truncated, back) refused (ap end_error (sym on)) (λ is b f. not_whole_taken r.ram r.disks r.digest b held r.stage f.bytes not_yet f.taken) (λ f. absurd (true_false _ f on)) given

pub ends_again : (r : ReaderSeen) (held : List ℕ) (back : Received) → has_failed r.stage ≡ true → IsGivenUp (received_with r held) back → FinishesOrBack (received_with r held) (Err (AlreadyFailed, back))
ends_again r held back failed given =
    ends_refused (received_with r held) (AlreadyFailed, back) (λ b f. absurd (true_false _ failed f.goes_on)) (ap end_error (sym failed)) (λ is. absurd cc) (λ f. refl) given
