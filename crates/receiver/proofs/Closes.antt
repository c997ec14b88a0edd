-- The record of the digest, where a digest is told.
use Rattle.std.proofs.Common.{◌≡◌, ◌≢◌, ℕ, ◌+◌, ◌<◌, ◌≤◌, ◌⊎◌, inl, inr, Bool, true, false, List, [], ◌∷◌, ◌++◌, length, take, drop, refl, sym, ap, subst, ◌∙◌, append_assoc, append-nil, arith}
use Rattle.std.specs.Prelude.{◌↔◌, Option, Result, Ok, Err}
use Rattle.std.proofs.lemmas.Bool.{cases_lt}
use Rattle.std.proofs.lemmas.List.{length-append, length-take, take-append-drop}
use Rattle.std.proofs.Math.Seq.{take-append-add, take-append_seam, drop-append_seam}
use Rattle.sha2.specs.Sha256.{sha256}
use Rattle.guestmem.specs.Number.{IsBytes}
use Rattle.guestmem.proofs.ByteLaws.{IsBytes-append, IsBytes-drop, IsBytes-take}
use Rattle.wire.specs.Records.{Record, commit, spelled_record}
use Rattle.wire.specs.Stream.{texts}
use Rattle.wire.specs.declared.record_head.RecordHead.TheVariants as heads
use Rattle.wire.proofs.Spelling.{head_same}
use Rattle.blk.specs.Disk.{DiskState}
use Rattle.guestmem.specs.Memory.{Memory}
use Rattle.machine.specs.Room.{RoomSeen}
use Rattle.machine.specs.Seen.{Marks}
use Rattle.receiver.specs.Calls.{Feeds, IsDue}
use Rattle.receiver.specs.Closing.{ClosesOnTrust, Compares, Finds, GoOn, HasAll, MayEnd, ended_at}
use Rattle.receiver.specs.Disks.{MarksRefused, all_marks_in, sizes_in}
use Rattle.receiver.specs.Faults.{Fault, IsFault, MayTag, Opens}
use Rattle.receiver.specs.Fed.{HasRead, IsKnownIn, IsReadWhole, IsReading, Waits}
use Rattle.receiver.specs.Laws.{IsWant}
use Rattle.receiver.specs.Opened.{Opened, opened_header}
use Rattle.receiver.specs.Reading.{IsReader, place_of}
use Rattle.receiver.specs.Receiving.{HasBeenFed, HasHeaderFor, IsGivenUp, IsKnown, IsPastHead, IsReceiver, IsTaken, MayTouch, ReaderSeen, Received, TellsFault, has_ended, has_failed, place_in, reads_in, received_with}
use Rattle.receiver.specs.Standing.{OpensHead}
use Rattle.receiver.specs.Sums.{IsTold, NotFive, Summed, Sums, own, past_of, told}
use Rattle.receiver.specs.declared.intake.Intake.{Intake}
use Rattle.receiver.specs.declared.ram_terms.RamTerms.{RamTerms}
use Rattle.receiver.specs.declared.recv_error.RecvError.{RecvError}
use Rattle.receiver.specs.declared.recv_error.RecvError.TheVariants as errors
use Rattle.receiver.specs.declared.stage.Stage.{Stage}
use Rattle.receiver.specs.declared.stage.Stage.TheVariants as stages
use Rattle.receiver.proofs.Aligned.{not_early}
use Rattle.receiver.proofs.Feeding.{fed_on, is_receiver, told_more, true_false}
use Rattle.receiver.proofs.Knowing.{no_fault_known}
use Rattle.receiver.proofs.Standing.{body_waits, ended_on, sized_on}
use Rattle.receiver.proofs.Steps.{all_named, devices_are, named_all}
use Rattle.receiver.proofs.Untouched.{header_on, known_header, may_touch, same_again}
use Rattle.receiver.proofs.Working.{commit_text, fault_here, kept, refused_kept, tells}

-- The bytes that were fed are one list.
past_is : (d : Summed) (front : List ℕ) → IsTold d → Sums d front → front ≡ past_of d
unfolding Sums
past_is (own s) front is h = absurd is
past_is (told past) front is h = h

pub fed_is : (ram : RamTerms) (ds : List DiskState) (d : Summed) (b held : List ℕ) (stage : Stage) → IsTold d → has_ended stage ≡ false → IsTaken ram ds d b held stage → b ≡ past_of d ++ held
fed_is ram ds d b held stages.Head is on t = t.whole ∙ ap (λ (x : List ℕ). x ++ held) (t.known.0 ∙ past_is d [] is t.known.1)
fed_is ram ds d b held (stages.Records i) is on t =
    let known : IsKnownIn false ram ds d t.front held i = subst (λ (e : Bool). IsKnownIn e ram ds d t.front held i) on t.known in
    t.whole ∙ ap (λ (x : List ℕ). x ++ held) (past_is d t.front is known.0)
fed_is ram ds d b held stages.Failed is on t = absurd t.known

-- One part of the record behind the other.
pub record_by : (bytes held last front back : List ℕ) → front ≡ take (length held) bytes → back ≡ drop (length held) bytes → ((held ≡ front) × (last ≡ back)) ↔ (held ++ last ≡ bytes)
record_by bytes held last front back at behind = (
  λ same. ap (λ (x : List ℕ). x ++ last) (same.0 ∙ at) ∙ ap (λ (x : List ℕ). take (length held) bytes ++ x) (same.1 ∙ behind) ∙ take-append-drop (length held) bytes,
  λ is. (sym (take-append_seam held last) ∙ ap (take (length held)) is ∙ sym at, sym (drop-append_seam held last) ∙ ap (drop (length held)) is ∙ sym behind),
)

pub first_of : (held rest : List ℕ) (lacking : ℕ) → length held + lacking ≡ 33 → take 33 (held ++ rest) ≡ held ++ take lacking rest
first_of held rest lacking many = subst (λ (n : ℕ). take n (held ++ rest) ≡ held ++ take lacking rest) many (take-append-add held rest lacking)

pub goes_on : (held rest digest behind : List ℕ) (lacking : ℕ) → held ++ take lacking rest ≡ 5 ∷ digest → behind ≡ drop lacking rest → 0 < length behind → GoOn digest (held ++ rest)
goes_on held rest digest [] lacking is at some = absurd (omega (arith, some))
goes_on held rest digest (byte ∷ more) lacking is at some = record {
  byte = byte;
  more = more;
  whole = ap (λ (x : List ℕ). held ++ x) (sym (take-append-drop lacking rest)) ∙ sym (append_assoc held (take lacking rest) (drop lacking rest)) ∙ ap (λ (x : List ℕ). x ++ drop lacking rest) is ∙ ap (λ (x : List ℕ). 5 ∷ (digest ++ x)) (sym at);
}

-- Bytes that are held and begin with the tag.
pub front_five : (held rest more : List ℕ) → 0 < length held → held ++ rest ≡ 5 ∷ more → (others : List ℕ) × (held ≡ 5 ∷ others)
front_five [] rest more some is = absurd (omega (arith, some))
front_five (x ∷ xs) rest more some is = (xs, ap (λ (t : ℕ). t ∷ xs) (head_same is))

pub begun : (is_begun : Bool) (bytes more : List ℕ) → (is_begun ≡ false → NotFive bytes) → bytes ≡ 5 ∷ more → is_begun ≡ true
begun true bytes more never is = refl
begun false bytes more never is = absurd (never refl more is)

-- The tag may come in each version.
five_may : (version count devices : ℕ) → MayTag version count devices 5
five_may version count devices = record { least = omega arith; most = omega arith; early = λ low. absurd (not_early 5 (omega arith) (omega arith) low); missing = λ four. absurd (omega (arith, four)); since = λ six. absurd (omega (arith, six)) }

-- The record may come.
opens_close : {ds : List DiskState} {opening : Opened} {before : List Record} {i : Intake} {front : List ℕ} (tail more : List ℕ) → HasRead ds opening before i front → HasAll i → tail ≡ 5 ∷ more → Opens opening before tail 5 more
opens_close {opening = opening} tail more h all is = record {
  whole = is;
  may = five_may opening.version _ _;
  complete = λ late. record { items = named_all h all.items; devices = λ five. omega (arith, devices_are h, ap length h.shapes_are, all.devices) };
}

opens_head : {ds : List DiskState} {opening : Opened} {before : List Record} {i : Intake} {front : List ℕ} (tail more : List ℕ) → HasRead ds opening before i front → HasAll i → tail ≡ 5 ∷ more → OpensHead opening before tail heads.Commit more
opens_head tail more h all is = record { tag = 5; more = more; opens = opens_close tail more h all is; fits = tt; whole = is }

-- It comes too early.
missing_here : {ds : List DiskState} {opening : Opened} {before : List Record} {i : Intake} {front : List ℕ} (tail more : List ℕ) → HasRead ds opening before i front → ¬ (HasAll i) → tail ≡ 5 ∷ more → (place : ℕ) × IsFault opening before tail errors.Missing place
missing_here {opening = opening} {i = i} tail more h never is = (
  1,
  record {
    tag = 5;
    more = more;
    whole = is;
    may = five_may opening.version _ _;
    late = (omega arith, omega arith);
    never = λ complete. never (record { items = all_named h complete.items; devices = omega (arith, complete.devices refl, devices_are h, ap length h.shapes_are) });
    there = refl;
  },
)

-- It has another digest.
digest_differs : {ds : List DiskState} {opening : Opened} {before : List Record} {i : Intake} {front : List ℕ} (tail more digest : List ℕ) → HasRead ds opening before i front → HasAll i → tail ≡ 5 ∷ more → digest ≡ sha256 front → Compares digest tail (Err errors.BadDigest)
    → (place : ℕ) × IsFault opening before tail errors.BadDigest place
digest_differs {opening = opening} {before = before} tail more digest h all is same c =
    let other : tail ≡ 5 ∷ (take 32 more ++ drop 32 more) = is ∙ ap (λ (x : List ℕ). 5 ∷ x) (sym (take-append-drop 32 more)) in
    let first : take 33 tail ≡ 5 ∷ take 32 more = ap (take 33) is in (
      33,
      record {
        digest = take 32 more;
        more = drop 32 more;
        opens = opens_close tail (take 32 more ++ drop 32 more) h all other;
        long = omega (arith, length-take 32 more, ap length is, c.long);
        never = λ e. c.never (first ∙ ap (λ (x : List ℕ). 5 ∷ x) (e ∙ ap sha256 (sym h.whole) ∙ sym same));
        there = refl;
      },
    )

-- Something is behind it.
trails : {ds : List DiskState} {opening : Opened} {before : List Record} {i : Intake} {front : List ℕ} (tail digest : List ℕ) → HasRead ds opening before i front → HasAll i → digest ≡ sha256 front → Compares digest tail (Err errors.Trailing)
    → (place : ℕ) × IsFault opening before tail errors.Trailing place
trails {opening = opening} {before = before} tail digest h all same c =
    let sum = sha256 (opened_header opening ++ texts before) in
    let text : tail ≡ 5 ∷ (sum ++ (c.byte ∷ c.more)) = c.whole ∙ ap (λ (x : List ℕ). 5 ∷ (x ++ (c.byte ∷ c.more))) (same ∙ ap sha256 h.whole) in
    (34, record { byte = c.byte; more = c.more; opens = opens_close tail (sum ++ (c.byte ∷ c.more)) h all text; there = refl })

-- What is refused, by the right digest, is a fault. So is what comes too early, whatever was told.
fault_found : {ds : List DiskState} {opening : Opened} {before : List Record} {i : Intake} {front : List ℕ} (tail more digest : List ℕ) (e : RecvError) → HasRead ds opening before i front → tail ≡ 5 ∷ more → (e ≢ errors.Missing → digest ≡ sha256 front)
    → Finds (stages.Records i) digest tail (Err e) → (place : ℕ) × IsFault opening before tail e place
fault_found tail more digest errors.Missing h is same f = missing_here tail more h f is
fault_found tail more digest errors.BadDigest h is same f = digest_differs tail more digest h f.0 is (same (λ no. cc)) f.1
fault_found tail more digest errors.Trailing h is same f = trails tail digest h f.0 (same (λ no. cc)) f.1
fault_found tail more digest _ h is same f = absurd f.1

pub found_by : (stage : Stage) (digest bytes : List ℕ) (found : Result Bool RecvError) → MayEnd stage → Compares digest bytes found → Finds stage digest bytes found
found_by stage digest bytes (Ok closes) all c = (all, c)
found_by stage digest bytes (Err errors.Missing) all c = absurd c
found_by stage digest bytes (Err _) all c = (all, c)

-- It is no want of memory, and no failure of a disk.
no_want : (stage : Stage) (digest bytes : List ℕ) (e : RecvError) → Finds stage digest bytes (Err e) → ¬ (IsWant e)
no_want stage digest bytes errors.NoMemory f w = f.1
no_want stage digest bytes errors.DiskFailed f w = f.1
no_want stage digest bytes _ f w = w

-- No fault but that comes before the record's last byte.
early_missing : (stage : Stage) (digest bytes : List ℕ) (e : RecvError) → length digest ≡ 32 → length bytes < 33 → e ≢ errors.Missing → Finds stage digest bytes (Err e) → ⊥
early_missing stage digest bytes errors.Missing long short other f = other refl
early_missing stage digest bytes errors.BadDigest long short other f = omega (arith, short, f.1.long)
early_missing stage digest bytes errors.Trailing long short other f = omega (arith, long, short, ap length f.1.whole, length-append digest (f.1.byte ∷ f.1.more))
early_missing stage digest bytes _ long short other f = absurd f.1

-- What is known of the bytes while the stream goes on.
reading_of : (ram : RamTerms) (ds : List DiskState) (digest : Summed) (b held : List ℕ) (i : Intake) → i.ended ≡ false → (t : IsTaken ram ds digest b held (stages.Records i)) → Sums digest t.front × IsReading ram ds t.front held i
reading_of ram ds digest b held i on t = subst (λ (e : Bool). IsKnownIn e ram ds digest t.front held i) on t.known

-- Fewer bytes are held than the record has: more would be a whole one.
few_by : (opening : Opened) (before : List Record) (held rest more : List ℕ) → IsBytes held → held ++ rest ≡ 5 ∷ more → Waits opening before held → (length held < 33) ⊎ (33 ≤ length held) → length held < 33
few_by opening before held rest more are is w (inl lt) = lt
few_by opening before [] rest more are is w (inr le) = omega arith
few_by opening before (x ∷ xs) rest more are is w (inr le) =
    let five : x ≡ 5 = head_same is in
    let text : x ∷ xs ≡ spelled_record (commit (take 32 xs)) ++ drop 32 xs =
    ap (λ (t : ℕ). t ∷ xs) five ∙ ap (λ (y : List ℕ). 5 ∷ y) (sym (take-append-drop 32 xs)) ∙ ap (λ (y : List ℕ). y ++ drop 32 xs) (sym (commit_text (take 32 xs))) in
    absurd (w.no_record (commit (take 32 xs)) (drop 32 xs) (omega (arith, le, length-take 32 xs), IsBytes-take 32 xs (IsBytes-drop 1 (x ∷ xs) are)) tt text)

few_in : (ram : RamTerms) (ds : List DiskState) (digest : Summed) (front held rest more : List ℕ) (stage : Stage) → IsBytes held → reads_in stage ≡ true → has_ended stage ≡ false → held ++ rest ≡ 5 ∷ more → IsKnown ram ds digest front held stage → length held < 33
few_in ram ds digest front held rest more stages.Head are reads on is k = absurd cc
few_in ram ds digest front held rest more (stages.Records i) are reads on is k =
    let r = (reading_of ram ds digest (front ++ held) held i on (record { front = front; whole = refl; known = k })).1 in
    few_by r.opening r.open_at.before held rest more are is r.open_at.waits (cases_lt (length held) 33)
few_in ram ds digest front held rest more stages.Failed are reads on is k = absurd cc

pub not_failed_yet : (stage : Stage) → reads_in stage ≡ true → has_failed stage ≡ false
not_failed_yet stages.Head reads = refl
not_failed_yet (stages.Records i) reads = refl
not_failed_yet stages.Failed reads = absurd cc

pub few_held : (r : ReaderSeen) (held rest : List ℕ) (room lacking : ℕ) → IsBytes held → IsDue (received_with r held) rest → IsReceiver r held room lacking → length held < 33
few_held r held rest room lacking are due kept =
    let some = kept.known (not_failed_yet r.stage due.reads) in
    few_in r.ram r.disks r.digest some.0 held rest due.more r.stage are due.reads due.goes_on due.begins some.1

-- A part of the record is held: it waits.
part_known : (ram : RamTerms) (ds : List DiskState) (digest : Summed) (b held rest more : List ℕ) (stage : Stage) → IsBytes (held ++ rest) → reads_in stage ≡ true → has_ended stage ≡ false → MayEnd stage → held ++ rest ≡ 5 ∷ more → length (held ++ rest) < 33
    → IsTaken ram ds digest b held stage → IsTaken ram ds digest (b ++ rest) (held ++ rest) stage
part_known ram ds digest b held rest more stages.Head are reads on all is short t = absurd cc
part_known ram ds digest b held rest more (stages.Records i) are reads on all is short t =
    let k = reading_of ram ds digest b held i on t in
    let o = k.1.open_at in
    let waits = body_waits k.1.opening o.before (held ++ rest) more heads.Commit are (opens_head (held ++ rest) more o.read all is) tt (omega (arith, short, ap length is)) in
    let reading : IsReading ram ds t.front (held ++ rest) i = record { opening = k.1.opening; based = k.1.based; open_at = record { before = o.before; read = o.read; waits = waits } } in
    record {
      front = t.front;
      whole = ap (λ (x : List ℕ). x ++ rest) t.whole ∙ append_assoc t.front held rest;
      known = subst (λ (e : Bool). IsKnownIn e ram ds digest t.front (held ++ rest) i) (sym on) (k.0, reading);
    }
part_known ram ds digest b held rest more stages.Failed are reads on all is short t = absurd cc

part_fed : (r : ReaderSeen) (held rest : List ℕ) → IsBytes held → IsBytes rest → IsDue (received_with r held) rest → MayEnd r.stage → length (held ++ rest) < 33 → Feeds (received_with r held) rest (Ok tt) (received_with r (held ++ rest))
part_fed r held rest are more due all short =
    fed_on r r held (held ++ rest) rest tt more refl refl (kept r.disks) (not_failed_yet r.stage due.reads) (λ head. same_again r)
    (λ b h. part_known r.ram r.disks r.digest b held rest due.more r.stage (IsBytes-append held rest are more) due.reads due.goes_on all due.begins short h.taken)

past_head : (stage : Stage) → reads_in stage ≡ true → IsPastHead stage
past_head stages.Head reads = absurd cc
past_head (stages.Records i) reads = tt
past_head stages.Failed reads = absurd cc

pub part_receiver : (r : ReaderSeen) (held rest : List ℕ) (room lacking more : ℕ) → IsBytes held → IsBytes rest → IsDue (received_with r held) rest → MayEnd r.stage → length (held ++ rest) < 33 → IsReceiver r held room lacking → room ≤ more → IsReceiver r (held ++ rest) more 0
part_receiver r held rest room lacking more are bytes due all short kept le =
    let some = kept.known (not_failed_yet r.stage due.reads) in
    let t = part_known r.ram r.disks r.digest (some.0 ++ held) held rest due.more r.stage (IsBytes-append held rest are bytes) due.reads due.goes_on all due.begins short (record { front = some.0; whole = refl; known = some.1 }) in
    is_receiver r (held ++ rest) more 0 t.front t.known (omega (arith, short)) (λ past. omega (arith, kept.roomy past, le)) (λ none. absurd (omega (arith, none)))

-- The stream has ended: what was read is a whole stream, with the digest that it has.
ended_reading : (ram : RamTerms) (ds : List DiskState) (front held : List ℕ) (i : Intake) → IsReading ram ds front held i → HasAll i → IsReadWhole ram ds (front ++ (5 ∷ sha256 front)) (record i { ended = true })
ended_reading ram ds front held i r all =
    let o = r.open_at in
    record {
      opening = r.opening;
      based = r.based;
      ended = record {
        before = o.before;
        front = front;
        read = ended_on ds r.opening o.before i true front o.read;
        complete = (opens_close (5 ∷ []) [] o.read all refl).complete (omega arith, omega arith);
        whole = ap (λ (x : List ℕ). front ++ x) (sym (commit_text (sha256 front)));
      };
    }

-- So it is known whatever was told, and of the bytes that were fed where that was right.
end_known : (ram : RamTerms) (ds : List DiskState) (digest : Summed) (b held : List ℕ) (stage : Stage) → reads_in stage ≡ true → has_ended stage ≡ false → MayEnd stage → (t : IsTaken ram ds digest b held stage) → IsKnown ram ds digest (t.front ++ (5 ∷ sha256 t.front)) [] (ended_at stage)
end_known ram ds digest b held stages.Head reads on all t = absurd cc
end_known ram ds digest b held (stages.Records i) reads on all t = (refl, ended_reading ram ds t.front held i (reading_of ram ds digest b held i on t).1 all)
end_known ram ds digest b held stages.Failed reads on all t = absurd cc

front_past : (ram : RamTerms) (ds : List DiskState) (digest : Summed) (b held : List ℕ) (stage : Stage) → IsTold digest → reads_in stage ≡ true → has_ended stage ≡ false → (t : IsTaken ram ds digest b held stage) → t.front ≡ past_of digest
front_past ram ds digest b held stages.Head is reads on t = absurd cc
front_past ram ds digest b held (stages.Records i) is reads on t = past_is digest t.front is (reading_of ram ds digest b held i on t).0
front_past ram ds digest b held stages.Failed is reads on t = absurd cc

end_taken : (ram : RamTerms) (ds : List DiskState) (d : Summed) (b held rest digest : List ℕ) (stage : Stage) → IsTold d → reads_in stage ≡ true → has_ended stage ≡ false → MayEnd stage → held ++ rest ≡ 5 ∷ digest → digest ≡ sha256 (past_of d) → IsTaken ram ds d b held stage
    → IsTaken ram ds d (b ++ rest) [] (ended_at stage)
end_taken ram ds d b held rest digest stage is_told reads on all is right t =
    let same : digest ≡ sha256 t.front = right ∙ ap sha256 (sym (front_past ram ds d b held stage is_told reads on t)) in
    record {
      front = t.front ++ (5 ∷ sha256 t.front);
      whole = ap (λ (x : List ℕ). x ++ rest) t.whole ∙ append_assoc t.front held rest ∙ ap (λ (x : List ℕ). t.front ++ x) (is ∙ ap (λ (x : List ℕ). 5 ∷ x) same) ∙ sym (append-nil (t.front ++ (5 ∷ sha256 t.front)));
      known = end_known ram ds d b held stage reads on all t;
    }

-- A reader whose stream has ended.
abbrev pub at_end : ReaderSeen → ReaderSeen
at_end r = record r { stage = ended_at r.stage }

pub end_receiver : (r : ReaderSeen) (held rest : List ℕ) (room lacking more : ℕ) → IsDue (received_with r held) rest → MayEnd r.stage → IsReceiver r held room lacking → room ≤ more → IsReceiver (at_end r) [] more 0
end_receiver r held rest room lacking more due all kept le =
    let some = kept.known (not_failed_yet r.stage due.reads) in
    let t : IsTaken r.ram r.disks r.digest (some.0 ++ held) held r.stage = record { front = some.0; whole = refl; known = some.1 } in
    is_receiver (at_end r) [] more 0 (some.0 ++ (5 ∷ sha256 some.0)) (end_known r.ram r.disks r.digest (some.0 ++ held) held r.stage due.reads due.goes_on all t) (omega arith)
    (λ past. omega (arith, kept.roomy (past_head r.stage due.reads), le)) (λ none. absurd (omega (arith, none)))

same_place : (r : ReaderSeen) → place_of (at_end r) ≡ place_of r
same_place r = by_stage r.stage
  where
    by_stage : (stage : Stage) → place_in r.aside (ended_at stage) ≡ place_in r.aside stage
    by_stage stages.Head = refl
    by_stage (stages.Records i) = refl
    by_stage stages.Failed = refl

never_head : (stage : Stage) → reads_in stage ≡ true → ended_at stage ≡ stages.Head → ⊥
never_head stages.Head reads is = cc
never_head (stages.Records i) reads is = cc
never_head stages.Failed reads is = cc

end_fed : (r : ReaderSeen) (held rest digest : List ℕ) → IsBytes rest → IsTold r.digest → IsDue (received_with r held) rest → MayEnd r.stage → held ++ rest ≡ 5 ∷ digest → digest ≡ sha256 (past_of r.digest) → Feeds (received_with r held) rest (Ok tt) (received_with (at_end r) [])
end_fed r held rest digest are is_told due all is right =
    fed_on r (at_end r) held [] rest tt are refl (same_place r) (kept r.disks) (not_failed_yet r.stage due.reads) (λ head. absurd (never_head r.stage due.reads head))
    (λ b h. end_taken r.ram r.disks r.digest b held rest digest r.stage is_told due.reads due.goes_on all is right h.taken)

-- A refusal.
found_told : (ram : RamTerms) (ds : List DiskState) (d : Summed) (b held rest more digest : List ℕ) (stage : Stage) (e : RecvError) → IsTold d → reads_in stage ≡ true → has_ended stage ≡ false → held ++ rest ≡ 5 ∷ more → (e ≢ errors.Missing → digest ≡ sha256 (past_of d))
    → Finds stage digest (held ++ rest) (Err e) → IsTaken ram ds d b held stage → TellsFault ram (sizes_in ds) (b ++ rest) e
found_told ram ds d b held rest more digest stages.Head e is_told reads on is right f t = absurd cc
found_told ram ds d b held rest more digest (stages.Records i) e is_told reads on is right f t =
    let r = (reading_of ram ds d b held i on t).1 in
    let o = r.open_at in
    let same : e ≢ errors.Missing → digest ≡ sha256 t.front = λ other. right other ∙ ap sha256 (sym (front_past ram ds d b held (stages.Records i) is_told reads on t)) in
    let text : b ++ rest ≡ t.front ++ (held ++ rest) = ap (λ (x : List ℕ). x ++ rest) t.whole ∙ append_assoc t.front held rest in
    let fault = fault_here (b ++ rest) (held ++ rest) e o.read text (fault_found (held ++ rest) more digest e o.read is same f) in
    tells ((at : ℕ) × Fault ram (sizes_in ds) (b ++ rest) e at) e (subst (λ (x : RamTerms). (at : ℕ) × Fault x (sizes_in ds) (b ++ rest) e at) r.based fault)
found_told ram ds d b held rest more digest stages.Failed e is_told reads on is right f t = absurd cc

header_of : (ram : RamTerms) (ds : List DiskState) (digest : Summed) (b held rest : List ℕ) (stage : Stage) → reads_in stage ≡ true → IsTaken ram ds digest b held stage → HasHeaderFor ram (sizes_in ds) (b ++ rest)
header_of ram ds digest b held rest stages.Head reads t = absurd cc
header_of ram ds digest b held rest (stages.Records i) reads t = header_on ram (sizes_in ds) b rest (b ++ rest) (known_header ram ds digest t.front held held b i t.known t.whole) refl
header_of ram ds digest b held rest stages.Failed reads t = absurd cc

same_error : {e f : RecvError} → (◌≡◌ {A = Result (Unit {0}) RecvError} (Err e) (Err f)) → e ≡ f
same_error is = cc

touched : (r : ReaderSeen) (held rest digest : List ℕ) (e : RecvError) → IsDue (received_with r held) rest → Finds r.stage digest (held ++ rest) (Err e) → (b : List ℕ) → HasBeenFed (received_with r held) b → MayTouch r.ram (sizes_in r.disks) (b ++ rest) e
touched r held rest digest e due f b h =
    may_touch r.ram (sizes_in r.disks) (b ++ rest) e (header_of r.ram r.disks r.digest b held rest r.stage due.reads h.taken) (λ is. absurd (no_want r.stage digest (held ++ rest) e f (subst IsWant (sym is) tt)))

refused_fed : (r : ReaderSeen) (held rest digest : List ℕ) (e : RecvError) (c : Received) → IsTold r.digest → IsDue (received_with r held) rest → (e ≢ errors.Missing → digest ≡ sha256 (past_of r.digest)) → Finds r.stage digest (held ++ rest) (Err e)
    → IsGivenUp (received_with r held) c → Feeds (received_with r held) rest (Err e) c
refused_fed r held rest digest e c is_told due right f g =
    let want = no_want r.stage digest (held ++ rest) e f in
    let on = not_failed_yet r.stage due.reads in
    record {
      ram = g.ram;
      sizes = g.sizes;
      marks = subst (λ (ms : List Marks). MarksRefused (all_marks_in r.disks) e ms) (sym g.marks) ((refused_kept r.disks e (λ is. want (subst IsWant (sym is) tt))).marks);
      fed = tt;
      quiet = tt;
      told = λ b h. told_more r.ram (sizes_in r.disks) b rest e (found_told r.ram r.disks r.digest b held rest due.more digest r.stage e is_told due.reads due.goes_on due.begins right f h.taken) (no_fault_known r.ram r.disks r.digest b held r.stage h.taken);
      failed = g.failed;
      place = g.place;
      already = λ failed. absurd (true_false _ failed on);
      memory = λ is. absurd (want (subst IsWant (sym (same_error is)) tt));
      gone = λ failed. absurd (true_false _ failed on);
      waits = tt;
      untouched = λ b h never. absurd (never (touched r held rest digest e due f b h));
    }

-- What the call promises.
pub closes_refused : (r : ReaderSeen) (held rest digest : List ℕ) (e : RecvError) (c : Received) → length digest ≡ 32 → IsTold r.digest → IsDue (received_with r held) rest → Finds r.stage digest (held ++ rest) (Err e) → IsGivenUp (received_with r held) c
    → ClosesOnTrust (received_with r held) digest rest (Err e) c
closes_refused r held rest digest e c long is_told due f g = record {
  goes_on = not_failed_yet r.stage due.reads;
  ram = g.ram;
  sizes = g.sizes;
  marks = g.marks;
  disks = g.disks;
  place = g.place;
  failed = g.failed;
  wants = no_want r.stage digest (held ++ rest) e f;
  same = tt;
  untouched = λ b h never. absurd (never (touched r held rest digest e due f b h));
  comes = f;
  early = λ short. refused_fed r held rest digest e c is_told due (λ other. absurd (early_missing r.stage digest (held ++ rest) e long short other f)) f g;
  missing = λ is. refused_fed r held rest digest e c is_told due (λ other. absurd (other (same_error is))) f g;
  right = λ right. refused_fed r held rest digest e c is_told due (λ other. right) f g;
}

pub closes_part : (r : ReaderSeen) (held rest digest : List ℕ) → IsBytes held → IsBytes rest → IsDue (received_with r held) rest → MayEnd r.stage → length (held ++ rest) < 33 → ClosesOnTrust (received_with r held) digest rest (Ok tt) (received_with r (held ++ rest))
closes_part r held rest digest are more due all short =
    let fed = part_fed r held rest are more due all short in
    record {
      goes_on = not_failed_yet r.stage due.reads;
      ram = refl;
      sizes = refl;
      marks = refl;
      disks = refl;
      place = refl;
      failed = tt;
      wants = tt;
      same = record { disks = refl; aside = refl };
      untouched = tt;
      comes = (all, inl (short, refl));
      early = λ e. fed;
      missing = λ is. absurd cc;
      right = λ e. fed;
    }

whole_seen : (r : ReaderSeen) (held : List ℕ) → received_with (at_end r) [] ≡ record (received_with r held) { stage = ended_at r.stage; held = [] }
whole_seen r held = by_stage r.stage refl
  where
    by_stage : (stage : Stage) → r.stage ≡ stage → received_with (record r { stage = ended_at stage }) [] ≡ record (received_with (record r { stage = stage }) held) { stage = ended_at stage; held = [] }
    by_stage stages.Head is = refl
    by_stage (stages.Records i) is = refl
    by_stage stages.Failed is = refl

pub closes_whole : (r : ReaderSeen) (held rest digest : List ℕ) → IsBytes rest → length digest ≡ 32 → IsTold r.digest → IsDue (received_with r held) rest → MayEnd r.stage → held ++ rest ≡ 5 ∷ digest → ClosesOnTrust (received_with r held) digest rest (Ok tt) (received_with (at_end r) [])
closes_whole r held rest digest are long is_told due all is = record {
  goes_on = not_failed_yet r.stage due.reads;
  ram = refl;
  sizes = refl;
  marks = refl;
  disks = refl;
  place = same_place r;
  failed = tt;
  wants = tt;
  same = record { disks = refl; aside = refl };
  untouched = tt;
  comes = (all, inr (is, whole_seen r held));
  early = λ short. absurd (omega (arith, short, ap length is, long));
  missing = λ e. absurd cc;
  right = λ right. end_fed r held rest digest are is_told due all is right;
}

pub reader_at_end : (ram : RamTerms) (ds : List DiskState) (aside : Option Memory) (room : Option RoomSeen) (stage : Stage) → IsReader ram ds aside room stage → IsReader ram ds aside room (ended_at stage)
reader_at_end ram ds aside room stages.Head h = h
reader_at_end ram ds aside room (stages.Records i) h = (sized_on i (record i { ended = true }) h.0 refl refl refl refl refl h.0.roomy, h.1, h.2)
reader_at_end ram ds aside room stages.Failed h = h
