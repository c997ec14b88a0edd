-- Bytes that wait for a body wait on, while it is incomplete.
use Rattle.std.proofs.Common.{◌≡◌, ℕ, ◌+◌, ◌<◌, ◌≤◌, inl, inr, Bool, true, false, List, ◌∷◌, ◌++◌, length, drop, refl, sym, ap, ◌∙◌, append_assoc, arith}
use Rattle.std.specs.Prelude.{Ok}
use Rattle.std.proofs.lemmas.List.{length-append}
use Rattle.sha2.specs.Sha256.{sha256}
use Rattle.receiver.specs.Sums.{Summed}
use Rattle.sha2.proofs.Facts256.{length-sha256}
use Rattle.blk.specs.Disk.{DiskState}
use Rattle.guestmem.specs.Number.{IsBytes}
use Rattle.guestmem.proofs.ByteLaws.{IsBytes-append}
use Rattle.receiver.specs.Opened.{opened_header, Opened}
use Rattle.wire.specs.RecordHeads.{BeginsHead, body_len, spelled_head}
use Rattle.wire.specs.Records.{Record}
use Rattle.wire.specs.Stream.{texts}
use Rattle.wire.specs.declared.record_head.RecordHead.{RecordHead}
use Rattle.wire.specs.declared.record_head.RecordHead.TheVariants as heads
use Rattle.wire.proofs.Heads.{begins, no_body, one_head}
use Rattle.receiver.specs.Good.{devices_in}
use Rattle.receiver.specs.Faults.{IsFault}
use Rattle.receiver.specs.Fed.{IsKnownIn, Waits}
use Rattle.receiver.specs.Calls.{Feeds}
use Rattle.receiver.specs.Receiving.{IsKnown, IsReceiver, ReaderSeen, has_failed, received_with}
use Rattle.receiver.specs.Waiting.{LacksBytes, ReadsRecords}
use Rattle.receiver.specs.declared.intake.Intake.{Intake}
use Rattle.receiver.specs.declared.stage.Stage.{Stage}
use Rattle.receiver.specs.declared.stage.Stage.TheVariants as stages
use Rattle.receiver.specs.declared.ram_terms.RamTerms.{RamTerms}
use Rattle.receiver.specs.declared.recv_error.RecvError.{RecvError}
use Rattle.receiver.specs.declared.recv_error.RecvError.TheVariants as errors
use Rattle.receiver.proofs.Feeding.{fed_on, is_receiver}
use Rattle.receiver.proofs.Prefixes.{holds_here}
use Rattle.receiver.proofs.Standing.{second_low}
use Rattle.receiver.proofs.Untouched.{same_again}
use Rattle.receiver.proofs.Working.{kept}

-- The held bytes begin with a head, and as many as any head has; the record is incomplete also with the piece behind them.
pub record IsWithinBody (stage : Stage) (held piece : List ℕ) : Type 0 where
  pub reads : ReadsRecords stage
  pub bytes : IsBytes (held ++ piece)
  pub head : RecordHead
  pub begins : BeginsHead held head
  pub long : 7 ≤ length held
  pub short : length held + length piece < length (spelled_head head) + body_len head
  pub few : length held + length piece ≤ 131077

pub within_body : (stage : Stage) (held piece : List ℕ) (lacking : ℕ) → IsBytes piece → length piece < lacking → LacksBytes stage held lacking → IsWithinBody stage held piece
within_body stage held piece lacking are less l = record {
  reads = l.reads;
  bytes = IsBytes-append held piece l.bytes are;
  head = l.head;
  begins = l.begins;
  long = l.long;
  short = omega (arith, less, l.short);
  few = omega (arith, less, l.few);
}

-- The head, and what is behind it.
behind_head : (held piece : List ℕ) (head : RecordHead) → BeginsHead held head → held ++ piece ≡ spelled_head head ++ (drop (length (spelled_head head)) held ++ piece)
behind_head held piece head b = ap (λ (x : List ℕ). x ++ piece) b.whole ∙ append_assoc (spelled_head head) (drop (length (spelled_head head)) held) piece

short_body : (held piece : List ℕ) (head : RecordHead) → BeginsHead held head → length held + length piece < length (spelled_head head) + body_len head → length (drop (length (spelled_head head)) held ++ piece) < body_len head
short_body held piece head b short =
    let rest = drop (length (spelled_head head)) held in
    omega (arith, short, ap length b.whole, length-append (spelled_head head) rest, length-append rest piece)

-- Its faults stand within the bytes that wait.
within : (opening : Opened) (before : List Record) (held piece : List ℕ) (head : RecordHead) → IsBytes (held ++ piece) → BeginsHead held head → 7 ≤ length held → length held + length piece < length (spelled_head head) + body_len head
    → (k : RecvError) (place : ℕ) → IsFault opening before (held ++ piece) k place → place ≤ length held
within opening before held piece head are b long short errors.BadTag place h = omega (arith, long, h.there)
within opening before held piece head are b long short errors.BadPage place (inl h) = omega (arith, long, h.there)
within opening before held piece head are b long short errors.BadPage place (inr h) =
    let rest = drop (length (spelled_head head)) held ++ piece in
    let t = one_head head (heads.Page h.number) rest (h.bytes ++ h.more) b.fits h.fits (sym (behind_head held piece head b) ∙ h.opens.whole) in
    absurd (omega (arith, short_body held piece head b short, ap body_len t.0, ap length t.1, length-append h.bytes h.more, h.long))
within opening before held piece head are b long short errors.BadSector place h = omega (arith, long, h.there)
within opening before held piece head are b long short errors.BadRound place h = omega (arith, long, h.there)
within opening before held piece head are b long short errors.BadDevice place (inl h) = omega (arith, long, h.there)
within opening before held piece head are b long short errors.BadDevice place (inr h) =
    let rest = drop (length (spelled_head head)) held ++ piece in
    let t = one_head head (heads.Device (devices_in before) (length h.body)) rest (h.body ++ h.more) b.fits (second_low (held ++ piece) _ 4 (devices_in before) are h.opens.whole, omega (arith, h.few)) (sym (behind_head held piece head b) ∙ h.opens.whole) in
    absurd (omega (arith, short_body held piece head b short, ap body_len t.0, ap length t.1, length-append h.body h.more))
within opening before held piece head are b long short errors.BadDigest place h =
    let rest = drop (length (spelled_head head)) held ++ piece in
    let t = one_head head heads.Commit rest (h.digest ++ h.more) b.fits tt (sym (behind_head held piece head b) ∙ h.opens.whole) in
    absurd (omega (arith, short_body held piece head b short, ap body_len t.0, ap length t.1, length-append h.digest h.more, h.long))
within opening before held piece head are b long short errors.Missing place h = omega (arith, long, h.there)
within opening before held piece head are b long short errors.Trailing place h =
    let sum = sha256 (opened_header opening ++ texts before) in
    let rest = drop (length (spelled_head head)) held ++ piece in
    let t = one_head head heads.Commit rest (sum ++ (h.byte ∷ h.more)) b.fits tt (sym (behind_head held piece head b) ∙ h.opens.whole) in
    absurd (omega (arith, short_body held piece head b short, ap body_len t.0, ap length t.1, length-append sum (h.byte ∷ h.more), length-sha256 (opened_header opening ++ texts before)))
within opening before held piece head are b long short _ place h = absurd h

waits_on : (opening : Opened) (before : List Record) (stage : Stage) (held piece : List ℕ) → IsWithinBody stage held piece → Waits opening before held → Waits opening before (held ++ piece)
waits_on opening before stage held piece w waits = record {
  no_record = no_body opening.version (held ++ piece) (drop (length (spelled_head w.head)) held ++ piece) w.head w.begins.fits (behind_head held piece w.head w.begins) (short_body held piece w.head w.begins w.short);
  no_fault = λ k place h. waits.no_fault k place (holds_here opening before held piece k place (within opening before held piece w.head w.bytes w.begins w.long w.short k place h) h);
}

-- What is known of the bytes stays known.
known_in : (ended : Bool) (ram : RamTerms) (ds : List DiskState) (digest : Summed) (front held piece : List ℕ) (i : Intake) → IsWithinBody (stages.Records i) held piece → IsKnownIn ended ram ds digest front held i → IsKnownIn ended ram ds digest front (held ++ piece) i
known_in false ram ds digest front held piece i w known =
    let reading = known.1 in
    let here = reading.open_at in (
      known.0,
      record {
        opening = reading.opening;
        based = reading.based;
        open_at = record { before = here.before; read = here.read; waits = waits_on reading.opening here.before (stages.Records i) held piece w here.waits };
      },
    )
known_in true ram ds digest front held piece i w known = absurd (omega (arith, w.long, ap length known.0))

known_on : (ram : RamTerms) (ds : List DiskState) (digest : Summed) (front held piece : List ℕ) (stage : Stage) → IsWithinBody stage held piece → IsKnown ram ds digest front held stage → IsKnown ram ds digest front (held ++ piece) stage
known_on ram ds digest front held piece stages.Head w known = absurd w.reads
known_on ram ds digest front held piece (stages.Records i) w known = known_in i.ended ram ds digest front held piece i w known
known_on ram ds digest front held piece stages.Failed w known = absurd w.reads

on_reading : (stage : Stage) → ReadsRecords stage → has_failed stage ≡ false
on_reading stages.Head reads = absurd reads
on_reading (stages.Records i) reads = refl
on_reading stages.Failed reads = absurd reads

-- The piece is taken, and the receiver is one still.
pub held_on : (r : ReaderSeen) (held piece : List ℕ) (lacking : ℕ) → IsBytes piece → length piece < lacking → LacksBytes r.stage held lacking → Feeds (received_with r held) piece (Ok tt) (received_with r (held ++ piece))
held_on r held piece lacking are less l =
    fed_on r r held (held ++ piece) piece tt are refl refl (kept r.disks) (on_reading r.stage l.reads) (λ head. same_again r) (λ b h. record {
      front = h.taken.front;
      whole = ap (λ (x : List ℕ). x ++ piece) h.taken.whole ∙ append_assoc h.taken.front held piece;
      known = known_on r.ram r.disks r.digest h.taken.front held piece r.stage (within_body r.stage held piece lacking are less l) h.taken.known;
    })

-- With the piece behind the held bytes, the record lacks so many fewer.
lacks_on : (stage : Stage) (held piece : List ℕ) (lacking left : ℕ) → IsBytes piece → left + length piece ≡ lacking → LacksBytes stage held lacking → LacksBytes stage (held ++ piece) left
lacks_on stage held piece lacking left are is l = record {
  reads = l.reads;
  bytes = IsBytes-append held piece l.bytes are;
  head = l.head;
  begins = begins (held ++ piece) (drop (length (spelled_head l.head)) held ++ piece) l.head l.begins.fits (behind_head held piece l.head l.begins);
  long = omega (arith, l.long, length-append held piece);
  short = omega (arith, l.short, is, length-append held piece);
  few = omega (arith, l.few, is, length-append held piece);
}

pub receiver_on : (r : ReaderSeen) (held piece : List ℕ) (room more lacking left : ℕ) → IsBytes piece → length piece < lacking → left + length piece ≡ lacking → IsReceiver r held room lacking → room ≤ more → IsReceiver r (held ++ piece) more left
receiver_on r held piece room more lacking left are less is kept le =
    let l = kept.lacks (omega (arith, less)) in
    let w = within_body r.stage held piece lacking are less l in
    let some = kept.known (on_reading r.stage l.reads) in
    is_receiver r (held ++ piece) more left some.0 (known_on r.ram r.disks r.digest some.0 held piece r.stage w some.1) (omega (arith, w.few, length-append held piece)) (λ past. omega (arith, kept.roomy past, le)) (λ some_left. lacks_on r.stage held piece lacking left are is l)
