-- Memory is wanted for devices alone.
use Rattle.std.proofs.Common.{◌≡◌, ℕ, ◌+◌, ◌≤◌, List, [], ◌++◌, length, take, drop, refl, sym, ap, subst, ◌∙◌, append_assoc, append-nil, arith}
use Rattle.std.specs.Prelude.{Result, Ok, Err, OnErr, true}
use Rattle.std.specs.Result.{is_err}
use Rattle.std.proofs.lemmas.List.{length-append, length-take, take-append-drop}
use Rattle.receiver.specs.Sums.{Summed}
use Rattle.blk.specs.Disk.{DiskState}
use Rattle.wire.specs.Header.{Begins, Opening}
use Rattle.receiver.specs.Opened.{Opened, opened_header}
use Rattle.wire.specs.RecordHeads.{spelled_head}
use Rattle.wire.specs.Records.{Record, device, spelled_record}
use Rattle.wire.specs.Stream.{texts}
use Rattle.wire.specs.declared.record_head.RecordHead.{RecordHead}
use Rattle.wire.specs.declared.record_head.RecordHead.TheVariants as heads
use Rattle.wire.proofs.Heads.{spelled_with}
use Rattle.receiver.specs.Disks.{sizes_in}
use Rattle.receiver.specs.Fed.{HasRead}
use Rattle.receiver.specs.Receiving.{HasBeenFed, HasDevice, IsPastHead, IsTaken, Knows, ReaderSeen, received_with}
use Rattle.receiver.specs.Standing.{BeginsDevice, IsWholeDevice}
use Rattle.receiver.specs.declared.intake.Intake.{Intake}
use Rattle.receiver.specs.declared.ram_terms.RamTerms.{RamTerms}
use Rattle.receiver.specs.declared.recv_error.RecvError.{RecvError}
use Rattle.receiver.specs.declared.stage.Stage.{Stage}
use Rattle.receiver.specs.declared.stage.Stage.TheVariants as stages
use Rattle.receiver.proofs.Pieces.{IsPartly, regrouped}
use Rattle.receiver.proofs.Working.{front_of}

-- One error, as results of two types.
pub err_again : {A B : Type 0} {x y : RecvError} → (◌≡◌ {A = Result A RecvError} (Err x) (Err y)) → (◌≡◌ {A = Result B RecvError} (Err x) (Err y))
err_again {x = x} {y = y} e = let same : x ≡ y = cc in rw same refl

pub ok_not_err : {A : Type 0} {x : A} {e : RecvError} → (◌≡◌ {A = Result A RecvError} (Ok x) (Err e)) → ⊥
ok_not_err e = cc

pub on_err : {A E : Type 0} (r : Result A E) (P : Type 0) → OnErr r P → true ≡ is_err r → P
on_err (Ok x) P h e = absurd cc
on_err (Err x) P h e = h

pub device_begins : (tail behind : List ℕ) (head : RecordHead) → IsWholeDevice head behind → tail ≡ spelled_head head ++ behind → BeginsDevice tail
device_begins tail behind (heads.Page n) is e = absurd is
device_begins tail behind (heads.Device d len) is e =
    let body = take len behind in
    let many : length body ≡ len = omega (arith, is, length-take len behind) in
    record {
      number = d;
      body = body;
      more = drop len behind;
      whole = e ∙ ap (λ (x : List ℕ). spelled_head (heads.Device d len) ++ x) (sym (take-append-drop len behind)) ∙ sym (append_assoc (spelled_head (heads.Device d len)) body (drop len behind))
          ∙ ap (λ (x : List ℕ). x ++ drop len behind) (sym (spelled_with (heads.Device d len) body many));
    }
device_begins tail behind _ is e = absurd is

pub device_here : {ds : List DiskState} {opening : Opened} {before : List Record} {i : Intake} {front : List ℕ} (bytes tail : List ℕ) (from : ℕ) → HasRead ds opening before i front → bytes ≡ front ++ tail → BeginsDevice tail → from ≤ length front → HasDevice opening.ram (sizes_in ds) bytes from
device_here {opening = opening} {before = before} {front = front} bytes tail from h e b le = record {
  opening = opening;
  before = before;
  number = b.number;
  body = b.body;
  more = b.more;
  front = front_of bytes (spelled_record (device b.number b.body) ++ b.more) h (e ∙ ap (λ (x : List ℕ). front ++ x) b.whole);
  behind = omega (arith, le, ap length h.whole);
}

-- In more bytes, and behind fewer.
pub device_on : (ram : RamTerms) (sizes b c all : List ℕ) (low from : ℕ) → HasDevice ram sizes b from → all ≡ b ++ c → low ≤ from → HasDevice ram sizes all low
device_on ram sizes b c all low from h e le =
    let text = spelled_record (device h.number h.body) in
    let head = opened_header h.opening in
    let parts : all ≡ head ++ (texts h.before ++ (text ++ (h.more ++ c))) =
    e ∙ ap (λ (x : List ℕ). x ++ c) h.front.begins.whole ∙ append_assoc head (texts h.before ++ (text ++ h.more)) c
    ∙ ap (λ (x : List ℕ). head ++ x) (append_assoc (texts h.before) (text ++ h.more) c ∙ ap (λ (x : List ℕ). texts h.before ++ x) (append_assoc text h.more c)) in
    record {
      opening = h.opening;
      before = h.before;
      number = h.number;
      body = h.body;
      more = h.more ++ c;
      front = record { begins = record { good = h.front.begins.good; whole = parts }; based = h.front.based; fits = h.front.fits; suits = h.front.suits; within = h.front.within; good = h.front.good };
      behind = omega (arith, le, h.behind);
    }

-- A header is whole in what was fed: it was read.
pub past_head : (ram : RamTerms) (ds : List DiskState) (digest : Summed) (b held : List ℕ) (stage : Stage) (opening : Opening) (rest : List ℕ) → IsTaken ram ds digest b held stage → Begins b opening rest → IsPastHead stage
past_head ram ds digest b held stages.Head opening rest t begins =
    let k = t.known in
    let same : b ≡ held = t.whole ∙ ap (λ (x : List ℕ). x ++ held) k.0 in
    absurd (k.2.no_header opening rest (rw same at begins))
past_head ram ds digest b held (stages.Records i) opening rest t begins = tt
past_head ram ds digest b held stages.Failed opening rest t begins = absurd t.known

pub fed_wants : (r : ReaderSeen) (held piece b : List ℕ) (opening : Opening) (rest : List ℕ) (from : ℕ)
    → ((front : List ℕ) → Knows r front held → IsPastHead r.stage → HasDevice r.ram (sizes_in r.disks) (front ++ (held ++ piece)) (length front))
    → HasBeenFed (received_with r held) b → Begins b opening rest → from + length held ≡ length b → HasDevice r.ram (sizes_in r.disks) (b ++ piece) from
fed_wants r held piece b opening rest from memory fed begins at =
    let t = fed.taken in
    let d = memory t.front t.known (past_head r.ram r.disks r.digest b held r.stage opening rest t begins) in
    let all : b ++ piece ≡ (t.front ++ (held ++ piece)) ++ [] = ap (λ (x : List ℕ). x ++ piece) t.whole ∙ append_assoc t.front held piece ∙ sym (append-nil (t.front ++ (held ++ piece))) in
    device_on r.ram (sizes_in r.disks) (t.front ++ (held ++ piece)) [] (b ++ piece) from (length t.front) d all (omega (arith, at, ap length t.whole, length-append t.front held))

pub part_wants : (ram : RamTerms) (old ds : List DiskState) (digest : Summed) (bytes held rest part after : List ℕ) (stage : Stage) (low : ℕ) → (p : IsPartly ram old ds digest bytes held rest stage) → rest ≡ part ++ after → low ≤ length p.front
    → HasDevice ram (sizes_in ds) (p.front ++ (held ++ part)) (length p.front) → HasDevice ram (sizes_in old) bytes low
part_wants ram old ds digest bytes held rest part after stage low p is le d =
    let all : bytes ≡ (p.front ++ (held ++ part)) ++ after = p.whole ∙ ap (λ (x : List ℕ). p.front ++ (held ++ x)) is ∙ regrouped p.front held part after in
    subst (λ (sizes : List ℕ). HasDevice ram sizes bytes low) p.same.sizes (device_on ram (sizes_in ds) (p.front ++ (held ++ part)) after bytes low (length p.front) d all le)

pub not_before : (ram : RamTerms) (old ds : List DiskState) (digest : Summed) (front first piece held rest : List ℕ) (stage : Stage) → (p : IsPartly ram old ds digest (front ++ (first ++ piece)) held rest stage) → length held + length rest ≤ length first + length piece → length front ≤ length p.front
not_before ram old ds digest front first piece held rest stage p le =
    omega (arith, le, ap length p.whole, length-append front (first ++ piece), length-append first piece, length-append p.front (held ++ rest), length-append held rest)
