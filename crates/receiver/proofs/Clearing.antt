-- Where the digest may come, it can be compared.
use Rattle.std.proofs.Common.{◌≡◌, ℕ, List, ◌++◌, take, drop, length, refl, sym, ap, subst, ◌∙◌, append_assoc}
use Rattle.wire.specs.RecordHeads.{BeginsHead, spelled_head}
use Rattle.wire.specs.Records.{Record}
use Rattle.wire.specs.Stream.{texts}
use Rattle.wire.specs.declared.record_head.RecordHead.{RecordHead}
use Rattle.wire.specs.declared.record_head.RecordHead.TheVariants as heads
use Rattle.blk.specs.Disk.{DiskState}
use Rattle.receiver.specs.Disks.{AreKept, sizes_in}
use Rattle.receiver.specs.Faults.{IsFront}
use Rattle.receiver.specs.Fed.{IsRead}
use Rattle.receiver.specs.Opened.{Opened, opened_header}
use Rattle.receiver.specs.Receiving.{IsTaken, Knows, ReaderSeen}
use Rattle.receiver.specs.Sums.{CanSay, IsClear, IsOwn, MayClose, SaysOn, Summed, own, told}
use Rattle.receiver.specs.declared.intake.Intake.{Intake}
use Rattle.receiver.specs.declared.ram_terms.RamTerms.{RamTerms}
use Rattle.receiver.specs.declared.stage.Stage.{Stage}
use Rattle.receiver.proofs.Pieces.{IsPartly, regrouped}
use Rattle.receiver.proofs.Working.{cut, front_at, front_of}

-- More bytes behind.
front_longer : (ram : RamTerms) (sizes bytes after : List ℕ) (opening : Opened) (before : List Record) (tail : List ℕ) → IsFront ram sizes bytes opening before tail → IsFront ram sizes (bytes ++ after) opening before (tail ++ after)
front_longer ram sizes bytes after opening before tail f = record {
  begins = record {
    good = f.begins.good;
    whole = ap (λ (x : List ℕ). x ++ after) f.begins.whole ∙ append_assoc (opened_header opening) (texts before ++ tail) after ∙ ap (λ (x : List ℕ). opened_header opening ++ x) (append_assoc (texts before) tail after);
  };
  based = f.based;
  fits = f.fits;
  suits = f.suits;
  within = f.within;
  good = f.good;
}

pub clear_before : (digest : Summed) (ram : RamTerms) (sizes bytes after : List ℕ) → IsClear digest ram sizes (bytes ++ after) → IsClear digest ram sizes bytes
clear_before digest ram sizes bytes after h = record {
  closes = λ opening before tail f more e. h.closes opening before (tail ++ after) (front_longer ram sizes bytes after opening before tail f) (more ++ after) (ap (λ (x : List ℕ). x ++ after) e);
}

pub clear_on : (digest next : Summed) (ram : RamTerms) (sizes bytes : List ℕ) → SaysOn digest next → IsClear digest ram sizes bytes → IsClear next ram sizes bytes
clear_on digest next ram sizes bytes says h = record { closes = λ opening before tail f more e. says (opened_header opening ++ texts before) (h.closes opening before tail f more e) }

-- A receiver that digests can always compare.
pub clear_own : (digest : Summed) (ram : RamTerms) (sizes bytes : List ℕ) → IsOwn digest → IsClear digest ram sizes bytes
unfolding CanSay
clear_own (own digest) ram sizes bytes is = record { closes = λ opening before tail f more e. tt }
clear_own (told past) ram sizes bytes is = absurd is

-- Behind the records that were worked off.
pub may_close : (digest next : Summed) (ram : RamTerms) (old ds : List DiskState) (i : Intake) (front bytes : List ℕ) (at : ℕ) → IsClear digest ram (sizes_in old) (front ++ bytes) → SaysOn digest next → AreKept old ds → (r : IsRead ram ds (front ++ take at bytes) i)
    → MayClose next (front ++ take at bytes) (drop at bytes)
may_close digest next ram old ds i front bytes at clear says same r more e =
    let here : IsFront ram (sizes_in ds) (front ++ bytes) r.opening r.before (drop at bytes) = front_at r.based (front_of (front ++ bytes) (drop at bytes) r.read (cut front bytes at)) in
    let there : IsFront ram (sizes_in old) (front ++ bytes) r.opening r.before (drop at bytes) = subst (λ (sizes : List ℕ). IsFront ram sizes (front ++ bytes) r.opening r.before (drop at bytes)) same.sizes here in
    subst (CanSay next) (sym r.read.whole) (says (opened_header r.opening ++ texts r.before) (clear.closes r.opening r.before (drop at bytes) there more e))

-- The head of the digest's record.
pub closes_by : (digest : Summed) (front bytes : List ℕ) (head : RecordHead) → BeginsHead bytes head → MayClose digest front bytes → head ≡ heads.Commit → CanSay digest front
closes_by digest front bytes head b may is =
    let rest = drop (length (spelled_head head)) bytes in
    may rest (b.whole ∙ ap (λ (h : RecordHead). spelled_head h ++ rest) is)

-- Behind the header.
pub clear_for : (was digest : Summed) (was_ram ram : RamTerms) (old ds : List DiskState) (front bytes : List ℕ) (start : ℕ) → IsClear was was_ram (sizes_in old) (front ++ bytes) → SaysOn was digest → ram ≡ was_ram → ds ≡ old
    → IsClear digest ram (sizes_in ds) ((front ++ take start bytes) ++ drop start bytes)
clear_for was digest was_ram ram old ds front bytes start clear says same disks =
    let text : (front ++ take start bytes) ++ drop start bytes ≡ front ++ bytes = sym (cut front bytes start) in
    rw (text, same, disks) (clear_on was digest was_ram (sizes_in old) (front ++ bytes) says clear)

-- A part of a piece.
pub clear_part : (was digest : Summed) (was_ram ram : RamTerms) (old ds : List DiskState) (bytes held rest part after : List ℕ) (stage : Stage) → (p : IsPartly ram old ds digest bytes held rest stage) → rest ≡ part ++ after → ram ≡ was_ram → SaysOn was digest
    → IsClear was was_ram (sizes_in old) bytes → IsClear digest ram (sizes_in ds) (p.front ++ (held ++ part))
clear_part was digest was_ram ram old ds bytes held rest part after stage p is same says clear =
    let all : bytes ≡ (p.front ++ (held ++ part)) ++ after = p.whole ∙ ap (λ (x : List ℕ). p.front ++ (held ++ x)) is ∙ regrouped p.front held part after in
    let next : IsClear digest was_ram (sizes_in old) bytes = clear_on was digest was_ram (sizes_in old) bytes says clear in
    rw (same, p.same.sizes) (clear_before digest was_ram (sizes_in old) (p.front ++ (held ++ part)) after (rw all at next))

-- From what is asked of a call.
pub clear_in : (r : ReaderSeen) (held piece front : List ℕ) → ((b : List ℕ) → IsTaken r.ram r.disks r.digest b held r.stage → IsClear r.digest r.ram (sizes_in r.disks) (b ++ piece)) → Knows r front held
    → IsClear r.digest r.ram (sizes_in r.disks) (front ++ (held ++ piece))
clear_in r held piece front clear k = rw (← append_assoc front held piece) (clear (front ++ held) (record { front = front; whole = refl; known = k }))
