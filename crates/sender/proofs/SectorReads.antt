-- A sector that is read, and then sent.
use Rattle.std.proofs.Common.{◌≡◌, ◌≢◌, ℕ, zero, suc, ◌+◌, ◌++◌, List, [], ◌∷◌, map, Bool, true, false, Option, Some, None, refl, ap, sym, subst, arith}
use Rattle.std.specs.Prelude.{IsTrue, All, Ok, Err, slice_get}
use Rattle.blk.specs.Disk.{IsSector}
use Rattle.blk.specs.Sectors.{Sector, is_bad}
use Rattle.dirtylog.specs.Members.{IsLeastFrom, has}
use Rattle.machine.specs.Applied.{IsGood, ReadsSector}
use Rattle.machine.specs.EffectLaws.{HasItem, sector_on, sectors_on}
use Rattle.machine.specs.NextBad.{IsNextBad}
use Rattle.machine.specs.Seen.{AreHonest, Marks, Seen, all_marks, marks_at, state_of}
use Rattle.machine.specs.State.{MachineState}
use Rattle.machine.specs.Step.{disk_of, disk_or_none}
use Rattle.guestmem.specs.Item as items
use Rattle.sender.specs.Reads.{ReadsItem}
use Rattle.sender.specs.Saving.{AddsItem, Sends}
use Rattle.sender.specs.declared.mig_error.MigError.{MigError}
use Rattle.sender.specs.declared.mig_error.MigError.TheVariants.{DiskFailed, StreamFailed}
use Rattle.wire.specs.Records.{sector, spelled_record}
use Rattle.wire.specs.Sinks.{Appends, Digested, SinkState, Takes}
use Rattle.wire.specs.Stream.{content_of, record_of}

pub honest_at : (marks : List Marks) (dev : ℕ) → All (λ m. IsTrue m.honest) marks → IsTrue (marks_at marks dev).honest
honest_at [] dev are = refl
honest_at (m ∷ marks) zero are = are 0 m (omega arith)
honest_at (m ∷ marks) (suc dev) are = honest_at marks dev (λ k d below. are (suc k) d (omega (arith, below)))

-- What was read is the sector, where the disks are honest.
pub same_record : {E : Type 0} (old new : Seen) (dev n : ℕ) (bytes : List ℕ) → ReadsSector {E = E} old dev n bytes (Ok true) new → AreHonest old
    → spelled_record (record_of (state_of old) (items.sector dev n)) ≡ spelled_record (sector dev n (Some bytes))
same_record old new dev n bytes read are =
    ap (λ found. spelled_record (sector dev n (content_of found))) (read.found.1 (honest_at (all_marks old) dev are))

pub sent_good : {A B E F : Type 0} (old new : Seen) (dev n : ℕ) (bytes : List ℕ) (out new_out : SinkState) (done : A) (other : B) → ReadsSector {E = E} old dev n bytes (Ok true) new
    → Appends {E = F} out (spelled_record (sector dev n (Some bytes))) (Ok done) new_out → Sends old out (spelled_record (record_of (state_of old) (items.sector dev n))) (Ok other) new new_out
sent_good old new dev n bytes out new_out done other read appends = record {
  memory = read.memory;
  state = read.state;
  flushed = read.flushed;
  marks = read.marks;
  named = tt;
  count = appends.count;
  holds = λ disks honest. rw (same_record old new dev n bytes read disks) (appends.holds honest);
}

-- The record of what was read is added, with any disks.
pub added_good : {A E F : Type 0} (old new : Seen) (dev n : ℕ) (bytes : List ℕ) (out new_out : SinkState) (a b : Digested) (done : A) → IsSector bytes → ReadsSector {E = E} old dev n bytes (Ok true) new
    → Appends {E = F} out (spelled_record (sector dev n (Some bytes))) (Ok done) new_out → Takes a (spelled_record (sector dev n (Some bytes))) b → AddsItem old (items.sector dev n) out a new_out b
added_good old new dev n bytes out new_out a b done whole read appends takes = record {
  entry = sector dev n (Some bytes);
  told = record { content = Some bytes; sent = record { whole = whole; good = read.found.0; is = read.found.1 }; is = refl };
  holds = appends.holds;
  takes = takes;
}

pub added_bad : {A E F : Type 0} (old new : Seen) (dev n : ℕ) (bytes : List ℕ) (out new_out : SinkState) (a b : Digested) (done : A) → ReadsSector {E = E} old dev n bytes (Ok false) new
    → Appends {E = F} out (spelled_record (sector dev n None)) (Ok done) new_out → Takes a (spelled_record (sector dev n None)) b → AddsItem old (items.sector dev n) out a new_out b
added_bad old new dev n bytes out new_out a b done read appends takes = record {
  entry = sector dev n None;
  told = record { content = None; sent = read.found; is = refl };
  holds = appends.holds;
  takes = takes;
}

pub added_page : {A E : Type 0} (s : Seen) (n : ℕ) (out new_out : SinkState) (a b : Digested) (done : A) → Appends {E = E} out (spelled_record (record_of (state_of s) (items.page n))) (Ok done) new_out
    → Takes a (spelled_record (record_of (state_of s) (items.page n))) b → AddsItem s (items.page n) out a new_out b
added_page s n out new_out a b done appends takes = record { entry = record_of (state_of s) (items.page n); told = refl; holds = appends.holds; takes = takes }

-- The disk failed.
pub not_sent : {A E : Type 0} (old new : Seen) (dev n : ℕ) (bytes : List ℕ) (out : SinkState) (x : List ℕ) (e : E) → ReadsSector old dev n bytes (Err e) new → Sends {A = A} old out x (Err (DiskFailed dev n)) new out
not_sent old new dev n bytes out x e read = record { memory = read.memory; state = read.state; flushed = read.flushed; marks = read.failed; named = (read.unsteady, read.good); count = refl; holds = tt }

-- The writer failed after the disk was read, or without a read of it.
pub sent_none : {A T E F : Type 0} (old new : Seen) (dev n : ℕ) (bytes : List ℕ) (good : Bool) (out new_out : SinkState) (x y : List ℕ) (e : F) → ReadsSector {E = E} old dev n bytes (Ok good) new → Appends {T = T} {E = F} out x (Err e) new_out → Sends {A = A} old out y (Err StreamFailed) new new_out
sent_none old new dev n bytes good out new_out x y e read appends = record { memory = read.memory; state = read.state; flushed = read.flushed; marks = read.marks; named = tt; count = appends.count; holds = tt }

pub sent_nothing : {A T E : Type 0} (old : Seen) (out new_out : SinkState) (x y : List ℕ) (e : E) → Appends {T = T} out x (Err e) new_out → Sends {A = A} old out y (Err StreamFailed) old new_out
sent_nothing old out new_out x y e appends = record { memory = refl; state = refl; flushed = refl; marks = refl; named = tt; count = appends.count; holds = tt }

-- A call that failed sent what it sent, whatever it would have returned.
pub failed_alike : {A B : Type 0} (old new : Seen) (out new_out : SinkState) (x : List ℕ) (e : MigError) → Sends {A = A} old out x (Err e) new new_out → Sends {A = B} old out x (Err e) new new_out
failed_alike old new out new_out x (DiskFailed dev n) sent = record { memory = sent.memory; state = sent.state; flushed = sent.flushed; marks = sent.marks; named = sent.named; count = sent.count; holds = tt }
failed_alike old new out new_out x StreamFailed sent = record { memory = sent.memory; state = sent.state; flushed = sent.flushed; marks = sent.marks; named = tt; count = sent.count; holds = tt }
failed_alike old new out new_out x _ sent = absurd sent.named

-- The next bad sector is bad, and one that is not the next bad one, where the search for it began, is good.
bad_in : (disk : List Sector) (n : ℕ) → has (map is_bad disk) n ≡ true → slice_get disk n ≡ Some None
bad_in [] n is = cc
bad_in (None ∷ disk) zero is = refl
bad_in (Some bytes ∷ disk) zero is = cc
bad_in (x ∷ disk) (suc n) is = bad_in disk n is

bad_on : (disk : Option (List Sector)) (n : ℕ) → has (map is_bad (disk_or_none disk)) n ≡ true → sector_on disk n ≡ Some None
bad_on None n is = cc
bad_on (Some disk) n is = bad_in disk n is

good_in : (disk : List Sector) (n : ℕ) (x : Sector) → slice_get disk n ≡ Some x → has (map is_bad disk) n ≡ false → IsGood (slice_get disk n)
good_in [] n x there is = cc
good_in (None ∷ disk) zero x there is = cc
good_in (Some bytes ∷ disk) zero x there is = (bytes, refl)
good_in (y ∷ disk) (suc n) x there is = good_in disk n x there is

good_on : (disk : Option (List Sector)) (n : ℕ) (x : Sector) → sector_on disk n ≡ Some x → has (map is_bad (disk_or_none disk)) n ≡ false → IsGood (sector_on disk n)
good_on None n x there is = cc
good_on (Some disk) n x there is = good_in disk n x there is

not_next : (set : List Bool) (n : ℕ) (next : Option ℕ) → IsLeastFrom set n next → next ≢ Some n → has set n ≡ false
not_next set n None least other = least n (omega arith)
not_next set n (Some k) least other = let more : k ≢ n = λ e. other (ap Some e) in least.least n (omega arith) (omega (arith, least.reached, more))

pub next_on : (set : List Bool) (n : ℕ) (next : Option ℕ) → IsLeastFrom set n next → next ≢ Some n → IsLeastFrom set (n + 1) next
next_on set n None least other = λ k le. least k (omega (arith, le))
next_on set n (Some k) least other =
    let more : k ≢ n = λ e. other (ap Some e) in
    record { reached = omega (arith, least.reached, more); member = least.member; least = λ j le below. least.least j (omega (arith, le)) below }

pub good_now : (m : MachineState) (dev n : ℕ) (next : Option ℕ) → HasItem m (items.sector dev n) → IsNextBad m dev n next → next ≢ Some n → IsGood (sector_on (sectors_on m dev) n)
good_now m dev n next there least other = good_on (sectors_on m dev) n there.0 there.1 (not_next (map is_bad (disk_of m dev)) n next least other)

pub bad_now : (m : MachineState) (dev n : ℕ) (next : Option ℕ) → IsNextBad m dev n next → next ≡ Some n → sector_on (sectors_on m dev) n ≡ Some None
bad_now m dev n next least same = let is : IsNextBad m dev n (Some n) = subst (λ x. IsNextBad m dev n x) same least in bad_on (sectors_on m dev) n is.member

bad_record : (m : MachineState) (dev n : ℕ) → sector_on (sectors_on m dev) n ≡ Some None → sector dev n None ≡ record_of m (items.sector dev n)
bad_record m dev n bad = sym (ap (λ found. sector dev n (content_of found)) bad)

pub sent_bad : {A B E : Type 0} (m : Seen) (dev n : ℕ) (out new_out : SinkState) (done : A) (other : B) → sector_on (sectors_on (state_of m) dev) n ≡ Some None → Appends {E = E} out (spelled_record (sector dev n None)) (Ok done) new_out
    → Sends m out (spelled_record (record_of (state_of m) (items.sector dev n))) (Ok other) m new_out
sent_bad m dev n out new_out done other bad h = subst (λ r. Sends m out (spelled_record r) (Ok other) m new_out) (bad_record (state_of m) dev n bad) (record { memory = refl; state = refl; flushed = refl; marks = refl; named = tt; count = h.count; holds = λ disks. h.holds })

pub sent_read_bad : {A B E F : Type 0} (old new : Seen) (dev n : ℕ) (bytes : List ℕ) (out new_out : SinkState) (done : A) (other : B) → ReadsSector {E = E} old dev n bytes (Ok false) new → Appends {E = F} out (spelled_record (sector dev n None)) (Ok done) new_out
    → Sends old out (spelled_record (record_of (state_of old) (items.sector dev n))) (Ok other) new new_out
sent_read_bad old new dev n bytes out new_out done other read appends = record {
  memory = read.memory;
  state = read.state;
  flushed = read.flushed;
  marks = read.marks;
  named = tt;
  count = appends.count;
  holds = λ disks honest. subst (λ r. IsTrue new_out.honest × (new_out.held ≡ out.held ++ spelled_record r)) (bad_record (state_of old) dev n read.found) (appends.holds honest);
}

pub taken_bad : (m : MachineState) (dev n : ℕ) (a b : Digested) → sector_on (sectors_on m dev) n ≡ Some None → Takes a (spelled_record (sector dev n None)) b → Takes a (spelled_record (record_of m (items.sector dev n))) b
taken_bad m dev n a b bad takes = subst (λ r. Takes a (spelled_record r) b) (bad_record m dev n bad) takes

pub taken_good : {E : Type 0} (old new : Seen) (dev n : ℕ) (bytes : List ℕ) (a b : Digested) → ReadsSector {E = E} old dev n bytes (Ok true) new → Takes a (spelled_record (sector dev n (Some bytes))) b
    → AreHonest old → Takes a (spelled_record (record_of (state_of old) (items.sector dev n))) b
taken_good old new dev n bytes a b read takes disks = subst (λ x. Takes a x b) (sym (same_record old new dev n bytes read disks)) takes

pub unread_bad : (called : ℕ → ℕ) (m : Seen) (dev n : ℕ) → sector_on (sectors_on (state_of m) dev) n ≡ Some None → ReadsItem called m (items.sector dev n) m
unread_bad called m dev n bad = rw bad refl
