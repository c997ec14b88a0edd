-- A flush of the disk of a device beside all steps, and one that a step makes.
use Rattle.std.proofs.Common.{◌≡◌, ◌≢◌, ℕ, zero, suc, ◌-◌, List, [], ◌∷◌, set, Bool, true, false, Option, Some, None, Result, Ok, Err, refl, ap, sym, ◌∙◌}
use Rattle.std.specs.Prelude.{◌&&◌, IsTrue, OnErr, OnOk, is_ok, not, slice_get}
use Rattle.std.proofs.lemmas.List.{map-set}
use Rattle.guestmem.specs.Memory.{Memory}
use Rattle.blk.specs.Advance as blk
use Rattle.blk.specs.Flush.{flushes_in, is_flush}
use Rattle.blk.specs.Request.{is_open}
use Rattle.blk.specs.declared.advancing.Advanced.{Advanced}
use Rattle.blk.specs.declared.advancing.Advanced.TheVariants as advanced
use Rattle.blk.specs.declared.request.Kind as request
use Rattle.blk.specs.declared.request.Kind.TheVariants.{Refused, In, Out, Flush, GetId, Zero}
use Rattle.blk.specs.declared.request.Request.{Request}
use Rattle.blk.specs.declared.block.Block as blocks
use Rattle.machine.specs.DeviceStep.{advances, is_outside, reply_to_advance}
use Rattle.machine.specs.Seen.{DeviceSeen, failed_if}
use Rattle.machine.specs.State.{DeviceState}
use Rattle.machine.specs.Unsynced.{FlushesDisk, HasFlushed, kind_flushes}
use Rattle.machine.specs.declared.kind.Kind.{Kind}
use Rattle.machine.specs.declared.kind.Kind.TheVariants.{Network, Block, Outside, Console, Entropy}
use Rattle.machine.specs.declared.reply.Reply.{Reply}
use Rattle.machine.specs.declared.reply.Reply.TheVariants.{Moved}
use Rattle.machine.proofs.At.{IsAt, flushed_there, found_marks, map-set_same}
use Rattle.machine.proofs.Looking.{right_of_and}
use Rattle.machine.proofs.Reading.{same_state}

get_other : {A : Type 0} (xs : List A) (i k : ℕ) (x : A) → k ≢ i → slice_get (set xs i x) k ≡ slice_get xs k
get_other [] i k x other = refl
get_other (y ∷ xs) zero zero x other = absurd (other refl)
get_other (y ∷ xs) zero (suc k) x other = refl
get_other (y ∷ xs) (suc i) zero x other = refl
get_other (y ∷ xs) (suc i) (suc k) x other = get_other xs i k x (λ same. other (ap suc same))

-- A disk that was called once.
pub record IsCalled {T E : Type 0} (ds : List DeviceSeen) (dev : ℕ) (d new : DeviceSeen) (result : Result T E) : Type 0 where
  pub at : IsAt ds dev d
  pub state : new.state ≡ d.state
  pub sectors : new.sectors ≡ d.sectors
  pub marks : new.marks ≡ failed_if (not (is_ok result)) d.marks
  pub unsteady : OnErr result (d.marks.steady ≡ false)
  pub flushed : OnOk result (IsTrue new.is_flushed)

pub flushes_disk : {T E : Type 0} (m : Memory) (ds : List DeviceSeen) (dev : ℕ) (d new : DeviceSeen) (result : Result T E) → IsCalled ds dev d new result
    → FlushesDisk (record { memory = m; devices = ds }) dev result (record { memory = m; devices = set ds dev new })
flushes_disk m ds dev d new (Ok done) called = record {
  memory = refl;
  state = same_state m ds dev d new called.at called.state called.sectors;
  marks = map-set_same (λ (x : DeviceSeen). x.marks) ds dev d new called.at called.marks;
  failed = tt;
  unsteady = tt;
  flushed = rw (flushed_there ds dev d new called.at) called.flushed;
  others = λ k other. get_other ds dev k new other;
}
flushes_disk m ds dev d new (Err e) called = record {
  memory = refl;
  state = same_state m ds dev d new called.at called.state called.sectors;
  marks = tt;
  failed = rw (map-set (λ (x : DeviceSeen). x.marks) ds dev new, found_marks ds dev d called.at, called.marks) refl;
  unsteady = rw (found_marks ds dev d called.at) called.unsteady;
  flushed = tt;
  others = λ k other. get_other ds dev k new other;
}

-- No step of a device whose disk is outside flushes it.
not_flushing : (advancing : Bool) (kind : Kind) (k : ℕ) → is_outside kind ≡ true → (advancing && kind_flushes kind k) ≡ true → ⊥
not_flushing false kind k is h = cc
not_flushing true (Outside block) k is h = cc
not_flushing true (Network mac inbox) k is h = cc
not_flushing true (Block block) k is h = cc
not_flushing true (Console size held) k is h = cc
not_flushing true (Entropy pool) k is h = cc

pub unflushed_outside : (d : DeviceState) (pick : ℕ) (reply : Reply) (is_flushed : Bool) → is_outside d.kind ≡ true → HasFlushed d pick reply is_flushed
unflushed_outside d pick reply is_flushed is = λ makes done. absurd (not_flushing (advances d pick) d.kind (pick - 1) is makes)

-- The step that advances a request.
kind_flush : (kind : request.Kind) → is_flush kind ≡ true → kind ≡ Flush
kind_flush Flush is = refl
kind_flush Refused is = cc
kind_flush In is = cc
kind_flush Out is = cc
kind_flush GetId is = cc
kind_flush Zero is = cc

moved_on : (a : Advanced) → reply_to_advance a ≡ Moved → a ≡ advanced.Moved
moved_on advanced.Moved is = refl
moved_on advanced.Idle is = cc
moved_on advanced.BadSector is = cc
moved_on advanced.DiskFailed is = cc
moved_on (advanced.Completed len due) is = cc

flushed_by : (b : blocks.Block) (k : ℕ) (found : Option Request) (a : Advanced) (is_flushed : Bool) → slice_get b.requests k ≡ found → flushes_in found ≡ true → a ≡ advanced.Moved → blk.HasFlushed b k a is_flushed → IsTrue is_flushed
flushed_by b k None a is_flushed there is moved has = cc
flushed_by b k (Some r) a is_flushed there is moved has = has r there (kind_flush r.kind (right_of_and (is_open r) (is_flush r.kind) is)) moved

pub advanced_flush : (d : DeviceState) (b : blocks.Block) (pick : ℕ) (a : Advanced) (reply : Reply) (is_flushed : Bool) → d.kind ≡ Block b → reply ≡ reply_to_advance a → blk.HasFlushed b (pick - 1) a is_flushed → HasFlushed d pick reply is_flushed
advanced_flush d b pick a reply is_flushed kind_is reply_is has = λ makes done.
    let flush : kind_flushes d.kind (pick - 1) ≡ true = right_of_and (advances d pick) (kind_flushes d.kind (pick - 1)) makes in
    flushed_by b (pick - 1) (slice_get b.requests (pick - 1)) a is_flushed refl (rw kind_is at flush) (moved_on a (sym reply_is ∙ done)) has
