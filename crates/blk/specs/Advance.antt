-- The step that advances a request, or ends it (VIRTIO 1.2, 5.2.6).
use Rattle.std.specs.Prelude.{◌≡◌, ℕ, ◌+◌, ◌*◌, ◌==◌, Bool, IsTrue, true, false, not, List, [], ◌∷◌, ◌++◌, length, slice_set, slice_get, Option, Some, None, if◌then◌else◌}
use Rattle.std.specs.List.{remove}
use Rattle.guestmem.specs.Item.{Item}
use Rattle.guestmem.specs.Rises.{Touches}
use Rattle.guestmem.specs.Writes.{Write, set_all, touched}
use Rattle.chains.specs.Served.{Scene}
use Rattle.chains.specs.State.{RingState}
use Rattle.chains.specs.Places.{places, last_place, place_writes}
use Rattle.chains.specs.Publish.{published, is_interrupt_due, after_publish}
use Rattle.blk.specs.Sectors.{IsGiven, Sector, SectorsState}
use Rattle.blk.specs.Request.{verdict_byte, is_open}
use Rattle.blk.specs.Move.{AreSet, Move, SectorSet, is_bad_sector, is_disk_failed, sectors_touched, move_of}
use Rattle.blk.specs.declared.disk.TheConstants.{SECTOR_SIZE}
use Rattle.blk.specs.declared.shape.TheConstants.{ID_SIZE}
use Rattle.blk.specs.declared.request.Kind.{Kind}
use Rattle.blk.specs.declared.request.Kind.TheVariants as kind
use Rattle.blk.specs.declared.request.Request.{Request}
use Rattle.blk.specs.Block.{with_requests}
use Rattle.blk.specs.declared.block.Block.{Block}
use Rattle.blk.specs.declared.advancing.Advanced.{Advanced}
use Rattle.blk.specs.declared.advancing.Advanced.TheVariants.{Idle, Moved, Completed}

-- The bytes of data that were written into a request of which `done` units are done.
abbrev pub data_written : Kind → ℕ → ℕ
data_written kind.In done = SECTOR_SIZE * done
data_written kind.GetId done = ID_SIZE * done
data_written _ done = 0

-- The used length: the bytes of data, and the verdict's byte too if it follows them directly, since only contiguous bytes
-- from the first one on may be reported as written (VIRTIO 1.2, 2.7.8.2 and 2.8.4).
abbrev pub used_len : Request → ℕ
used_len r =
    if data_written r.kind r.done + 1 == length (places r.writable) then length (places r.writable) else data_written r.kind r.done

-- The verdict is written to the last writable place, in a RAM with this base.
abbrev pub verdict_writes : ℕ → Request → List Write
verdict_writes base r = place_writes base (last_place r.writable) (verdict_byte r.verdict ∷ [])

-- The verdict is written, and then the chain is published as one that the device wrote into: it wrote the verdict at least.
unfoldable pub end_writes : RingState → Request → List Write
end_writes q r = verdict_writes q.base r ++ published q r.id r.slots (used_len r) true

-- What advancing returns and changes: its answer, writes of RAM, sectors that are set, the ring's positions, and the device.
pub record AdvanceStep : Type 0 where
  pub answer : Advanced
  pub writes : List Write
  pub sets : List SectorSet
  pub ring : RingState
  pub block : Block

abbrev pub after_move : RingState → Block → ℕ → Move → AdvanceStep
after_move q b k m = record { answer = m.answer; writes = m.writes; sets = m.sets; ring = q; block = with_requests b (slice_set b.requests k m.request) }

-- The request ends. Whether an interrupt is due is read from RAM after all these writes.
abbrev pub completed : List ℕ → RingState → Block → ℕ → Request → AdvanceStep
completed ram q b k r = record {
  answer = Completed (used_len r) (is_interrupt_due q r.slots (set_all ram (end_writes q r)));
  writes = end_writes q r;
  sets = [];
  ring = after_publish q r.slots;
  block = with_requests b (remove b.requests k);
}

abbrev pub advance_one : List ℕ → RingState → List Sector → Block → ℕ → Bool → Option Request → AdvanceStep
advance_one ram q content b k is_fine None = record { answer = Idle; writes = []; sets = []; ring = q; block = b }
advance_one ram q content b k is_fine (Some r) =
    if is_open r then after_move q b k (move_of r.kind q.base b.id ram content r is_fine) else completed ram q b k r

-- The k-th outstanding request, from 0, advances by one unit, or ends. `is_fine` says whether a call of the disk, if one is
-- made, succeeds.
abbrev pub advance_step : List ℕ → RingState → List Sector → Block → ℕ → Bool → AdvanceStep
advance_step ram q content b k is_fine = advance_one ram q content b k is_fine (slice_get b.requests k)

-- Such a step was made, with the sectors as the disk returned them: what it answers, and RAM, the ring, the sectors and the device
-- after it, and which items were touched. What touching is, as that a log has taken them in, `touches` says.
pub record IsAfterAdvancing (touches : List Item → Type 0) (honest : Bool) (device : ℕ) (ram : List ℕ) (content : List Sector) (step : List Sector → AdvanceStep) (answer : Advanced) (new_ram : List ℕ) (new_ring : RingState) (new_content : List Sector) (new_block : Block) : Type 0 where
  pub given : List Sector
  pub is_given : IsGiven honest content given
  pub answer_is : answer ≡ (step given).answer
  pub ram_is : new_ram ≡ set_all ram (step given).writes
  pub ring_is : new_ring ≡ (step given).ring
  pub content_is : AreSet honest content (step given).sets new_content
  pub block_is : new_block ≡ (step given).block
  pub items_are : touches (touched (step given).writes ++ sectors_touched device (step given).sets)

-- A step was made with this answer, which advanced the k-th request, from 0, of the device with this number.
abbrev pub HasAdvanced : {L : Type 0} → (L → Item → L) → ℕ → ℕ → Scene L Block → SectorsState → Scene L Block → SectorsState → Advanced → Type 0
HasAdvanced after device k old sectors new new_sectors answer =
    IsAfterAdvancing (Touches after old.log new.log old.ram new.ram) sectors.honest device old.ram.bytes sectors.content (λ given. advance_step old.ram.bytes old.ring given old.state k (not (is_disk_failed answer))) answer new.ram.bytes new.ring new_sectors.content new.state

-- A request to flush that advanced has left its disk flushed.
abbrev pub HasFlushed : Block → ℕ → Advanced → Bool → Type 0
HasFlushed b k answer is_flushed =
    (r : Request) → slice_get b.requests k ≡ Some r → r.kind ≡ kind.Flush → answer ≡ Moved → IsTrue is_flushed

-- Whether a unit of this kind that is answered so has called the disk: a bad sector is not read, and the id is the device's own.
abbrev pub asks : Kind → Advanced → Bool
asks kind.In answer = not (is_bad_sector answer)
asks kind.Out answer = true
asks kind.Flush answer = true
asks kind.Zero answer = true
asks kind.GetId answer = false
asks kind.Refused answer = false

abbrev pub asks_one : Advanced → Option Request → Bool
asks_one answer None = false
asks_one answer (Some r) = if is_open r then asks r.kind answer else false

-- Whether the step of the k-th outstanding request, from 0, has called the disk: none where it ends, or is not there.
abbrev pub asks_at : Block → ℕ → Advanced → Bool
asks_at b k answer = asks_one answer (slice_get b.requests k)
