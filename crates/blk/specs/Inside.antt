-- A disk outside of the machine, against one in it: an answer leaves what as many steps of the block device do over a list of sectors.
use Rattle.std.specs.Prelude.{◌≡◌, ℕ, Bool, zero, suc, ◌+◌, ◌*◌, ◌<◌, ◌≤◌, true, false, List, [], ◌++◌, length, take, drop, replicate, slice_get, slice_set, Some}
use Rattle.guestmem.specs.Writes.{set_all}
use Rattle.chains.specs.State.{RingState}
use Rattle.blk.specs.Advance.{AdvanceStep, advance_step}
use Rattle.blk.specs.Block.{with_requests}
use Rattle.blk.specs.Move.{sectors_set}
use Rattle.blk.specs.Outside.{Answer, Did, Failed, Gave, answer_step, awaits, awaits_at, outside_step, written_bytes}
use Rattle.blk.specs.Request.{next_sector}
use Rattle.blk.specs.Sectors.{AreWhole, Sector, bytes_of, is_bad, sector_in}
use Rattle.blk.specs.declared.block.Block.{Block}
use Rattle.blk.specs.declared.disk.TheConstants.{SECTOR_SIZE}
use Rattle.blk.specs.declared.request.Kind.TheVariants.{Out, Flush, Zero}
use Rattle.blk.specs.declared.request.Request.{Request}

-- RAM, the sectors of a disk, and the device.
pub record Inside : Type 0 where
  pub ram : List ℕ
  pub content : List Sector
  pub block : Block

abbrev pub after_step : Inside → AdvanceStep → Inside
after_step s a = record { ram = set_all s.ram a.writes; content = sectors_set s.content a.sets; block = a.block }

-- The k-th request after `n` steps, one after another, over a disk of these sectors in the machine, none of whose calls fails.
abbrev pub units_done : RingState → ℕ → ℕ → Inside → Inside
units_done q k zero s = s
units_done q k (suc n) s = units_done q k n (after_step s (advance_step s.ram q s.content s.block k true))

-- The bytes of `n` sectors, from the first one on.
abbrev pub held : List Sector → ℕ → ℕ → List ℕ
held content first zero = []
held content first (suc n) = bytes_of (sector_in content first) ++ held content (first + 1) n

abbrev pub AreGood : List Sector → ℕ → ℕ → Type 0
AreGood content first n = (j : ℕ) → j < n → is_bad (sector_in content (first + j)) ≡ false

-- The sectors after `n` of them, from the first one on, are set to these bytes.
abbrev pub set_run : List Sector → ℕ → List ℕ → ℕ → List Sector
set_run content first bytes zero = content
set_run content first bytes (suc n) = set_run (slice_set content first (Some (take SECTOR_SIZE bytes))) (first + 1) (drop SECTOR_SIZE bytes) n

-- RAM and the device after an answer, and these sectors.
abbrev pub after_answer : RingState → List ℕ → Block → ℕ → Answer → List Sector → Inside
after_answer q ram b k answer content =
    record { ram = set_all ram (answer_step q.base b.requests k answer).writes; content = content; block = with_requests b (answer_step q.base b.requests k answer).requests }

-- A disk that gives what a list of sectors holds is one in the machine that holds it.
abbrev pub GivenIsRead : Type 0
GivenIsRead = (q : RingState) (ram : List ℕ) (content : List Sector) (b : Block) (k n : ℕ) (r : Request) → slice_get b.requests k ≡ Some r → AreWhole content → AreGood content (next_sector r) n → next_sector r + n ≤ length content
    → awaits r (Gave (held content (next_sector r) n)) ≡ true
    → units_done q k n (record { ram = ram; content = content; block = b }) ≡ after_answer q ram b k (Gave (held content (next_sector r) n)) content

-- A disk that did a write has set its sectors to the bytes that were to be written, as they lie in RAM at the answer.
abbrev pub WrittenIsSet : Type 0
WrittenIsSet = (q : RingState) (ram : List ℕ) (content : List Sector) (b : Block) (k n : ℕ) (r : Request) → slice_get b.requests k ≡ Some r → r.kind ≡ Out → awaits r (Did n) ≡ true
    → units_done q k n (record { ram = ram; content = content; block = b }) ≡ after_answer q ram b k (Did n) (set_run content (next_sector r) (written_bytes q.base ram r (SECTOR_SIZE * n)) n)

-- One that cleared sectors has set them to zeros.
abbrev pub ClearedIsSet : Type 0
ClearedIsSet = (q : RingState) (ram : List ℕ) (content : List Sector) (b : Block) (k n : ℕ) (r : Request) → slice_get b.requests k ≡ Some r → r.kind ≡ Zero → awaits r (Did n) ≡ true
    → units_done q k n (record { ram = ram; content = content; block = b }) ≡ after_answer q ram b k (Did n) (set_run content (next_sector r) (replicate (SECTOR_SIZE * n) 0) n)

-- A flush sets none.
abbrev pub FlushedIsSame : Type 0
FlushedIsSame = (q : RingState) (ram : List ℕ) (content : List Sector) (b : Block) (k n : ℕ) (r : Request) → slice_get b.requests k ≡ Some r → r.kind ≡ Flush → awaits r (Did n) ≡ true
    → units_done q k n (record { ram = ram; content = content; block = b }) ≡ after_answer q ram b k (Did n) content

-- A request that does not wait for its disk advances alike over any sectors, and whatever a call of the disk would do.
abbrev pub OthersAreAlike : Type 0
OthersAreAlike = (ram : List ℕ) (q : RingState) (content : List Sector) (b : Block) (k : ℕ) (is_fine : Bool) → awaits_at b.requests k Failed ≡ false → advance_step ram q content b k is_fine ≡ outside_step ram q b k
