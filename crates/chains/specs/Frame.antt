-- What is asked before every step on a ring, and what every step leaves: said once, so that no function adds to it.
use Rattle.std.specs.Prelude.{◌≡◌, ℕ, length}
use Rattle.guestmem.specs.Item.{Item, MayPages}
use Rattle.guestmem.specs.Later.{IsLater}
use Rattle.guestmem.specs.Memory.{Memory}
use Rattle.chains.specs.Decoder.{DecoderState, Fits}
use Rattle.chains.specs.State.{RingState, HasAreas}

-- A step may be made on a ring: its areas lie inside a RAM of `len` bytes, and every page of that RAM may be passed to the
-- log.
pub record MayServe {L : Type 0} (may : L → Item → Type 0) (len : ℕ) (q : RingState) (log : L) : Type 0 where
  pub areas : HasAreas len q
  pub pages : MayPages may log len

-- A step that looks for a chain may be made on a ring: besides, what the ring keeps fits RAM.
pub record MayLook {L : Type 0} (may : L → Item → Type 0) (ram : Memory) (q : RingState) (d : DecoderState) (log : L) : Type 0 where
  pub areas : HasAreas (length ram.bytes) q
  pub pages : MayPages may log (length ram.bytes)
  pub fits : Fits d ram

-- What every step leaves: a later state of the RAM, every page of which may be passed to the log.
pub record HasServed {L : Type 0} (may : L → Item → Type 0) (old new : Memory) (log : L) : Type 0 where
  pub later : IsLater old new
  pub pages : MayPages may log (length new.bytes)

-- What every step that looked for a chain leaves: besides, what the ring keeps fits RAM.
pub record HasLooked {L : Type 0} (may : L → Item → Type 0) (old new : Memory) (d : DecoderState) (log : L) : Type 0 where
  pub later : IsLater old new
  pub pages : MayPages may log (length new.bytes)
  pub fits : Fits d new

-- A step has changed nothing of RAM, a ring and a log.
pub record IsUntouched {L : Type 0} (old new : Memory) (q new_q : RingState) (log new_log : L) : Type 0 where
  pub ram_is : new ≡ old
  pub ring_is : new_q ≡ q
  pub log_is : new_log ≡ log
