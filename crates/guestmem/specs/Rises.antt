-- Versions that rise in exactly the pages that a step touches. A later RAM may have any version raised; a host that mirrors RAM
-- by versions would then overwrite what it wrote into a page that no step touched. So each call that writes RAM says this too,
-- of the items by which the log changes. A version rises by one at least, not by one: a list of writes names a page once for
-- each byte, and a step may write into a page more than once. The relations of steps take what touching means as one argument,
-- so that log and versions are handed on as one fact.
use Rattle.std.specs.Prelude.{◌≡◌, ℕ, ◌≤◌, List, slice_index}
use Rattle.guestmem.specs.Among.{Among}
use Rattle.guestmem.specs.Item.{Item, page, after_all}
use Rattle.guestmem.specs.Memory.{Memory}
use Rattle.guestmem.specs.Write.{raised}

-- The versions rise in exactly the pages that are among these items: the version of such a page has risen, by one at least, unless
-- it is 2^64 - 1; the version of every other page is unchanged.
pub record Rises (items : List Item) (old new : Memory) : Type 0 where
  pub rises : (n : ℕ) → Among items (page n) → raised (slice_index old.versions n) ≤ slice_index new.versions n
  pub stays : (n : ℕ) → ¬ (Among items (page n)) → slice_index new.versions n ≡ slice_index old.versions n

-- Exactly these items were touched: a log has taken them in, and the versions rise in exactly the pages among them.
pub record Touches {L : Type 0} (after : L → Item → L) (log new_log : L) (old new : Memory) (items : List Item) : Type 0 where
  pub log_is : new_log ≡ after_all after log items
  pub rises : Rises items old new
