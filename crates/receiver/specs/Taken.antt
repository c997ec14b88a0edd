-- What was received of the items of a machine.
use Rattle.std.specs.Prelude.{◌≡◌, ℕ, ◌*◌, Bool, true, false, List, length, get_or, is_some, Option, Some, None}
use Rattle.guestmem.specs.Item.{Item}
use Rattle.machine.specs.Layout.{Layout, IsItemIn, number_of, size_of}
use Rattle.blk.specs.Sectors.{Sector}
use Rattle.wire.specs.Records.{Record}
use Rattle.wire.specs.Stream.{last_named, record_in}

abbrev pub shown : {A : Type 0} → Bool → A → Option A
shown true x = Some x
shown false x = None

-- An item is marked exactly if a record names it. RAM and these disks hold for each marked item the contents that the last record that
-- names it gives.
pub record AreTaken (version : ℕ) (ram : List ℕ) (disks : List (List Sector)) (named : List Bool) (l : Layout) (es : List Record) : Type 0 where
  pub ram_size : length ram ≡ 4096 * l.pages
  pub named_size : length named ≡ size_of l
  pub marks : (i : Item) → IsItemIn l i → is_some (last_named i es) ≡ get_or named (number_of l i) false
  pub last : (i : Item) → IsItemIn l i → last_named i es ≡ shown (get_or named (number_of l i) false) (record_in version ram disks i)
