-- The memory that a machine takes beside what it is made of.
use Rattle.std.specs.Prelude.{◌≡◌, ◌≤◌, ℕ, List, []}

-- How many devices and how many disks there is room for.
pub record RoomSeen : Type 0 where
  pub devices : ℕ
  pub disks : ℕ

-- An empty list with room for at least `count` items.
pub record HasRoom {T : Type 0} (count : ℕ) (items : List T) (capacity : ℕ) : Type 0 where
  pub none : items ≡ []
  pub room : count ≤ capacity
