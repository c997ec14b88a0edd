-- The machine that a setup asks for, in a handle.
use Rattle.std.specs.Prelude.{◌≡◌, ℕ, None, Option, length}
use Rattle.machine.specs.Seen.{Seen}
use Rattle.c_handle.specs.Kept.{IsNew, KeptSeen, Still, places_for}
use Rattle.c_machine.specs.Made.{IsFirstOf, IsUntaken, has_images, has_ram, ram_bytes, ram_left, setup_refusal_of}
use Rattle.c_machine.specs.Mapping.{AreTaken}
use Rattle.c_handle.specs.Filled.{Fills}
use Rattle.c_machine.specs.declared.setup.Setup.{Setup}

-- A log of it has a place for each of its pages.
abbrev pub places_of : Setup → ℕ
places_of s = places_for s.flags (ram_bytes s.pages (length s.ram.content))

-- The new machine. It is not being migrated.
pub record IsMachineOf (s : Setup) (k : KeptSeen) : Type 0 where
  pub machine : Seen
  pub new : IsNew (has_images s) s.flags (places_of s) s.block s.calls_from k
  pub is_idle : k.state ≡ Still machine
  pub not_arriving : k.telling ≡ None
  pub is_first : IsFirstOf s machine

-- It was made as the struct says, and RAM and images that this names were taken.
pub record IsMadeOf (s next : Setup) (k : KeptSeen) : Type 0 where
  pub is_made : IsMachineOf s k
  pub ram_taken : next.ram ≡ ram_left (has_ram s) s.ram
  pub images_taken : AreTaken s.images.now next.images.now

-- A machine was made as the struct says, or the status says why not.
abbrev pub Makes : Option KeptSeen → Setup → ℕ → Setup → Option KeptSeen → Type 0
Makes old s status next after = Fills (setup_refusal_of s) (IsMadeOf s next) (IsUntaken s next) old status after
