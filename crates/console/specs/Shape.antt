-- The state of a console and of an entropy device.
use Rattle.std.specs.Prelude.{◌≤◌, ◌<◌, ◌^◌, ℕ, List, length}
use Rattle.guestmem.specs.Number.{IsBytes}
use Rattle.console.specs.declared.host_bytes.TheConstants.{HOST_BYTES_MAX}
use Rattle.console.specs.declared.size.ConsoleSize.{ConsoleSize}

-- Bytes that the host has put in: at most 4,096.
pub record AreHostBytes (bytes : List ℕ) : Type 0 where
  pub few : length bytes ≤ HOST_BYTES_MAX
  pub are : IsBytes bytes

-- The state of a console: a size whose columns and rows fit the 16-bit fields of its configuration, and bytes from the host.
pub record IsSoundConsole (size : ConsoleSize) (held : List ℕ) : Type 0 where
  pub columns : size.columns < 2 ^ 16
  pub rows : size.rows < 2 ^ 16
  pub text : AreHostBytes held
