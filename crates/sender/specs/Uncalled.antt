-- No disk of a machine is called.
use Rattle.std.specs.Prelude.{◌≡◌}
use Rattle.machine.specs.Seen.{Seen, all_calls}

abbrev pub CallsNone : Seen → Seen → Type 0
CallsNone old new = all_calls new ≡ all_calls old
