-- What becomes of a handle whose machine is lent.
use Rattle.std.specs.Prelude.{Some}
use Rattle.std.specs.Borrow.{Lends, MutBor, Fml}
use Rattle.c_handle.specs.Kept.{KeptSeen}
use Rattle.c_handle.specs.Owned.{kept_row}
use Rattle.c_handle.specs.declared.handle.Handle.{Handle}
use Rattle.c_handle.specs.contracts.handle.Handle.{the_row}

-- The handle with another machine in it.
abbrev pub with_machine : Handle → KeptSeen → Handle
with_machine h m = record h { machine = Some m }

-- When the borrow ends, the handle has the machine that r has then.
abbrev pub LendsMachine : MutBor Handle → MutBor KeptSeen → Fml
LendsMachine s r = Lends the_row kept_row s r (with_machine s.now)
