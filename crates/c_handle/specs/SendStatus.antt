-- The statuses of the calls of a migration.
use Rattle.std.specs.Prelude.{ℕ, ◌+◌}
use Rattle.sender.specs.MigCode.{mig_code_of}
use Rattle.sender.specs.declared.event.LiveReply.{LiveReply}
use Rattle.sender.specs.declared.event.LiveReply.TheVariants as live
use Rattle.sender.specs.declared.mig_error.MigError.{MigError}
use Rattle.c_machine.specs.Status.{status_of}

-- The status of a call of a migration that was refused.
abbrev pub mig_status : MigError → ℕ
mig_status error = 16 + mig_code_of error

-- The status of a reply of a machine that is being migrated.
abbrev pub live_status : LiveReply → ℕ
live_status (live.Guest reply) = status_of reply
live_status (live.Begun round) = 0
live_status (live.Copied item) = 0
live_status live.RoundDone = 76
live_status live.RoundOpen = 77
live_status (live.Stopped pages sectors) = 0
live_status (live.Mig error) = mig_status error
