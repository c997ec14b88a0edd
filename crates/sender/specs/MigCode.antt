-- The numbers of the reasons why a machine is not sent.
use Rattle.std.specs.Prelude.{ℕ}
use Rattle.sender.specs.declared.mig_error.MigError.{MigError}
use Rattle.sender.specs.declared.mig_error.MigError.TheVariants.{AlreadyBegun, AlreadyStopped, DiskFailed, NotBegun, RoundsEnded, StreamFailed}

abbrev pub mig_code_of : MigError → ℕ
mig_code_of NotBegun = 1
mig_code_of AlreadyBegun = 2
mig_code_of (DiskFailed dev sector) = 3
mig_code_of StreamFailed = 4
mig_code_of AlreadyStopped = 5
mig_code_of RoundsEnded = 6
