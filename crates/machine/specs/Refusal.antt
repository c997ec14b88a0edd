use Rattle.std.specs.Prelude.{ℕ}
use Rattle.machine.specs.declared.reply.Refusal.{Refusal}
use Rattle.machine.specs.declared.reply.Refusal.TheVariants.{NoDevice, OutOfRam, TooLong, WrongKind, BadFrame}
use Rattle.machine.specs.declared.new_error.NewError.{NewError}
use Rattle.machine.specs.declared.new_error.NewError.TheVariants.{BadShape, DiskMismatch, NoMemory}

-- The number that stands for a refusal in a reply line.
abbrev pub code_of : Refusal → ℕ
code_of NoDevice = 1
code_of OutOfRam = 2
code_of TooLong = 3
code_of WrongKind = 4
code_of BadFrame = 5

-- The number that stands for the reason why a machine is not made.
abbrev pub new_code_of : NewError → ℕ
new_code_of BadShape = 1
new_code_of DiskMismatch = 2
new_code_of NoMemory = 3
