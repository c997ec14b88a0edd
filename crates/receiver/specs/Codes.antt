-- The numbers of the refusals.
use Rattle.std.specs.Prelude.{ℕ}
use Rattle.receiver.specs.declared.recv_error.RecvError.{RecvError}
use Rattle.receiver.specs.declared.recv_error.RecvError.TheVariants.{BadMagic, BadVersion, BadShape, ShapeMismatch, BadTag, BadPage, BadSector, BadRound, BadDevice, BadDigest, Missing, Trailing, Truncated, DiskFailed, NoMemory, AlreadyFailed}

abbrev pub recv_code_of : RecvError → ℕ
recv_code_of BadMagic = 1
recv_code_of BadVersion = 2
recv_code_of BadShape = 3
recv_code_of ShapeMismatch = 4
recv_code_of BadTag = 5
recv_code_of BadPage = 6
recv_code_of BadSector = 7
recv_code_of BadRound = 8
recv_code_of BadDevice = 9
recv_code_of BadDigest = 10
recv_code_of Missing = 11
recv_code_of Trailing = 12
recv_code_of Truncated = 13
recv_code_of DiskFailed = 14
recv_code_of NoMemory = 15
recv_code_of AlreadyFailed = 16
