-- Bytes at whose front there is no header of a machine within some limits.
use Rattle.std.proofs.Common.{◌≢◌, ℕ, List, refl}
use Rattle.machine.specs.declared.limits.Limits.{Limits}
use Rattle.wire.specs.HeaderFaults.{IsHeaderPart, OnFault, ShowsFault}
use Rattle.wire.specs.declared.header_error.HeaderError.{HeaderError}
use Rattle.wire.specs.declared.header_error.HeaderError.TheVariants as errors
use Rattle.wire.proofs.HeaderParts.{begun_without_fault}
use Rattle.vmig.specs.Checking.{BeginsNot}

pub none_at_fault : (l : Limits) (bytes : List ℕ) (k : HeaderError) → k ≢ errors.NoMemory → OnFault k ((at : ℕ) × ShowsFault l k bytes at) → BeginsNot l bytes
none_at_fault l bytes errors.BadMagic some h = λ opening rest w b. begun_without_fault l bytes opening rest w b errors.BadMagic h.0 h.1
none_at_fault l bytes errors.BadVersion some h = λ opening rest w b. begun_without_fault l bytes opening rest w b errors.BadVersion h.0 h.1
none_at_fault l bytes errors.BadShape some h = λ opening rest w b. begun_without_fault l bytes opening rest w b errors.BadShape h.0 h.1
none_at_fault l bytes errors.NoMemory some h = absurd (some refl)

pub none_in_part : (l : Limits) (bytes : List ℕ) → IsHeaderPart l bytes → BeginsNot l bytes
none_in_part l bytes part = λ opening rest within. part.no_header opening rest
