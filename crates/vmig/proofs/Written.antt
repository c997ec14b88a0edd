-- What was written, whole or a beginning of it, and what failed.
use Rattle.std.proofs.Common.{ℕ, List, [], append-nil, sym, length, Option, Some, None, Result, Ok, Err, OnOk, OnErr, refl}
use Rattle.std.proofs.Math.Seq.{take-length}
use Rattle.std.specs.Io.KnownBytes.{Appends, Keeps}
use Rattle.traces.specs.Replies.{AppendsBeginning}
use Rattle.traces.proofs.Known.{keeps_on}
use Rattle.traces.specs.declared.parts.WriteFault.{WriteFault}

pub keeps_same : (o : Option (List ℕ)) → Keeps o o
keeps_same None = tt
keeps_same (Some bytes) = refl

pub nothing_more : (o : Option (List ℕ)) → Appends o o []
nothing_more None = tt
nothing_more (Some bytes) = sym (append-nil bytes)

-- the whole is a beginning of itself
pub whole_begun : (a b : Option (List ℕ)) (xs : List ℕ) → Appends a b xs → AppendsBeginning a b xs
whole_begun a b xs h = (length xs, rw take-length h)

pub either_begun : (r : Result (Unit {0}) WriteFault) (a b : Option (List ℕ)) (xs : List ℕ) → OnOk r (Appends a b xs) → OnErr r (AppendsBeginning a b xs) → AppendsBeginning a b xs
either_begun (Ok done) a b xs whole part = whole_begun a b xs whole
either_begun (Err failure) a b xs whole part = part

-- a flush keeps what was written, whether it fails or not
pub flushed : (r : Result (Unit {0}) WriteFault) (a b c : Option (List ℕ)) (xs : List ℕ) → Appends a b xs → Keeps b c → OnOk r (Appends a c xs)
flushed (Ok done) a b c xs written kept = keeps_on a b c xs written kept
flushed (Err failure) a b c xs written kept = tt

pub flush_failed : (r : Result (Unit {0}) WriteFault) (a b c : Option (List ℕ)) (xs : List ℕ) → Appends a b xs → Keeps b c → OnErr r (AppendsBeginning a c xs)
flush_failed (Ok done) a b c xs written kept = tt
flush_failed (Err failure) a b c xs written kept = whole_begun a c xs (keeps_on a b c xs written kept)
