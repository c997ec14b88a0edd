-- What is saved is received.
use Rattle.std.proofs.Common.{ℕ, List, sym, ◌∙◌}
use Rattle.machine.specs.Seen.{Marks}
use Rattle.machine.specs.State.{MachineState}
use Rattle.wire.specs.Stream.{IsStream, whole}
use Rattle.wire.proofs.Unique.{one_machine}
use Rattle.wire.proofs.Whole.{whole_is_stream}
use Rattle.receiver.specs.Laws.{IsSpoilt, SavedIsReceived}
use Rattle.receiver.specs.Receiving.{NoFault, RefusesSlice}
use Rattle.receiver.specs.Opened.{terms_at}
use Rattle.receiver.specs.declared.recv_error.RecvError.{RecvError}
use Rattle.receiver.specs.declared.terms.Terms.{Terms}
use Rattle.receiver.specs.declared.recv_error.RecvError.TheVariants as errors
use Rattle.receiver.proofs.Whole.{stream_quiet}

-- A stream is refused for want of memory alone, or since a disk failed.
only_spoilt : (terms : Terms) (sizes bytes : List ℕ) (marks : List Marks) (m : MachineState) → NoFault (terms_at terms) sizes bytes → IsStream bytes m → (e : RecvError) → RefusesSlice terms sizes marks bytes e → IsSpoilt marks e
only_spoilt terms sizes bytes marks m none s errors.BadMagic h = absurd (none errors.BadMagic h.0 h.1)
only_spoilt terms sizes bytes marks m none s errors.BadVersion h = absurd (none errors.BadVersion h.0 h.1)
only_spoilt terms sizes bytes marks m none s errors.BadShape h = absurd (none errors.BadShape h.0 h.1)
only_spoilt terms sizes bytes marks m none s errors.ShapeMismatch h = absurd (none errors.ShapeMismatch h.0 h.1)
only_spoilt terms sizes bytes marks m none s errors.BadTag h = absurd (none errors.BadTag h.0 h.1)
only_spoilt terms sizes bytes marks m none s errors.BadPage h = absurd (none errors.BadPage h.0 h.1)
only_spoilt terms sizes bytes marks m none s errors.BadSector h = absurd (none errors.BadSector h.0 h.1)
only_spoilt terms sizes bytes marks m none s errors.BadRound h = absurd (none errors.BadRound h.0 h.1)
only_spoilt terms sizes bytes marks m none s errors.BadDevice h = absurd (none errors.BadDevice h.0 h.1)
only_spoilt terms sizes bytes marks m none s errors.BadDigest h = absurd (none errors.BadDigest h.0 h.1)
only_spoilt terms sizes bytes marks m none s errors.Missing h = absurd (none errors.Missing h.0 h.1)
only_spoilt terms sizes bytes marks m none s errors.Trailing h = absurd (none errors.Trailing h.0 h.1)
only_spoilt terms sizes bytes marks m none s errors.Truncated h = absurd (h.1 m s)
only_spoilt terms sizes bytes marks m none s errors.DiskFailed h = h
only_spoilt terms sizes bytes marks m none s errors.NoMemory h = tt
only_spoilt terms sizes bytes marks m none s errors.AlreadyFailed h = absurd (none errors.AlreadyFailed h.0 h.1)

pub saved_received : SavedIsReceived
saved_received terms sizes marks m sound within based fits =
    let s = whole_is_stream m sound in
    (only_spoilt terms sizes (whole m) marks m (stream_quiet (terms_at terms) sizes (whole m) m s based tt within fits) s, λ k t at. one_machine (whole m) k m t s (at ∙ sym based))
