-- Headers as far as they came, and their faults for what is said of RAM and disks.
use Rattle.std.proofs.Common.{◌≡◌, ℕ, List, sym, ap, subst, ◌∙◌}
use Rattle.machine.specs.Limits.{AreWithin, usual}
use Rattle.machine.specs.Shapes.{disk_sizes}
use Rattle.machine.specs.declared.limits.Limits.{Limits}
use Rattle.machine.specs.declared.shape.Shape.{Shape}
use Rattle.wire.specs.Header.{Begins, Opening}
use Rattle.wire.specs.HeaderFaults.{IsHeaderPart, OnFault, ShowsFault}
use Rattle.wire.specs.declared.header_error.HeaderError.{HeaderError}
use Rattle.wire.specs.declared.header_error.HeaderError.TheVariants as heads
use Rattle.wire.proofs.HeaderParts.{begun_without_fault, header_same, says_of}
use Rattle.receiver.specs.Faults.{IsHeaderFault, ShowsHeaderFault, TellsHead, WaitsHead, recv_error_of}
use Rattle.receiver.specs.Opened.{HasPages}
use Rattle.receiver.specs.declared.ram_terms.RamTerms.{RamTerms}
use Rattle.receiver.specs.declared.recv_error.RecvError.{RecvError}
use Rattle.receiver.specs.declared.recv_error.RecvError.TheVariants as errors

-- A header that is not whole, with no fault.
no_fault_yet : (limits : Limits) (bytes : List ℕ) → IsHeaderPart limits bytes → (ram : RamTerms) (sizes : List ℕ) (k : RecvError) (at : ℕ) → ram.limits ≡ limits → ¬ (IsHeaderFault ram sizes bytes k at)
no_fault_yet limits bytes p ram sizes errors.BadMagic at is h = p.no_fault heads.BadMagic at h
no_fault_yet limits bytes p ram sizes errors.BadVersion at is h = p.no_fault heads.BadVersion at (subst (λ (l : Limits). ShowsFault l heads.BadVersion bytes at) is h)
no_fault_yet limits bytes p ram sizes errors.BadShape at is h = p.no_fault heads.BadShape at (subst (λ (l : Limits). ShowsFault l heads.BadShape bytes at) is h)
no_fault_yet limits bytes p ram sizes errors.ShapeMismatch at is h = p.no_header h.opening h.more h.begins
no_fault_yet limits bytes p ram sizes _ at is h = h

pub waits_head : (limits : Limits) (bytes : List ℕ) → IsHeaderPart limits bytes → WaitsHead limits bytes
waits_head limits bytes p = record { no_header = p.no_header; no_fault = no_fault_yet limits bytes p }

-- A fault of the header is one whatever else is said of RAM and disks.
told_so : (limits : Limits) (bytes : List ℕ) (k : HeaderError) → OnFault k ((at : ℕ) × ShowsFault limits k bytes at) → TellsHead (recv_error_of k) (ShowsHeaderFault limits bytes (recv_error_of k))
told_so limits bytes heads.BadMagic h = λ ram sizes is. h
told_so limits bytes heads.BadVersion h = λ ram sizes is. subst (λ (l : Limits). (at : ℕ) × ShowsFault l heads.BadVersion bytes at) (sym is) h
told_so limits bytes heads.BadShape h = λ ram sizes is. subst (λ (l : Limits). (at : ℕ) × ShowsFault l heads.BadShape bytes at) (sym is) h
told_so limits bytes heads.NoMemory h = tt

pub told_head : (limits : Limits) (bytes : List ℕ) (k : HeaderError) (e : RecvError) → e ≡ recv_error_of k → OnFault k ((at : ℕ) × ShowsFault limits k bytes at) → TellsHead e (ShowsHeaderFault limits bytes e)
told_head limits bytes k e is h = rw is (told_so limits bytes k h)

-- The same of limits that are the usual ones.
pub waits_usual : (limits : Limits) (bytes : List ℕ) → limits ≡ usual → WaitsHead limits bytes → WaitsHead usual bytes
waits_usual limits bytes is waits = subst (λ (l : Limits). WaitsHead l bytes) is waits

pub told_usual : (limits : Limits) (bytes : List ℕ) (e : RecvError) → limits ≡ usual → TellsHead e (ShowsHeaderFault limits bytes e) → TellsHead e (ShowsHeaderFault usual bytes e)
told_usual limits bytes e is told = subst (λ (l : Limits). TellsHead e (ShowsHeaderFault l bytes e)) is told

pub within_usual : (limits : Limits) (pages : ℕ) (shapes : List Shape) → limits ≡ usual → AreWithin limits pages shapes → AreWithin usual pages shapes
within_usual limits pages shapes is within = subst (λ (l : Limits). AreWithin l pages shapes) is within

-- Behind a whole header that suits limits, RAM and disks no fault of one stands.
pub no_header_fault : (ram : RamTerms) (sizes bytes : List ℕ) (opening : Opening) (rest : List ℕ) → Begins bytes opening rest → AreWithin ram.limits opening.pages opening.shapes → sizes ≡ disk_sizes opening.shapes → HasPages ram opening.pages → (k : RecvError) (at : ℕ) → ¬ (IsHeaderFault ram sizes bytes k at)
no_header_fault ram sizes bytes opening rest b within fits suits errors.BadMagic at h = begun_without_fault ram.limits bytes opening rest within b heads.BadMagic at h
no_header_fault ram sizes bytes opening rest b within fits suits errors.BadVersion at h = begun_without_fault ram.limits bytes opening rest within b heads.BadVersion at h
no_header_fault ram sizes bytes opening rest b within fits suits errors.BadShape at h = begun_without_fault ram.limits bytes opening rest within b heads.BadShape at h
no_header_fault ram sizes bytes opening rest b within fits suits errors.ShapeMismatch at h = h.never (fits ∙ ap disk_sizes (header_same b h.begins), subst (HasPages ram) (sym (says_of b).pages_are ∙ (says_of h.begins).pages_are) suits)
no_header_fault ram sizes bytes opening rest b within fits suits _ at h = h
