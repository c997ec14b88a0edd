-- What a request asks for when it is taken (VIRTIO 1.2, 5.2.6).
use Rattle.std.specs.Prelude.{ℕ, ◌+◌, ◌-◌, ◌/◌, ◌%◌, ◌==◌, ◌||◌, nat_lt, not, List, if◌then◌else◌}
use Rattle.guestmem.specs.Number.{number_at}
use Rattle.blk.specs.declared.disk.TheConstants.{SECTOR_SIZE}
use Rattle.blk.specs.declared.request.Kind.{Kind}
use Rattle.blk.specs.declared.request.Kind.TheVariants.{Refused, In, Out, Flush, GetId, Zero}
use Rattle.blk.specs.declared.request.Verdict.{Verdict}
use Rattle.blk.specs.declared.request.Verdict.TheVariants.{Good, IoError, Unsupported}
use Rattle.blk.specs.declared.request.TheConstants.{HEADER_SIZE, SEGMENT_SIZE, TYPE_IN, TYPE_OUT, TYPE_FLUSH, TYPE_GET_ID, TYPE_WRITE_ZEROES}
use Rattle.blk.specs.declared.shape.TheConstants.{ID_SIZE, ZEROES_MAX}
use Rattle.blk.specs.declared.shape.Limits.{Limits}
use Rattle.blk.specs.declared.task.Task.{Task}

-- A request that is refused when it is taken has no work to do but to report its verdict.
abbrev pub refused : Verdict → Task
refused verdict = record { kind = Refused; verdict = verdict; first = 0; units = 0 }

-- `bytes` bytes are transferred from or to the sectors from `first` on. It must be whole sectors, none of them past the
-- last; else it is an error.
abbrev pub transfer : Kind → ℕ → ℕ → ℕ → Task
transfer kind first bytes capacity =
    if not (bytes % SECTOR_SIZE == 0) then refused IoError
    else if nat_lt capacity (first + bytes / SECTOR_SIZE) then refused IoError
    else record { kind = kind; verdict = Good; first = first; units = bytes / SECTOR_SIZE }

-- A range of sectors is cleared, by the segment that names it: its first sector, their number, and flags, of which bit 0 allows the
-- device to unmap them (VIRTIO 1.2, 5.2.6). The tests are made in this order. The driver must have accepted WRITE_ZEROES; there must be
-- one segment; other flags are unknown. Then it is an error if the device is read-only, if the sectors are more than one request may
-- clear, and if one of them is past the last.
abbrev pub clear : List ℕ → ℕ → Limits → Task
clear segment readable limits =
    let first = number_at segment 0 8 in
    let count = number_at segment 8 4 in
    let flags = number_at segment 12 4 in
    if not limits.may_clear then refused Unsupported
    else if not (readable == HEADER_SIZE + SEGMENT_SIZE) then refused IoError
    else if nat_lt 1 flags then refused Unsupported
    else if limits.read_only || nat_lt ZEROES_MAX count || nat_lt limits.sectors (first + count) then refused IoError
    else record { kind = Zero; verdict = Good; first = first; units = count }

-- What a request asks for, by the bytes of its header (type, 4 reserved bytes, sector) and those of the segment that may follow it, the
-- numbers of its readable and writable bytes, and what its driver may ask for (VIRTIO 1.2, 5.2.6). A transfer moves all bytes but the
-- header and the verdict. A write to a read-only device is an error (VIRTIO 1.2, 5.2.6.2).
unfoldable pub task_of : List ℕ → List ℕ → ℕ → ℕ → Limits → Task
task_of header segment readable writable limits =
    let type = number_at header 0 4 in
    let sector = number_at header 8 8 in
    if type == TYPE_IN then transfer In sector (writable - 1) limits.sectors
    else if type == TYPE_OUT then (if limits.read_only then refused IoError else transfer Out sector (readable - HEADER_SIZE) limits.sectors)
    else if type == TYPE_FLUSH then record { kind = Flush; verdict = Good; first = 0; units = 1 }
    else if type == TYPE_GET_ID then (if nat_lt (writable - 1) ID_SIZE then refused IoError else record { kind = GetId; verdict = Good; first = 0; units = 1 })
    else if type == TYPE_WRITE_ZEROES then clear segment readable limits
    else refused Unsupported
