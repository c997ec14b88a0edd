use Rattle.std.specs.Prelude.{ℕ, zero, suc, ◌+◌, ◌-◌, ◌*◌, ◌%◌, ◌==◌, nat_lt, List, [], ◌∷◌, ◌++◌, Bool, true, false, not, ◌&&◌, ◌||◌, if◌then◌else◌}
use Rattle.byteorder.specs.Endian.{little_bytes}
use Rattle.guestmem.specs.Number.{number_at}
use Rattle.guestmem.specs.Writes.{Write, byte_writes}
use Rattle.chains.specs.declared.position.Position.{Position}
use Rattle.chains.specs.declared.descriptor.TheConstants.{DESCRIPTOR_SIZE}
use Rattle.chains.specs.declared.flags.TheConstants.{WRITE, AVAIL, USED}
use Rattle.chains.specs.State.{RingState}
use Rattle.mmio.specs.Bits.{has}

-- A position of a split ring after one more chain: both indexes count modulo 65,536 (VIRTIO 1.2, 2.7.6 and 2.7.8).
abbrev pub next_index : Position → Position
next_index p = record p { place = (p.place + 1) % 65536 }

-- A position of a packed ring of `size` slots, advanced by some slots: at the end of the ring it wraps around, and the wrap
-- counter toggles (VIRTIO 1.2, 2.8.1).
abbrev pub gone_on : ℕ → Position → ℕ → Position
gone_on size p slots =
    if nat_lt (p.place + slots) size then record p { place = p.place + slots }
    else record { place = p.place + slots - size; wrap = not p.wrap }

-- The position after a chain of `slots` slots.
abbrev pub after_chain : RingState → Position → ℕ → Position
after_chain q p slots = if q.is_packed then gone_on q.size p slots else next_index p

-- The ring after a chain of `slots` slots was taken.
abbrev pub after_take : RingState → ℕ → RingState
after_take q slots = record q { taking = after_chain q q.taking slots }

-- The ring after a chain of `slots` slots was published.
abbrev pub after_publish : RingState → ℕ → RingState
after_publish q slots = record q { used = after_chain q q.used slots }

-- The value of a bit if it is to be set, else 0.
abbrev pub bit_if : Bool → ℕ → ℕ
bit_if b bit = if b then bit else 0

-- Publishing in a split ring (VIRTIO 1.2, 2.7.8): id and length are written to the entry of the used ring at the used index
-- (modulo its size), and then the next index to the field `idx`. The flags of the used ring are never written.
unfoldable pub split_published : RingState → ℕ → ℕ → List Write
split_published q id len =
    byte_writes (q.device + 4 + 8 * (q.used.place % q.size)) (little_bytes 4 id ++ little_bytes 4 len)
    ++ byte_writes (q.device + 2) (little_bytes 2 ((q.used.place + 1) % 65536))

-- Publishing in a packed ring writes length, id and flags of the descriptor at the used position (VIRTIO 1.2, 2.8.13).
-- AVAIL and USED both equal the wrap counter (2.8.1), and WRITE says whether the device wrote into the buffer (2.8.3). The
-- address is not written (2.8.4).
unfoldable pub packed_published : RingState → ℕ → ℕ → Bool → List Write
packed_published q id len wrote =
    byte_writes (q.descriptors + DESCRIPTOR_SIZE * q.used.place + 8)
    (little_bytes 4 len ++ little_bytes 2 id ++ little_bytes 2 (bit_if wrote WRITE + bit_if q.used.wrap AVAIL + bit_if q.used.wrap USED))

-- What publishing a chain writes, by its id, its number of slots, its used length, and whether the device wrote into it.
abbrev pub published : RingState → ℕ → ℕ → ℕ → Bool → List Write
published q id slots len wrote = if q.is_packed then packed_published q id len wrote else split_published q id len

-- Whether publishing at the used index of a split ring calls for an interrupt, by RAM after it. With the feature EVENT_IDX:
-- if used_event, which follows the available ring, is that index (VIRTIO 1.2, 2.7.7). Without it: unless bit 0 of the
-- available ring's flags is set.
unfoldable pub is_split_due : RingState → List ℕ → Bool
is_split_due q ram =
    if q.has_event_index then number_at ram (q.driver + 4 + 2 * q.size) 2 == q.used.place
    else not (has (number_at ram q.driver 2) 1)

-- The positions of `slots` slots of a packed ring, from one position on.
abbrev pub positions_from : ℕ → Position → ℕ → List Position
positions_from size p zero = []
positions_from size p (suc slots) = p ∷ positions_from size (gone_on size p 1) slots

-- A position with this offset and wrap counter is among these.
abbrev pub is_among : ℕ → Bool → List Position → Bool
is_among offset wrap [] = false
is_among offset wrap (p ∷ ps) = (p.place == offset && (if p.wrap then wrap else not wrap)) || is_among offset wrap ps

-- Whether publishing a chain of `slots` slots at the used position of a packed ring calls for an interrupt, by RAM after it
-- (VIRTIO 1.2, 2.8.10 and 2.8.14). The low two bits of the driver's flags say when the driver wants one: 0 always, 1 never,
-- and 2, with the feature EVENT_IDX, at a descriptor: if its offset (15 bits) and wrap counter (bit 15) are among the
-- positions of this chain. Other flags count as 0.
unfoldable pub is_packed_due : RingState → ℕ → List ℕ → Bool
is_packed_due q slots ram =
    let event = number_at ram q.driver 2 in
    let flags = number_at ram (q.driver + 2) 2 % 4 in
    if flags == 1 then false
    else if q.has_event_index && flags == 2 then is_among (event % 32768) (has event 32768) (positions_from q.size q.used slots)
    else true

-- Whether an interrupt is due for a chain of `slots` slots that was published at the used position, by RAM after it.
abbrev pub is_interrupt_due : RingState → ℕ → List ℕ → Bool
is_interrupt_due q slots ram = if q.is_packed then is_packed_due q slots ram else is_split_due q ram

-- The event note of a split ring: the taking position, written as avail_event, which follows the used ring (VIRTIO 1.2,
-- 2.7.10).
unfoldable pub split_note : RingState → List Write
split_note q = byte_writes (q.device + 4 + 8 * q.size) (little_bytes 2 q.taking.place)

-- The event note of a packed ring, written to the device's event suppression structure: the taking position as offset and
-- wrap counter, and the flags 2, which ask for a notification there (VIRTIO 1.2, 2.8.10 and 2.8.14).
unfoldable pub packed_note : RingState → List Write
packed_note q = byte_writes q.device (little_bytes 2 (q.taking.place + bit_if q.taking.wrap 32768) ++ little_bytes 2 2)

-- What the device writes when it finds the queue empty: with the feature EVENT_IDX the event note, else nothing.
abbrev pub event_note : RingState → List Write
event_note q = if q.has_event_index then (if q.is_packed then packed_note q else split_note q) else []
