-- Descriptors: their bytes, as two numbers, and what they say.
use Rattle.std.specs.Prelude.{ℕ, ◌+◌, ◌*◌, ◌/◌, ◌%◌, ◌^◌, List, Bool, if◌then◌else◌}
use Rattle.guestmem.specs.Number.{number_at}
use Rattle.mmio.specs.Bits.{has}
use Rattle.chains.specs.declared.descriptor.Descriptor.{Descriptor}
use Rattle.chains.specs.declared.descriptor.Words.{Words}
use Rattle.chains.specs.declared.descriptor.TheConstants.{DESCRIPTOR_SIZE}
use Rattle.chains.specs.declared.flags.TheConstants.{NEXT, WRITE, INDIRECT, AVAIL, USED}

-- The bytes at an index of RAM.
abbrev pub words_of : List ℕ → ℕ → Words
words_of ram index = record { first = number_at ram index 8; second = number_at ram (index + 8) 8 }

-- The descriptor that these bytes are, in a table of the layout. Address and length come first in both layouts; then a split table has
-- the flags and the next index, of two bytes each (VIRTIO 1.2, 2.7.5), a packed one the buffer's id and the flags (VIRTIO 1.2, 2.8.13).
abbrev pub decoded : Bool → Words → Descriptor
decoded is_packed words =
    let low = words.second / 2 ^ 32 % 2 ^ 16 in
    let high = words.second / 2 ^ 48 in
    let flags = if is_packed then high else low in
    record {
      addr = words.first;
      len = words.second % 2 ^ 32;
      next = if is_packed then 0 else high;
      id = if is_packed then low else 0;
      has_next = has flags NEXT;
      is_writable = has flags WRITE;
      is_indirect = has flags INDIRECT;
      avail_flag = has flags AVAIL;
      used_flag = has flags USED;
    }

-- The descriptor at an index of RAM, in a table of either layout.
unfoldable pub descriptor_in : Bool → List ℕ → ℕ → Descriptor
descriptor_in is_packed ram index = decoded is_packed (words_of ram index)

-- The descriptor at an entry of the table at an index of RAM.
unfoldable pub descriptor_at : Bool → List ℕ → ℕ → ℕ → Descriptor
descriptor_at is_packed ram table entry = descriptor_in is_packed ram (table + DESCRIPTOR_SIZE * entry)
