-- How many bytes a stop would write.
use Rattle.std.specs.Prelude.{◌≡◌, ℕ, ◌+◌, ◌*◌, List, [], Bool, length, take, drop}
use Rattle.dirtylog.specs.Members.{member_count}
use Rattle.machine.specs.Layout.{pages_of}
use Rattle.machine.specs.Parked.{WhateverRam, parked_states}
use Rattle.machine.specs.State.{DeviceState}
use Rattle.wire.specs.Stream.{device_texts}
use Rattle.sender.specs.Calls.{StopsWithin}
use Rattle.sender.specs.LiveState.{LiveSeen, now}
use Rattle.sender.specs.Parked.{LiveParkedSeen, live_back}

-- The bytes of a stop that finds no page of zeros, no bad sector, and no item both due and dirty: 4,101 for each page and 519 for each sector of
-- the two sets, the records of the devices, and 33 for the digest.
abbrev pub longest_stop : ℕ → List Bool → List Bool → List DeviceState → ℕ
longest_stop pages due dirty devices =
    4101 * (member_count (take pages due) + member_count (take pages dirty)) + 519 * (member_count (drop pages due) + member_count (drop pages dirty)) + length (device_texts 0 devices) + 33

-- A stop would write so many bytes at the most.
abbrev pub IsStopBytes : LiveSeen → ℕ → Type 0
IsStopBytes l bytes = StopsWithin l bytes × (bytes ≡ longest_stop (pages_of (now l)) l.due l.dirty (now l).devices)

-- The same while RAM is lent, if no further page is named.
abbrev pub IsStopBytesLent : LiveParkedSeen → ℕ → Type 0
IsStopBytesLent l bytes = WhateverRam l.machine (λ m. StopsWithin (live_back l m []) bytes) × (bytes ≡ longest_stop (length l.machine.memory) l.due l.dirty (parked_states l.machine))
