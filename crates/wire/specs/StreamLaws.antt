-- The laws of streams.
use Rattle.std.specs.Prelude.{◌≡◌, List, ◌++◌, ℕ}
use Rattle.wire.specs.Header.{IsVersion}
use Rattle.wire.specs.Records.{Record, HasSpelling, spelled_record}
use Rattle.machine.specs.Sound.{IsSound}
use Rattle.machine.specs.State.{MachineState, base_of}
use Rattle.wire.specs.Stream.{HasDevices, IsStream, IsStreamBy, records_in, rounds, whole, whole_in}
use Rattle.machine.specs.Layout.{layout_of, size_of}

-- Bytes that begin with the encodings of two records begin with one and the same record: no encoding of a record is a proper
-- prefix of another's.
abbrev pub OneRecord : Type 0
OneRecord = (r s : Record) (x y : List ℕ) → HasSpelling r → HasSpelling s → spelled_record r ++ x ≡ spelled_record s ++ y → (r ≡ s) × (x ≡ y)

-- A stream and the address at which RAM begins determine the machine, whatever the stream's version. A stream does not tell that
-- address: the same bytes may be a stream of machines at several.
abbrev pub OneMachine : Type 0
OneMachine = (bytes : List ℕ) (m k : MachineState) → IsStream bytes m → IsStream bytes k → base_of m.devices ≡ base_of k.devices → m ≡ k

-- A stream determines the number of rounds that ended in it, at whatever addresses RAM begins.
abbrev pub OneCount : Type 0
OneCount = (bytes : List ℕ) (m k : MachineState) (a : IsStream bytes m) (b : IsStream bytes k) → rounds a.entries ≡ rounds b.entries

-- No bytes are a stream in two versions.
abbrev pub OneVersion : Type 0
OneVersion = (bytes : List ℕ) (m k : MachineState) (a : IsStream bytes m) (b : IsStream bytes k) → a.version ≡ b.version

-- A sound machine has a stream in each version that has its devices, and all of them mean this machine: what a stream of it is, is one
-- definition.
abbrev pub EachVersion : Type 0
EachVersion = (version : ℕ) (m : MachineState) → IsVersion version → IsSound m → HasDevices version m.devices → IsStreamBy version (whole_in version m) m (records_in version m (size_of (layout_of m)))

-- The whole stream of a sound machine is a stream of it.
abbrev pub WholeIsStream : Type 0
WholeIsStream = (m : MachineState) → IsSound m → IsStream (whole m) m
