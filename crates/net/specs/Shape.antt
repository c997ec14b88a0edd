-- What a network device may be made as, and its configuration.
use Rattle.std.specs.Prelude.{◌≡◌, ℕ, ◌-◌, ◌++◌, ◌<◌, ◌≤◌, List, length, ◌==◌, replicate, if◌then◌else◌}
use Rattle.guestmem.specs.Number.{IsBytes, little_bytes}
use Rattle.net.specs.declared.limits.TheConstants.{FRAME_GREATEST, FRAME_MAX}

-- A MAC has 6 bytes.
pub record IsMac (mac : List ℕ) : Type 0 where
  pub size : length mac ≡ 6
  pub bytes : IsBytes mac

-- A device for long frames: the longest has more bytes than the longest of a device that is not, and no more than fit 16 bits.
pub record IsLongNet (mac : List ℕ) (longest : ℕ) : Type 0 where
  pub address : IsMac mac
  pub longer : FRAME_MAX < longest
  pub most : longest ≤ FRAME_GREATEST

-- The most bytes of a payload: what the longest frame has beside an Ethernet header with a VLAN tag, 14 bytes and 4.
abbrev pub mtu_of : ℕ → ℕ
mtu_of longest = longest - 18

-- The configuration space (VIRTIO 1.2, 5.1.4): the MAC; and of a device for long frames `status` and `max_virtqueue_pairs`, which
-- are 0, and the MTU.
abbrev pub configuration_of : List ℕ → ℕ → List ℕ
configuration_of mac longest = if longest == FRAME_MAX then mac else mac ++ replicate 4 0 ++ little_bytes 2 (mtu_of longest)
