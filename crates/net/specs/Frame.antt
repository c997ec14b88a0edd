-- Which frames of its host a network device takes.
use Rattle.std.specs.Prelude.{ℕ, nat_lt, ◌+◌, ◌==◌, ◌&&◌, ◌||◌, Bool, not, List, length, slice_index}
use Rattle.net.specs.Inbox.{is_frame_len}
use Rattle.net.specs.Shape.{mtu_of}
use Rattle.net.specs.declared.limits.TheConstants.{FRAME_MAX, FRAME_MIN}

-- A frame with a VLAN tag: behind the two addresses stands 0x8100, or 0x88a8 of a service's VLAN (IEEE 802.1Q, 9.5).
abbrev pub is_tagged : List ℕ → Bool
is_tagged frame = (slice_index frame 12 == 129 && slice_index frame 13 == 0) || (slice_index frame 12 == 136 && slice_index frame 13 == 168)

-- A device that offers MTU passes on no longer payload (VIRTIO 1.2, 5.1.4.1): it follows an Ethernet header, and the tag if there is one. A
-- device that is not for long frames offers none.
abbrev pub fits_mtu : ℕ → List ℕ → Bool
fits_mtu longest frame = not (nat_lt FRAME_MAX longest) || not (nat_lt (mtu_of longest + FRAME_MIN) (length frame)) || is_tagged frame

-- A frame that a device takes.
abbrev pub may_take : ℕ → List ℕ → Bool
may_take longest frame = is_frame_len longest (length frame) && fits_mtu longest frame
