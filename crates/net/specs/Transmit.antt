use Rattle.std.specs.Prelude.{ℕ, ◌+◌}
use Rattle.chains.specs.declared.transmitting.MessageForm.{MessageForm}
use Rattle.net.specs.declared.header.TheConstants.{HEADER_SIZE}
use Rattle.net.specs.declared.limits.TheConstants.{FRAME_MIN}

-- A frame to be sent follows a header, and has from FRAME_MIN bytes to the longest (VIRTIO 1.2, 5.1.6.2).
abbrev pub frame_form : ℕ → MessageForm
frame_form longest = record { header = HEADER_SIZE; least = HEADER_SIZE + FRAME_MIN; most = HEADER_SIZE + longest }
