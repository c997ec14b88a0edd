use Rattle.chains.specs.declared.transmitting.MessageForm.{MessageForm}
use Rattle.console.specs.declared.transmitting.TheConstants.{TEXT_MAX}

-- Text to be sent has no header, and has at most TEXT_MAX bytes (VIRTIO 1.2, 5.3.6).
abbrev pub text_form : MessageForm
text_form = record { header = 0; least = 0; most = TEXT_MAX }
