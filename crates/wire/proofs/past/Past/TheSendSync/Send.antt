-- Bytes that exist only in proofs may go to another thread: nothing is owned.
use denote.Param.Send.{IsSend, owning_send}
use Rattle.wire.specs.contracts.past.Past.{the_row, the_type}

pub send : IsSend the_row
send = owning_send the_type tt (λ d. tt) (λ k x w. tt)
