-- The answers of steps, as replies. The bytes of a message are in a buffer.
use Rattle.std.specs.Prelude.{ℕ, List, Result, Ok, Err, if◌then◌else◌}
use Rattle.mmio.specs.State.{Registers, with_common, queue_at}
use Rattle.mmio.specs.Interrupts.{used_raised, reset_asked}
use Rattle.mmio.specs.QueueRegisters.{notified_cleared}
use Rattle.chains.specs.Service.{deed_in}
use Rattle.chains.specs.declared.served.Served.{Served}
use Rattle.chains.specs.declared.served.Unserved.{Unserved}
use Rattle.chains.specs.declared.served.Unserved.TheVariants as why
use Rattle.machine.specs.DeviceStep.{reply_to}
use Rattle.machine.specs.declared.reply.Reply.{Reply}
use Rattle.machine.specs.declared.reply.Reply.TheVariants as replies
use Rattle.machine.specs.declared.stepped.Stepped.{Stepped}
use Rattle.machine.specs.declared.stepped.Stepped.TheVariants as stepped

-- The reply of a step, where the buffer holds these bytes.
abbrev pub reply_in : Stepped → List ℕ → Reply
reply_in stepped.Idle sent = replies.Idle
reply_in stepped.Taken sent = replies.Taken
reply_in stepped.Moved sent = replies.Moved
reply_in stepped.BadSector sent = replies.BadSector
reply_in stepped.DiskFailed sent = replies.DiskFailed
reply_in (stepped.Completed len) sent = replies.Completed len
reply_in stepped.Sent sent = replies.Sent sent
reply_in stepped.Dropped sent = replies.Dropped
reply_in stepped.NeedsReset sent = replies.NeedsReset
reply_in stepped.NoMemory sent = replies.NoMemory
reply_in (stepped.Refused refusal) sent = replies.Refused refusal

-- The reply of a step that looked at a queue, where the call at the queue answered so and the buffer holds these bytes.
abbrev pub looked_reply : Result Served Unserved → List ℕ → Reply
looked_reply (Ok s) sent = reply_to (deed_in s.done sent)
looked_reply (Err why.Empty) sent = replies.Idle
looked_reply (Err why.Malformed) sent = replies.NeedsReset
looked_reply (Err why.NoMemory) sent = replies.NoMemory

-- The registers after such a call.
abbrev pub looked_registers : Registers → ℕ → Result Served Unserved → Registers
looked_registers r pick (Ok s) = if s.is_due then with_common r (used_raised r.common) else r
looked_registers r pick (Err why.Empty) = notified_cleared r pick (queue_at r pick)
looked_registers r pick (Err why.Malformed) = with_common r (reset_asked r.common)
looked_registers r pick (Err why.NoMemory) = r
