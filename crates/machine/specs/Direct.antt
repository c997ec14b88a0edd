-- The results of direct calls, as the replies to the corresponding events.
use Rattle.std.specs.Prelude.{ℕ, List, Option, Result, Ok, Err}
use Rattle.machine.specs.Step.{out_reply}
use Rattle.machine.specs.declared.reply.Refusal.{Refusal}
use Rattle.machine.specs.declared.reply.Reply.{Reply}
use Rattle.machine.specs.declared.reply.Reply.TheVariants.{Value, Done, Bytes, Accepted, Refused}

abbrev pub value_reply : Result ℕ Refusal → Reply
value_reply (Ok value) = Value value
value_reply (Err refusal) = Refused refusal

abbrev pub done_reply : {A : Type 0} → Result A Refusal → Reply
done_reply (Ok x) = Done
done_reply (Err refusal) = Refused refusal

-- A write of a register, with the byte that it gives out, if any.
abbrev pub written_result : Result (Option ℕ) Refusal → Reply
written_result (Ok out) = out_reply out
written_result (Err refusal) = Refused refusal

-- A read into a buffer, which holds these bytes afterwards.
abbrev pub bytes_reply : {A : Type 0} → Result A Refusal → List ℕ → Reply
bytes_reply (Ok x) bytes = Bytes bytes
bytes_reply (Err refusal) bytes = Refused refusal

abbrev pub accepted_reply : Result ℕ Refusal → Reply
accepted_reply (Ok count) = Accepted count
accepted_reply (Err refusal) = Refused refusal
