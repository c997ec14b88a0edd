-- The lines of a trace that was played.
use Rattle.std.proofs.Common.{◌≡◌, ℕ, Bool, List, [], flat_map, Option, Some, None, refl}
use Rattle.std.specs.Borrow.{Bor}
use Rattle.machine.specs.declared.event.Event.{Event}
use Rattle.machine.specs.declared.reply.Reply.{Reply}
use Rattle.sender.specs.declared.event.LiveReply.{LiveReply}
use Rattle.traces.specs.Replies.{live_reply_line, reply_line}
use Rattle.traces.specs.Trace.{Contents, HoldsEvents, IsTrace}
use Rattle.wire.specs.Sinks.{SinkState}
use Rattle.vmig.specs.Playing.{AreAnswersFor, AreLinesOver, AreReplies, MayPlay, ending_of}
use Rattle.vmig.specs.Resuming.{AreResumed, AreResumedOver, AreResumedOverImage}
use Rattle.vmig.specs.Words.{name_in}
use Rattle.vmig.specs.declared.fault.Fault.{Fault}

pub lines_are : (image : Option (Bor (List ℕ))) (stream : Option (List ℕ)) (text : List ℕ) (c : Contents) (Is : SinkState → Type 0) (replies : List LiveReply) (ending : Option Fault) → IsTrace text c → MayPlay stream c
    → AreAnswersFor (name_in image) Is c replies → (image ≡ None → AreReplies c [] replies) → ending ≡ ending_of replies → AreLinesOver (name_in image) stream text ending (flat_map live_reply_line replies)
lines_are None stream text c Is replies ending trace may answered played ends = record { contents = c; trace = trace; may = may; replies = replies; answered = played refl; spelled = refl; ends = ends }
lines_are (Some image) stream text c Is replies ending trace may answered played ends =
    record { contents = c; trace = trace; may = may; replies = replies; sectors = answered.0; out = answered.1; answered = answered.3; spelled = refl; ends = ends }

-- The lines of events that were played on a machine that arrived.
pub lines_resumed : (image : Option (Bor (List ℕ))) (outside : Bool) (text : List ℕ) (events : List Event) (replies : List Reply) → HoldsEvents text events → AreResumedOverImage outside events replies
    → (image ≡ None → AreResumed outside events replies) → AreResumedOver outside (name_in image) text (flat_map reply_line replies)
lines_resumed None outside text events replies holds answered played = record { events = events; holds = holds; replies = replies; answered = played refl; spelled = refl }
lines_resumed (Some image) outside text events replies holds answered played = record { events = events; holds = holds; replies = replies; answered = answered; spelled = refl }
