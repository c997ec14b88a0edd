-- How a step that served a queue is answered.
use Rattle.std.proofs.Common.{◌≡◌, ℕ, zero, suc, Bool, true, false, cond, ltb, List, [], ◌∷◌, ◌++◌, length, refl}
use Rattle.chains.specs.Places.{places}
use Rattle.chains.specs.ReceiveBuffer.{give}
use Rattle.chains.specs.Service.{Answer, Deed, Empty, Malformed, Did, Service, service_of}
use Rattle.chains.specs.Service as service
use Rattle.chains.specs.State.{RingState}
use Rattle.chains.specs.Transmit.{send}
use Rattle.chains.specs.declared.chain.Chain.{Chain}
use Rattle.chains.specs.declared.next.Next.{Next}
use Rattle.chains.specs.declared.next.Next.TheVariants as next
use Rattle.blk.specs.Take.{take_chain}
use Rattle.console.specs.Receive.{give_some}
use Rattle.console.specs.Transmit.{text_form}
use Rattle.net.specs.Header.{header}
use Rattle.net.specs.Receive.{drop_frame, give_first}
use Rattle.net.specs.Transmit.{frame_form}
use Rattle.machine.specs.DeviceStep.{reply_of, serve}
use Rattle.machine.specs.Outcome.{fine, outcome_of}
use Rattle.machine.specs.StepLaws.{IsRefusal}
use Rattle.machine.specs.declared.kind.Kind.{Kind}
use Rattle.machine.specs.declared.kind.Kind.TheVariants.{Network, Block, Outside, Console, Entropy}
use Rattle.machine.specs.declared.reply.Reply.TheVariants.{Idle, NeedsReset}

-- By no refusal; and by a call for a reset, or as idle, only where the queue is malformed, or empty.
pub record IsAnswered (a : Answer) : Type 0 where
  pub outcome : outcome_of (reply_of a) ≡ fine
  pub quiet : IsRefusal (reply_of a) → ⊥
  pub idle : reply_of a ≡ Idle → a ≡ Empty
  pub reset : reply_of a ≡ NeedsReset → a ≡ Malformed

did : (deed : Deed) (is_due : Bool) → IsAnswered (Did deed is_due)
did service.Taken is_due = record { outcome = refl; quiet = λ h. h; idle = λ h. cc; reset = λ h. cc }
did (service.Completed len) is_due = record { outcome = refl; quiet = λ h. h; idle = λ h. cc; reset = λ h. cc }
did (service.Sent bytes) is_due = record { outcome = refl; quiet = λ h. h; idle = λ h. cc; reset = λ h. cc }
did service.Dropped is_due = record { outcome = refl; quiet = λ h. h; idle = λ h. cc; reset = λ h. cc }

-- Of a chain, each of these steps does something.
pub given : {S : Type 0} (ram : List ℕ) (q : RingState) (bytes : List ℕ) (left : S) (c : Chain) → IsAnswered (give ram q bytes left c).answer
unfolding give
given ram q bytes left c = did _ _

pub one_framed : (ram : List ℕ) (q : RingState) (frame : List ℕ) (rest : List (List ℕ)) (c : Chain) (short : Bool) → IsAnswered (cond short (drop_frame q rest) (give ram q (header ++ frame) rest c)).answer
one_framed ram q frame rest c true = did _ _
one_framed ram q frame rest c false = given ram q (header ++ frame) rest c

framed : (ram : List ℕ) (q : RingState) (frames : List (List ℕ)) (c : Chain) → IsAnswered (give_first ram q frames c).answer
framed ram q [] c = did _ _
framed ram q (frame ∷ rest) c = one_framed ram q frame rest c (ltb (length (places c.writable)) (length (header ++ frame)))

by_seen : {S : Type 0} (q : RingState) (state : S) (on_chain : Chain → Service S) (seen : Next) → ((c : Chain) → IsAnswered (on_chain c).answer) → IsAnswered (service_of q state on_chain seen).answer
by_seen q state on_chain next.Empty all = record { outcome = refl; quiet = λ h. h; idle = λ h. refl; reset = λ h. cc }
by_seen q state on_chain next.Malformed all = record { outcome = refl; quiet = λ h. h; idle = λ h. cc; reset = λ h. refl }
by_seen q state on_chain (next.Chain c) all = all c

pub answered : (features : ℕ) (kind : Kind) (number : ℕ) (ram : List ℕ) (q : RingState) (seen : Next) → IsAnswered (serve features kind number ram q seen).answer
answered features (Network mac inbox) zero ram q seen = by_seen q inbox.frames (give_first ram q inbox.frames) seen (framed ram q inbox.frames)
answered features (Network mac inbox) (suc number) ram q seen = by_seen q (Network mac inbox) (send (frame_form inbox.longest).header ram q (Network mac inbox)) seen (λ c. did _ _)
answered features (Block block) number ram q seen = by_seen q block (take_chain features ram q block) seen (λ c. did _ _)
answered features (Outside block) number ram q seen = by_seen q block (take_chain features ram q block) seen (λ c. did _ _)
answered features (Console size held) zero ram q seen = by_seen q held (give_some ram q held) seen (λ c. given ram q _ _ c)
answered features (Console size held) (suc number) ram q seen = by_seen q (Console size held) (send text_form.header ram q (Console size held)) seen (λ c. did _ _)
answered features (Entropy pool) number ram q seen = by_seen q pool (give_some ram q pool) seen (λ c. given ram q _ _ c)
