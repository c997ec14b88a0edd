-- A device stays what it was made as.
use Rattle.std.proofs.Common.{◌≡◌, ℕ, zero, suc, ◌-◌, ◌<◌, arith, Bool, true, false, cond, List, [], Option, Some, None, refl, ap, sym, ◌∙◌}
use Rattle.std.specs.Prelude.{slice_get}
use Rattle.std.proofs.lemmas.Bool.{ne_eqb}
use Rattle.net.specs.Frame.{may_take}
use Rattle.net.specs.Inbox.{Inbox, frames_with}
use Rattle.net.specs.Transmit.{frame_form}
use Rattle.console.specs.Transmit.{text_form}
use Rattle.blk.specs.Advance.{advance_one, after_move, completed}
use Rattle.blk.specs.Block.{with_requests}
use Rattle.blk.specs.Move.{Move, move_of}
use Rattle.blk.specs.Request.{is_open}
use Rattle.blk.specs.Sectors.{Sector}
use Rattle.blk.specs.Take.{take_step}
use Rattle.blk.specs.declared.block.Block as blocks
use Rattle.blk.specs.declared.request.Request.{Request}
use Rattle.chains.specs.State.{RingState}
use Rattle.chains.specs.Transmit.{transmit_step}
use Rattle.chains.specs.declared.next.Next.{Next}
use Rattle.chains.specs.declared.next.Next.TheVariants as next
use Rattle.chains.specs.declared.transmitting.MessageForm.{MessageForm}
use Rattle.mmio.specs.declared.queue.Queue.{Queue}
use Rattle.machine.specs.DeviceStep.{advance_on, network_with, serve}
use Rattle.machine.specs.Outcome.{Outcome, disk_does}
use Rattle.machine.specs.Shapes.{first_kind, made_as, net_as}
use Rattle.machine.specs.State.{DeviceState}
use Rattle.machine.specs.Step.{dropped_unready, kind_with_input, kind_without_input}
use Rattle.machine.specs.declared.kind.Kind.{Kind}
use Rattle.machine.specs.declared.kind.Kind.TheVariants.{Network, Block, Outside, Console, Entropy}
use Rattle.machine.specs.declared.shape.Shape.{Shape}
use Rattle.machine.specs.declared.shape.Shape.TheVariants as shapes

pub dropped_as : (queues : List Queue) (kind : Kind) → made_as (dropped_unready queues kind) ≡ made_as kind
dropped_as queues (Network mac inbox) = refl
dropped_as queues (Block block) = refl
dropped_as queues (Outside block) = refl
dropped_as queues (Console size held) = refl
dropped_as queues (Entropy pool) = refl

frames_as : (mac : List ℕ) (inbox : Inbox) (more : List (List ℕ)) (good : Bool) → made_as (cond good (network_with mac inbox more) (Network mac inbox)) ≡ net_as mac inbox.longest
frames_as mac inbox more true = refl
frames_as mac inbox more false = refl

pub input_as : (kind : Kind) (bytes : List ℕ) → made_as (kind_with_input kind bytes) ≡ made_as kind
input_as (Network mac inbox) bytes = frames_as mac inbox (frames_with inbox bytes) (may_take inbox.longest bytes)
input_as (Block block) bytes = refl
input_as (Outside block) bytes = refl
input_as (Console size held) bytes = refl
input_as (Entropy pool) bytes = refl

pub without_as : (kind : Kind) → made_as (kind_without_input kind) ≡ made_as kind
without_as (Network mac inbox) = refl
without_as (Block block) = refl
without_as (Outside block) = refl
without_as (Console size held) = refl
without_as (Entropy pool) = refl

pub sent_state : {S : Type 0} (form : MessageForm) (ram : List ℕ) (q : RingState) (state : S) (seen : Next) → (transmit_step form ram q state seen).state ≡ state
sent_state form ram q state next.Empty = refl
sent_state form ram q state next.Malformed = refl
sent_state form ram q state (next.Chain c) = refl

taken_as : (features : ℕ) (ram : List ℕ) (q : RingState) (block : blocks.Block) (seen : Next) → (take_step features ram q block seen).state ≡ with_requests block (take_step features ram q block seen).state.requests
taken_as features ram q block next.Empty = refl
taken_as features ram q block next.Malformed = refl
taken_as features ram q block (next.Chain c) = refl

pub served_as : (features : ℕ) (kind : Kind) (number : ℕ) (ram : List ℕ) (q : RingState) (seen : Next) → made_as (serve features kind number ram q seen).state ≡ made_as kind
served_as features (Network mac inbox) zero ram q seen = refl
served_as features (Network mac inbox) (suc number) ram q seen = ap made_as (sent_state (frame_form inbox.longest) ram q (Network mac inbox) seen)
served_as features (Block block) number ram q seen = ap (λ (b : blocks.Block). made_as (Block b)) (taken_as features ram q block seen)
served_as features (Outside block) number ram q seen = ap (λ (b : blocks.Block). made_as (Outside b)) (taken_as features ram q block seen)
served_as features (Console size held) zero ram q seen = refl
served_as features (Console size held) (suc number) ram q seen = ap made_as (sent_state text_form ram q (Console size held) seen)
served_as features (Entropy pool) number ram q seen = refl

going_as : (ram : List ℕ) (q : RingState) (block : blocks.Block) (k : ℕ) (m : Move) (r : Request) (opens : Bool) → (cond opens (after_move q block k m) (completed ram q block k r)).block ≡ with_requests block (cond opens (after_move q block k m) (completed ram q block k r)).block.requests
going_as ram q block k m r true = refl
going_as ram q block k m r false = refl

one_as : (ram : List ℕ) (q : RingState) (content : List Sector) (block : blocks.Block) (k : ℕ) (is_fine : Bool) (found : Option Request) → (advance_one ram q content block k is_fine found).block ≡ with_requests block (advance_one ram q content block k is_fine found).block.requests
one_as ram q content block k is_fine None = refl
one_as ram q content block k is_fine (Some r) = going_as ram q block k (move_of r.kind q.base block.id ram content r is_fine) r (is_open r)

pub advanced_as : (d : DeviceState) (kind : Kind) (ram : List ℕ) (content : List Sector) (pick : ℕ) (q : RingState) (o : Outcome) → d.kind ≡ kind → made_as (advance_on d kind ram content pick q o).device.kind ≡ made_as d.kind
advanced_as d (Block block) ram content pick q o is = ap (λ (b : blocks.Block). made_as (Block b)) (one_as ram q content block (pick - 1) (disk_does o) (slice_get block.requests (pick - 1))) ∙ ap made_as (sym is)
advanced_as d (Outside block) ram content pick q o is = ap (λ (b : blocks.Block). made_as (Outside b)) (one_as ram q [] block (pick - 1) true (slice_get block.requests (pick - 1))) ∙ ap made_as (sym is)
advanced_as d (Network mac inbox) ram content pick q o is = refl
advanced_as d (Console size held) ram content pick q o is = refl
advanced_as d (Entropy pool) ram content pick q o is = refl

-- The longest frame of a device for long frames is longer than the usual.
abbrev pub IsLong : Shape → Type 0
IsLong (shapes.LongNet mac longest) = 1514 < longest
IsLong _ = Unit {0}

pub first_as : (shape : Shape) → IsLong shape → made_as (first_kind shape) ≡ shape
first_as (shapes.Net mac) long = refl
first_as (shapes.LongNet mac longest) long = rw (ne_eqb longest 1514 (λ (is : longest ≡ 1514). omega (arith, is, long))) refl
first_as (shapes.Block sectors read_only id) long = refl
first_as (shapes.Outside sectors read_only id) long = refl
first_as shapes.Console long = refl
first_as shapes.Entropy long = refl
