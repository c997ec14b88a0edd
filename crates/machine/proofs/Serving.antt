-- What serving a queue leaves, whatever was seen there.
use Rattle.std.proofs.Common.{◌≡◌, ℕ, zero, suc, ◌≤◌, Bool, true, false, cond, ltb, List, [], ◌∷◌, ◌++◌, length, refl, arith, length-append}
use borrow.Author.Tests.{ltb-true}
use Rattle.std.specs.Prelude.{min}
use Rattle.std.proofs.lemmas.List.{length-drop}
use Rattle.guestmem.proofs.ByteLaws.{IsBytes-drop}
use Rattle.guestmem.specs.Number.{IsBytes}
use Rattle.chains.specs.Places.{places}
use Rattle.chains.specs.Look.{Sees}
use Rattle.chains.specs.Ring.{IsBounded, IsBoundedNext}
use Rattle.chains.proofs.LookLaws.{sight_bounded, usable}
use Rattle.chains.specs.State.{RingState}
use Rattle.chains.specs.declared.chain.Chain.{Chain}
use Rattle.chains.specs.declared.looking.Wanted.TheVariants as wanted
use Rattle.chains.specs.declared.next.Next.{Next}
use Rattle.chains.specs.declared.next.Next.TheVariants as next
use Rattle.chains.specs.ReceiveBuffer.{give}
use Rattle.chains.specs.Transmit.{transmit_step}
use Rattle.chains.specs.declared.transmitting.MessageForm.{MessageForm}
use Rattle.console.specs.Transmit.{text_form}
use Rattle.net.specs.Inbox.{AreFrames, Inbox}
use Rattle.net.specs.Receive as net
use Rattle.net.specs.Transmit.{frame_form}
use Rattle.net.specs.Header.{header}
use Rattle.console.specs.Receive.{receive_step}
use Rattle.console.specs.Shape.{AreHostBytes, IsSoundConsole}
use Rattle.blk.proofs.Tasks.{taken_sound}
use Rattle.machine.proofs.ChainIds.{id_fits}
use Rattle.blk.specs.Block.{limits_of}
use Rattle.blk.specs.Sound.{AreSound}
use Rattle.blk.specs.Take.{take_step, request_for, task_for, header_of, segment_of}
use Rattle.blk.specs.declared.request.TheConstants.{HEADER_SIZE as REQUEST_HEADER_SIZE}
use Rattle.blk.specs.declared.request.Request.{Request}
use Rattle.blk.specs.declared.block.Block as blocks
use Rattle.blk.specs.declared.shape.Limits.{Limits}
use Rattle.machine.specs.DeviceStep.{has_work, serve, wanted_of}
use Rattle.machine.specs.declared.kind.Kind.{Kind}
use Rattle.machine.specs.declared.kind.Kind.TheVariants.{Network, Block, Outside, Console, Entropy}
use Rattle.machine.proofs.Rings.{IsLookedRing, IsPlacedRing, placed_by, placed_taken}

-- A ring of the same base, layout and size, whose places fit.
pub record IsSameRing (s new : RingState) : Type 0 where
  pub base : new.base ≡ s.base
  pub layout : new.is_packed ≡ s.is_packed
  pub size : new.size ≡ s.size
  pub placed : IsPlacedRing new

pub same_ring : (s : RingState) → IsPlacedRing s → IsSameRing s s
same_ring s placed = record { base = refl; layout = refl; size = refl; placed = placed }

-- The step that gives bytes: the ring after it, and the bytes that are left.
record GivesOn (s new : RingState) (left : List ℕ) : Type 0 where
  ring : IsSameRing s new
  left_are : AreHostBytes left

given_on : (len : ℕ) (ram : List ℕ) (s : RingState) (held : List ℕ) (seen : Next) → IsLookedRing len s → IsBoundedNext (length ram) s seen → AreHostBytes held
    → GivesOn s (receive_step ram s held seen).ring (receive_step ram s held seen).state
unfolding give
given_on len ram s held next.Empty looked bounded are = record { ring = same_ring s looked.placed; left_are = are }
given_on len ram s held next.Malformed looked bounded are = record { ring = same_ring s looked.placed; left_are = are }
given_on len ram s held (next.Chain c) looked bounded are = record {
  ring = record { base = refl; layout = refl; size = refl; placed = placed_by s c.slots s.is_packed refl looked.may looked.placed bounded.slots };
  left_are = record {
    few = omega (arith, length-drop (min (length (places c.writable)) (length held)) held, are.few);
    are = IsBytes-drop (min (length (places c.writable)) (length held)) held are.are;
  };
}

-- What only a kind has, beside a ready ring in a RAM of so many bytes, where the driver accepted these features.
pub record AreOutstanding (len : ℕ) (s : RingState) (limits : Limits) (requests : List Request) : Type 0 where
  pub few : length requests ≤ 8
  pub sound : AreSound len s limits requests

abbrev pub SoundBeside : ℕ → RingState → ℕ → Kind → Type 0
SoundBeside len s features (Network mac inbox) = AreFrames inbox
SoundBeside len s features (Block block) = AreOutstanding len s (limits_of block features) block.requests
SoundBeside len s features (Outside block) = AreOutstanding len s (limits_of block features) block.requests
SoundBeside len s features (Console size held) = IsSoundConsole size held
SoundBeside len s features (Entropy pool) = AreHostBytes pool

-- The step that takes a request: the ring after it, and the device.
record TakesOn (len : ℕ) (s new : RingState) (features : ℕ) (b : blocks.Block) : Type 0 where
  ring : IsSameRing s new
  are : AreOutstanding len new (limits_of b features) b.requests

taken_on : (features : ℕ) (ram : List ℕ) (s : RingState) (b : blocks.Block) (seen : Next) → ltb (length b.requests) 8 ≡ true → IsBytes ram → Sees (wanted.Request REQUEST_HEADER_SIZE) ram s seen → IsLookedRing (length ram) s → AreOutstanding (length ram) s (limits_of b features) b.requests
    → TakesOn (length ram) s (take_step features ram s b seen).ring features (take_step features ram s b seen).state
taken_on features ram s b next.Empty room bytes sees looked are = record { ring = same_ring s looked.placed; are = are }
taken_on features ram s b next.Malformed room bytes sees looked are = record { ring = same_ring s looked.placed; are = are }
taken_on features ram s b (next.Chain c) room bytes sees looked are =
    let limits = limits_of b features in
    let usage = usable (wanted.Request REQUEST_HEADER_SIZE) ram s c sees in
    let bounded : IsBounded (length ram) s c = sight_bounded (wanted.Request REQUEST_HEADER_SIZE) ram s (next.Chain c) sees in
    record {
      ring = record { base = refl; layout = refl; size = refl; placed = placed_taken s c.slots s.is_packed refl looked.may looked.placed bounded.slots };
      are = record {
        few = omega (arith, ltb-true (length b.requests) 8 room, length-append b.requests (request_for c (task_for s.base ram limits c) ∷ []));
        sound = taken_sound (length ram) s limits b.requests (header_of s.base ram c) (segment_of s.base ram c) c (id_fits ram s c bytes looked.may.few usage.answers.1) bounded usage.fit are.sound;
      };
    }

-- The frames in an inbox.
abbrev in_box : ℕ → List (List ℕ) → Inbox
in_box longest frames = record { longest = longest; frames = frames }

-- The step that gives a frame: the ring after it, and the frames that are left.
record FramesOn (longest : ℕ) (s new : RingState) (left : List (List ℕ)) : Type 0 where
  ring : IsSameRing s new
  are : AreFrames (in_box longest left)

frames_left : (longest : ℕ) (frame : List ℕ) (rest : List (List ℕ)) → AreFrames (in_box longest (frame ∷ rest)) → AreFrames (in_box longest rest)
frames_left longest frame rest h = record { few = omega (arith, h.few); are = λ k d below. h.are (suc k) d (omega (arith, below)) }

one_given : (longest : ℕ) (ram : List ℕ) (s : RingState) (frame : List ℕ) (rest : List (List ℕ)) (c : Chain) (short : Bool) → IsLookedRing (length ram) s → c.slots ≤ s.size → AreFrames (in_box longest (frame ∷ rest))
    → FramesOn longest s (cond short (net.drop_frame s rest) (give ram s (header ++ frame) rest c)).ring (cond short (net.drop_frame s rest) (give ram s (header ++ frame) rest c)).state
unfolding give
one_given longest ram s frame rest c true looked few are = record { ring = same_ring s looked.placed; are = frames_left longest frame rest are }
one_given longest ram s frame rest c false looked few are = record {
  ring = record { base = refl; layout = refl; size = refl; placed = placed_by s c.slots s.is_packed refl looked.may looked.placed few };
  are = frames_left longest frame rest are;
}

framed_on : (longest : ℕ) (ram : List ℕ) (s : RingState) (frames : List (List ℕ)) (seen : Next) → IsLookedRing (length ram) s → IsBoundedNext (length ram) s seen → AreFrames (in_box longest frames)
    → FramesOn longest s (net.receive_step ram s frames seen).ring (net.receive_step ram s frames seen).state
framed_on longest ram s frames next.Empty looked bounded are = record { ring = same_ring s looked.placed; are = are }
framed_on longest ram s frames next.Malformed looked bounded are = record { ring = same_ring s looked.placed; are = are }
framed_on longest ram s [] (next.Chain c) looked bounded are = record { ring = same_ring s looked.placed; are = are }
framed_on longest ram s (frame ∷ rest) (next.Chain c) looked bounded are = one_given longest ram s frame rest c (ltb (length (places c.writable)) (length (header ++ frame))) looked bounded.slots are

-- The step that takes a message: the ring after it.
sent_on : (ram : List ℕ) (s : RingState) (form : MessageForm) (kind : Kind) (seen : Next) → IsLookedRing (length ram) s → IsBoundedNext (length ram) s seen
    → (IsSameRing s (transmit_step form ram s kind seen).ring) × ((transmit_step form ram s kind seen).state ≡ kind)
sent_on ram s form kind next.Empty looked bounded = (same_ring s looked.placed, refl)
sent_on ram s form kind next.Malformed looked bounded = (same_ring s looked.placed, refl)
sent_on ram s form kind (next.Chain c) looked bounded = (record { base = refl; layout = refl; size = refl; placed = placed_by s c.slots s.is_packed refl looked.may looked.placed bounded.slots }, refl)

-- The ring after a queue was served, and what the kind has.
pub record ServesOn (len : ℕ) (features : ℕ) (s new : RingState) (kind : Kind) : Type 0 where
  pub ring : IsSameRing s new
  pub kind_is : SoundBeside len new features kind

pub served_on : (features : ℕ) (kind : Kind) (number : ℕ) (ram : List ℕ) (s : RingState) (seen : Next) → has_work kind number ≡ true → IsBytes ram → IsLookedRing (length ram) s → Sees (wanted_of kind number) ram s seen → SoundBeside (length ram) s features kind
    → ServesOn (length ram) features s (serve features kind number ram s seen).ring (serve features kind number ram s seen).state
served_on features (Network mac inbox) zero ram s seen work bytes looked sees sound =
    let g = framed_on inbox.longest ram s inbox.frames seen looked (sight_bounded wanted.Room ram s seen sees) sound in
    record { ring = g.ring; kind_is = g.are }
served_on features (Network mac inbox) (suc number) ram s seen work bytes looked sees sound =
    let g = sent_on ram s (frame_form inbox.longest) (Network mac inbox) seen looked (sight_bounded (wanted.Message (frame_form inbox.longest)) ram s seen sees) in
    record { ring = g.0; kind_is = rw (g.1) sound }
served_on features (Block block) number ram s seen work bytes looked sees sound =
    let t = taken_on features ram s block seen work bytes sees looked sound in
    record { ring = t.ring; kind_is = t.are }
served_on features (Outside block) number ram s seen work bytes looked sees sound =
    let t = taken_on features ram s block seen work bytes sees looked sound in
    record { ring = t.ring; kind_is = t.are }
served_on features (Console size held) zero ram s seen work bytes looked sees sound =
    let g = given_on (length ram) ram s held seen looked (sight_bounded wanted.Room ram s seen sees) sound.text in
    record { ring = g.ring; kind_is = record { columns = sound.columns; rows = sound.rows; text = g.left_are } }
served_on features (Console size held) (suc number) ram s seen work bytes looked sees sound =
    let g = sent_on ram s text_form (Console size held) seen looked (sight_bounded (wanted.Message text_form) ram s seen sees) in
    record { ring = g.0; kind_is = rw (g.1) sound }
served_on features (Entropy pool) number ram s seen work bytes looked sees sound =
    let g = given_on (length ram) ram s pool seen looked (sight_bounded wanted.Room ram s seen sees) sound in
    record { ring = g.ring; kind_is = g.left_are }
