-- The guest's reboot: each event is done.
use Rattle.std.proofs.Common.{◌≡◌, ◌≤◌, ◌<◌, ◌+◌, ◌++◌, ◌||◌, inl, inr, ℕ, Bool, true, false, List, [], ◌∷◌, refl, sym, ap, ◌∙◌, subst, arith, drop, get_or, length, true≢false}
use Rattle.std.specs.Prelude.{MatchOption, Option, Some, None, option_map, slice_get, if◌then◌else◌}
use Rattle.std.proofs.lemmas.Bool.{cases_lt}
use Rattle.std.proofs.lemmas.List.{drop_all, drop_more}
use Prim.Native.Nat.{zero, suc}
use Rattle.std.proofs.lemmas.Option.{slice_get-map}
use Rattle.machine.specs.Applied.{IsApplied}
use Rattle.machine.specs.Parked.{IsAppliedParked, ParkedSeen, back_with, parked_states}
use Rattle.machine.specs.Seen.{Seen, state_of}
use Rattle.machine.specs.Shapes.{made_as}
use Rattle.machine.specs.State.{DeviceState}
use Rattle.machine.specs.Step.{drop_by, drop_input, drop_of, out_reply, write_register, written_out}
use Rattle.machine.specs.declared.event.Event.{Event}
use Rattle.machine.specs.declared.event.Event.TheVariants.{RegWrite, Drop}
use Rattle.machine.specs.declared.kind.Kind.{Kind}
use Rattle.machine.specs.declared.kind.Kind.TheVariants.{Network, Block, Outside, Console, Entropy}
use Rattle.machine.specs.declared.reply.Reply.{Reply}
use Rattle.machine.specs.declared.shape.Shape.{Shape}
use Rattle.sender.specs.Calls.{Does}
use Rattle.sender.specs.LiveState.{LiveSeen, refusal_for}
use Rattle.sender.specs.Parked.{LiveParkedSeen}
use Rattle.sender.specs.ParkedCalls.{GuestsParked}
use Rattle.sender.specs.declared.event.LiveEvent.TheVariants.{Guest}
use Rattle.sender.specs.declared.event.LiveReply.{LiveReply}
use Rattle.sender.specs.declared.event.LiveReply.TheVariants as live
use Rattle.sender.specs.declared.mig_error.MigError.{MigError}
use Rattle.sender.specs.declared.phase.Phase.{Phase}
use Rattle.sender.specs.declared.phase.Phase.TheVariants as phases
use Rattle.c_handle.specs.Dropping.{drops_out}
use Rattle.c_handle.specs.Kept.{KeptSeen, LoanSeen, StillLent, MovingLent, State, Still, Moving, Arriving, Lent}
use Rattle.c_handle.specs.Resetting.{AreDone, HasPages, IsDone, ResetsKept, drops_any, drops_below, has_input, loan_refusal, made_in, reset_of, state_refusal, resets_from, shapes_in, stop_refusal}
use Rattle.c_machine.specs.Status.{status_of}
use Rattle.c_handle.specs.SendStatus.{live_status}
use Rattle.c_handle.specs.Told.{Tells, TellsSo}
use Rattle.c_handle.proofs.ByParked.{applied_at, zero_ram}

-- Of a device that is there a write of a register is done, and so is a drop, where something can be put in.
out_done : (out : Option ℕ) → status_of (out_reply out) ≡ 0
out_done None = refl
out_done (Some byte) = refl

write_done : (dev : ℕ) (o : Option DeviceState) (shape : Shape) (off width value : ℕ) → option_map (λ (d : DeviceState). made_as d.kind) o ≡ Some shape → status_of (write_register dev o off width value).reply ≡ 0
write_done dev None shape off width value is = absurd cc
write_done dev (Some d) shape off width value is = out_done (written_out d.kind off width value)

drop_kind : (dev : ℕ) (d : DeviceState) (kind : Kind) → has_input (made_as kind) ≡ true → status_of (drop_by dev d (drop_of kind)).reply ≡ 0
drop_kind dev d (Network mac inbox) some = refl
drop_kind dev d (Block block) some = absurd (true≢false (sym some))
drop_kind dev d (Outside block) some = absurd (true≢false (sym some))
drop_kind dev d (Console size held) some = refl
drop_kind dev d (Entropy pool) some = refl

of_some : (a b : Shape) → ◌≡◌ {A = Option Shape} (Some a) (Some b) → a ≡ b
of_some a b is = cc

drop_done : (dev : ℕ) (o : Option DeviceState) (shape : Shape) → option_map (λ (d : DeviceState). made_as d.kind) o ≡ Some shape → has_input shape ≡ true → status_of (drop_input dev o).reply ≡ 0
drop_done dev None shape is some = absurd cc
drop_done dev (Some d) shape is some = drop_kind dev d d.kind (ap has_input (of_some (made_as d.kind) shape is) ∙ some)

made_at : (m : Seen) (dev : ℕ) (shape : Shape) → slice_get (made_in (state_of m).devices) dev ≡ Some shape → option_map (λ (d : DeviceState). made_as d.kind) (slice_get (state_of m).devices dev) ≡ Some shape
made_at m dev shape there = sym (slice_get-map (λ (d : DeviceState). made_as d.kind) (state_of m).devices dev) ∙ there

wrote : (m next : Seen) (dev : ℕ) (shape : Shape) (reply : Reply) → slice_get (made_in (state_of m).devices) dev ≡ Some shape → IsApplied m (RegWrite dev 112 4 0) reply next → status_of reply ≡ 0
wrote m next dev shape reply there applied = ap status_of applied.has.reply_is ∙ write_done dev (slice_get (state_of m).devices dev) shape 112 4 0 (made_at m dev shape there)

dropped : (m next : Seen) (dev : ℕ) (shape : Shape) (reply : Reply) → slice_get (made_in (state_of m).devices) dev ≡ Some shape → has_input shape ≡ true → IsApplied m (Drop dev) reply next → status_of reply ≡ 0
dropped m next dev shape reply there some applied = ap status_of applied.has.reply_is ∙ drop_done dev (slice_get (state_of m).devices dev) shape (made_at m dev shape there) some

-- What a device was made as, by its state.
shape_at : (devices : List DeviceState) (dev : ℕ) (d : DeviceState) (told : Shape) → slice_get devices dev ≡ Some d → told ≡ made_as d.kind → slice_get (made_in devices) dev ≡ Some told
shape_at devices dev d told there is = slice_get-map (λ (x : DeviceState). made_as x.kind) devices dev ∙ ap (option_map (λ (x : DeviceState). made_as x.kind)) there ∙ ap Some (sym is)

pub shape_still : (k : State) (m : Seen) (dev : ℕ) (d : DeviceState) (told : Shape) → k ≡ Still m → slice_get (state_of m).devices dev ≡ Some d → told ≡ made_as d.kind → slice_get (shapes_in k) dev ≡ Some told
shape_still k m dev d told is there made = ap (λ (x : State). slice_get (shapes_in x) dev) is ∙ shape_at (state_of m).devices dev d told there made

pub shape_moving : (k : State) (l : LiveSeen) (dev : ℕ) (d : DeviceState) (told : Shape) → k ≡ Moving l → slice_get (state_of l.machine).devices dev ≡ Some d → told ≡ made_as d.kind → slice_get (shapes_in k) dev ≡ Some told
shape_moving k l dev d told is there made = ap (λ (x : State). slice_get (shapes_in x) dev) is ∙ shape_at (state_of l.machine).devices dev d told there made

pub shape_still_lent : (k : State) (p : ParkedSeen) (dev : ℕ) (d : DeviceState) (told : Shape) → k ≡ Lent (StillLent p) → slice_get (parked_states p) dev ≡ Some d → told ≡ made_as d.kind → slice_get (shapes_in k) dev ≡ Some told
shape_still_lent k p dev d told is there made = ap (λ (x : State). slice_get (shapes_in x) dev) is ∙ shape_at (parked_states p) dev d told there made

pub shape_moving_lent : (k : State) (l : LiveParkedSeen) (dev : ℕ) (d : DeviceState) (told : Shape) → k ≡ Lent (MovingLent l) → slice_get (parked_states l.machine) dev ≡ Some d → told ≡ made_as d.kind → slice_get (shapes_in k) dev ≡ Some told
shape_moving_lent k l dev d told is there made = ap (λ (x : State). slice_get (shapes_in x) dev) is ∙ shape_at (parked_states l.machine) dev d told there made

-- A machine that was not stopped refuses no event.
pub going_for : (p : Phase) (e : Event) → stop_refusal p ≡ None → refusal_for p (Guest e) ≡ None
going_for phases.Fresh e going = refl
going_for (phases.Open k) e going = refl
going_for phases.Stopped e going = absurd cc
going_for phases.Failed e going = refl

-- An event whose reply is this one, whatever RAM is: the shapes stay, and so does that the machine was not stopped.
pub record IsDoneBy (k : State) (status : ℕ) (next : State) : Type 0 where
  pub status_is : status ≡ 0
  pub shapes : shapes_in next ≡ shapes_in k
  pub going : state_refusal next ≡ None
  pub pages : HasPages next

abbrev pub IsFine : State → Event → Type 0
IsFine k e = (m next : Seen) (reply : Reply) → made_in (state_of m).devices ≡ shapes_in k → IsApplied m e reply next → status_of reply ≡ 0

live_done : (o : Option MigError) (l next : LiveSeen) (e : Event) (reply : LiveReply) (status : ℕ) → o ≡ None → stop_refusal l.phase ≡ None → IsFine (Moving l) e → status ≡ live_status reply
    → MatchOption o (Does l (Guest e) reply next) (λ x. (reply ≡ live.Mig x) × (next ≡ l)) → IsDoneBy (Moving l) status (Moving next)
live_done (Some x) l next e reply status none going fine told does = absurd cc
live_done None l next e (live.Guest r) status none going fine told does = record {
  status_is = told ∙ fine l.machine next.machine r refl does.is_applied;
  shapes = does.is_applied.shape.devices;
  going = ap (λ (s : LiveSeen). stop_refusal s.phase) does.rest ∙ going;
  pages = tt;
}
live_done None l next e (live.Begun k) status none going fine told does = absurd does
live_done None l next e (live.Copied item) status none going fine told does = absurd does
live_done None l next e live.RoundDone status none going fine told does = absurd does
live_done None l next e live.RoundOpen status none going fine told does = absurd does
live_done None l next e (live.Stopped pages sectors) status none going fine told does = absurd does
live_done None l next e (live.Mig x) status none going fine told does = absurd does

-- While RAM is lent.
parked_shapes : (p next : ParkedSeen) (e : Event) (reply : Reply) → 1 ≤ length p.memory → length p.memory ≤ 4294967295 → IsAppliedParked p e reply next → made_in (parked_states next) ≡ made_in (parked_states p)
parked_shapes p next e reply some few applied = (applied_at p next e reply some few applied).shape.devices

pub same_pages : (p next : ParkedSeen) → next.memory ≡ p.memory → (1 ≤ length p.memory) × (length p.memory ≤ 4294967295) → (1 ≤ length next.memory) × (length next.memory ≤ 4294967295)
same_pages p next same pages = subst (λ (v : List ℕ). (1 ≤ length v) × (length v ≤ 4294967295)) (sym same) pages

parked_done : (o : Option MigError) (l next : LiveParkedSeen) (e : Event) (reply : LiveReply) (status : ℕ) → o ≡ None → stop_refusal l.phase ≡ None → HasPages (Lent (MovingLent l)) → IsFine (Lent (MovingLent l)) e → status ≡ live_status reply
    → MatchOption o (GuestsParked l e reply next) (λ x. (reply ≡ live.Mig x) × (next ≡ l)) → IsDoneBy (Lent (MovingLent l)) status (Lent (MovingLent next))
parked_done (Some x) l next e reply status none going pages fine told does = absurd cc
parked_done None l next e (live.Guest r) status none going pages fine told does = record {
  status_is = told ∙ fine (back_with l.machine (zero_ram l.machine)) (back_with next.machine (zero_ram l.machine)) r refl (applied_at l.machine next.machine e r pages.0 pages.1 does.applied);
  shapes = parked_shapes l.machine next.machine e r pages.0 pages.1 does.applied;
  going = ap (λ (s : LiveParkedSeen). stop_refusal s.phase) does.rest ∙ going;
  pages = same_pages l.machine next.machine does.applied.versions pages;
}
parked_done None l next e (live.Begun k) status none going pages fine told does = absurd does
parked_done None l next e (live.Copied item) status none going pages fine told does = absurd does
parked_done None l next e live.RoundDone status none going pages fine told does = absurd does
parked_done None l next e live.RoundOpen status none going pages fine told does = absurd does
parked_done None l next e (live.Stopped pages_ sectors) status none going pages fine told does = absurd does
parked_done None l next e (live.Mig x) status none going pages fine told does = absurd does

loan_done : (x next : LoanSeen) (e : Event) (status number before : ℕ) → loan_refusal x ≡ None → HasPages (Lent x) → IsFine (Lent x) e → Tells (Lent x) e status number before (Lent next) → IsDoneBy (Lent x) status (Lent next)
loan_done (StillLent p) (StillLent next) e status number before none pages fine t = record {
  status_is = t.status_is ∙ fine (back_with p (zero_ram p)) (back_with next (zero_ram p)) t.reply refl (applied_at p next e t.reply pages.0 pages.1 t.applied);
  shapes = parked_shapes p next e t.reply pages.0 pages.1 t.applied;
  going = refl;
  pages = same_pages p next t.applied.versions pages;
}
loan_done (MovingLent l) (MovingLent next) e status number before none pages fine t = parked_done (refusal_for l.phase (Guest e)) l next e t.reply status (going_for l.phase e none) none pages fine t.status_is t.serves
loan_done (StillLent p) (MovingLent next) e status number before none pages fine t = absurd t
loan_done (MovingLent l) (StillLent next) e status number before none pages fine t = absurd t

done_by : (k next : State) (e : Event) (status number before : ℕ) → state_refusal k ≡ None → HasPages k → IsFine k e → Tells k e status number before next → IsDoneBy k status next
done_by (Still m) (Still next) e status number before none pages fine t = record { status_is = t.status_is ∙ fine m next t.reply refl t.applied; shapes = t.applied.shape.devices; going = refl; pages = tt }
done_by (Moving l) (Moving next) e status number before none pages fine t = live_done (refusal_for l.phase (Guest e)) l next e t.reply status (going_for l.phase e none) none fine t.status_is t.serves
done_by (Lent x) (Lent next) e status number before none pages fine t = loan_done x next e status number before none pages fine t
done_by (Arriving r) next e status number before none pages fine t = absurd cc
done_by (Still m) (Moving next) e status number before none pages fine t = absurd t
done_by (Still m) (Arriving next) e status number before none pages fine t = absurd t
done_by (Still m) (Lent next) e status number before none pages fine t = absurd t
done_by (Moving l) (Still next) e status number before none pages fine t = absurd t
done_by (Moving l) (Arriving next) e status number before none pages fine t = absurd t
done_by (Moving l) (Lent next) e status number before none pages fine t = absurd t
done_by (Lent x) (Still next) e status number before none pages fine t = absurd t
done_by (Lent x) (Moving next) e status number before none pages fine t = absurd t
done_by (Lent x) (Arriving next) e status number before none pages fine t = absurd t

-- The two events of a device.
pub wrote_in : (k next : State) (dev status number : ℕ) (shape : Shape) → state_refusal k ≡ None → HasPages k → slice_get (shapes_in k) dev ≡ Some shape → Tells k (RegWrite dev 112 4 0) status number 0 next → IsDoneBy k status next
wrote_in k next dev status number shape none pages there t =
    done_by k next (RegWrite dev 112 4 0) status number 0 none pages (λ m after reply same applied. wrote m after dev shape reply (ap (λ (l : List Shape). slice_get l dev) same ∙ there) applied) t

pub dropped_in : (k next : State) (dev status : ℕ) (shape : Shape) → state_refusal k ≡ None → HasPages k → slice_get (shapes_in k) dev ≡ Some shape → has_input shape ≡ true → TellsSo k (Drop dev) status next → IsDoneBy k status next
dropped_in k next dev status shape none pages there some t =
    done_by k next (Drop dev) status 0 0 none pages (λ m after reply same applied. dropped m after dev shape reply (ap (λ (l : List Shape). slice_get l dev) same ∙ there) some applied) t

is_done : (k next : State) (e : Event) (status number : ℕ) → status ≡ 0 → Tells k e status number 0 next → IsDone k e next
is_done k next e status number done t = record { number = number; tells = subst (λ (s : ℕ). Tells k e s number 0 next) done t }

ends_with : (k mid next : State) (dev : ℕ) (shape : Shape) (some : Bool) → has_input shape ≡ some → IsDone k (RegWrite dev 112 4 0) mid → AreDone mid (if some then Drop dev ∷ [] else []) next → AreDone k (reset_of dev shape) next
ends_with k mid next dev shape some is first rest = (mid, first, subst (λ (b : Bool). AreDone mid (if b then Drop dev ∷ [] else []) next) (sym is) rest)

pub one_with : (k mid next : State) (dev first second number : ℕ) (told shape : Shape) → slice_get (shapes_in k) dev ≡ Some told → has_input told ≡ true → Tells k (RegWrite dev 112 4 0) first number 0 mid → first ≡ 0 → TellsSo mid (Drop dev) second next → second ≡ 0
    → slice_get (shapes_in k) dev ≡ Some shape → AreDone k (reset_of dev shape) next
one_with k mid next dev first second number told shape at some one done two also there =
    let is : told ≡ shape = of_some told shape (sym at ∙ there) in
    ends_with k mid next dev shape true (ap has_input (sym is) ∙ some) (is_done k mid (RegWrite dev 112 4 0) first number done one) (next, is_done mid next (Drop dev) second 0 also two, refl)

pub one_without : (k next : State) (dev first number : ℕ) (told shape : Shape) → slice_get (shapes_in k) dev ≡ Some told → has_input told ≡ false → Tells k (RegWrite dev 112 4 0) first number 0 next → first ≡ 0
    → slice_get (shapes_in k) dev ≡ Some shape → AreDone k (reset_of dev shape) next
one_without k next dev first number told shape at none one done there =
    let is : told ≡ shape = of_some told shape (sym at ∙ there) in
    ends_with k next next dev shape false (ap has_input (sym is) ∙ none) (is_done k next (RegWrite dev 112 4 0) first number done one) refl

-- One device after another: what is done of the rest is done of all.
abbrev pub IsOnWay : State → List Shape → State → ℕ → Type 0
IsOnWay k shapes now dev = (next : State) → AreDone now (resets_from dev (drop dev shapes)) next → AreDone k (resets_from 0 shapes) next

joined : (a b c : State) (es fs : List Event) → AreDone a es b → AreDone b fs c → AreDone a (es ++ fs) c
joined a b c [] fs first second = subst (λ (k : State). AreDone k fs c) first second
joined a b c (e ∷ es) fs first second = (first.0, first.1, joined first.0 b c es fs first.2 second)

slice_there : (shapes : List Shape) (dev : ℕ) (d : Shape) → dev < length shapes → slice_get shapes dev ≡ Some (get_or shapes dev d)
slice_there [] dev d below = absurd (omega (arith, below))
slice_there (s ∷ shapes) zero d below = refl
slice_there (s ∷ shapes) (suc dev) d below = slice_there shapes dev d (omega (arith, below))

pub goes_on : (k now mid : State) (shapes : List Shape) (dev : ℕ) (d : Shape) → dev < length shapes → IsOnWay k shapes now dev → ((shape : Shape) → slice_get shapes dev ≡ Some shape → AreDone now (reset_of dev shape) mid) → IsOnWay k shapes mid (dev + 1)
goes_on k now mid shapes dev d below way one next rest =
    let shape = get_or shapes dev d in
    let at : drop dev shapes ≡ shape ∷ drop (dev + 1) shapes = drop_more shapes dev d below in
    way next (subst (λ (l : List Shape). AreDone now (resets_from dev l) next) (sym at) (joined now mid next (reset_of dev shape) (resets_from (dev + 1) (drop (dev + 1) shapes)) (one shape (slice_there shapes dev d below)) rest))

pub all_done : (k now : State) (shapes : List Shape) (dev : ℕ) → length shapes ≤ dev → IsOnWay k shapes now dev → AreDone k (resets_from 0 shapes) now
all_done k now shapes dev end way = way now (subst (λ (l : List Shape). AreDone now (resets_from dev l) now) (sym (drop_all dev shapes end)) refl)

-- Whether a reset would drop a request whose call is out, one device after another.
or_true : (a : Bool) → (a || true) ≡ true
or_true true = refl
or_true false = refl

drops_more : (k : KeptSeen) (n m : ℕ) → n ≤ m → drops_below n k ≡ true → drops_below m k ≡ true
drops_more k n zero less is = let none : n ≡ 0 = omega (arith, less) in ap (λ (i : ℕ). drops_below i k) (sym none) ∙ is
drops_more k n (suc m) less is =
    elim (cases_lt m n) as (λ _. drops_below (suc m) k ≡ true) [
      | inl last ↦ let same : n ≡ suc m = omega (arith, less, last) in ap (λ (i : ℕ). drops_below i k) (sym same) ∙ is
      | inr rest ↦ rw (drops_more k n m rest is) refl
    ]

not_more : (a b : Bool) → b ≡ false → (a ≡ true → b ≡ true) → a ≡ false
not_more true b is more = absurd (true≢false (sym (more refl) ∙ is))
not_more false b is more = refl

one_past : (k : KeptSeen) (dev : ℕ) → drops_below (dev + 1) k ≡ (drops_below dev k || drops_out k dev 112 4 0)
one_past k dev = let next : dev + 1 ≡ suc dev = omega arith in ap (λ (i : ℕ). drops_below i k) next

pub drops_here : (k : KeptSeen) (dev count : ℕ) (found : Bool) → dev < count → count ≡ length (shapes_in k.state) → found ≡ drops_out k dev 112 4 0 → found ≡ true → true ≡ drops_any k
drops_here k dev count found below all is so =
    let here : drops_below (dev + 1) k ≡ true = one_past k dev ∙ ap (λ (b : Bool). drops_below dev k || b) (sym is ∙ so) ∙ or_true (drops_below dev k) in
    sym (drops_more k (dev + 1) (length (shapes_in k.state)) (omega (arith, below, all)) here)

pub drops_not_yet : (k : KeptSeen) (dev : ℕ) (found : Bool) → found ≡ drops_out k dev 112 4 0 → found ≡ false → drops_below dev k ≡ false → drops_below (dev + 1) k ≡ false
drops_not_yet k dev found is so before = one_past k dev ∙ rw (before, sym is ∙ so) refl

pub drops_none : (k : KeptSeen) (dev count : ℕ) → count ≤ dev → count ≡ length (shapes_in k.state) → drops_below dev k ≡ false → false ≡ drops_any k
drops_none k dev count past all before = sym (not_more (drops_any k) (drops_below dev k) before (λ is. drops_more k (length (shapes_in k.state)) dev (omega (arith, past, all)) is))

-- By whether it is refused.
pub refused : (k : KeptSeen) (status : ℕ) (answer : Option ℕ) → answer ≡ state_refusal k.state → answer ≡ Some status → ResetsKept k status k.state
refused k status answer is why = rw (sym is ∙ why) (refl, refl)

pub kept_out : (k : KeptSeen) (answer : Option ℕ) (drops : Bool) → answer ≡ state_refusal k.state → answer ≡ None → drops ≡ drops_any k → drops ≡ true → ResetsKept k 29 k.state
kept_out k answer drops is none asked so = rw (sym is ∙ none, sym asked ∙ so) (refl, refl)

pub was_reset : (k : KeptSeen) (next : State) (answer : Option ℕ) (drops : Bool) → answer ≡ state_refusal k.state → answer ≡ None → drops ≡ drops_any k → drops ≡ false → AreDone k.state (resets_from 0 (shapes_in k.state)) next → ResetsKept k 0 next
was_reset k next answer drops is none asked so done = rw (sym is ∙ none, sym asked ∙ so) (refl, done)
