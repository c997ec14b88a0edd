-- Calls that need no byte of RAM, of a machine that is being migrated, its RAM here or lent.
use Rattle.std.proofs.Common.{◌≡◌, ◌≢◌, ℕ, ◌+◌, ◌*◌, ◌/◌, ◌<◌, ◌≤◌, Bool, false, List, [], ◌∷◌, get_or, length, map, take, drop, None, refl, sym, ap, subst, ◌∙◌, arith}
use Rattle.std.specs.Prelude.{Err, Ok, Result, slice_get}
use Rattle.dirtylog.specs.Members.{HasNone, member_count}
use Rattle.guestmem.specs.Item.{Item}
use Rattle.guestmem.specs.Memory.{Memory}
use Rattle.machine.specs.Applied.{IsApplied}
use Rattle.machine.specs.Calls.{HasCalled}
use Rattle.machine.specs.Known.{Between, Here, IsSomeRam, Known, Lent, MayBe, Whatever}
use Rattle.machine.specs.EffectLaws.{HasItem}
use Rattle.machine.specs.Layout.{IsItemIn, Layout, firsts_from, item_at, layout_by, layout_of, size_of}
use Rattle.machine.specs.Over.{AppliesOver, FailsFlushOver, FlushesOver, calls_in, sectors_in}
use Rattle.machine.specs.Seen.{DeviceSeen, Seen, SeenOver, all_calls, state_of, states_of, with_ram}
use Rattle.machine.specs.Sound.{IsSound}
use Rattle.machine.specs.Shapes.{made_as}
use Rattle.machine.specs.State.{DeviceState, MachineState}
use Rattle.machine.specs.Unsynced.{FailsFlushIf, FlushesDisk, flushes_if}
use Rattle.machine.specs.declared.event.Event.{Event}
use Rattle.machine.specs.declared.event.Event.TheVariants.{RegRead, RegWrite, MemRead, MemWrite, Step, Input, Resize, Drop, Disk}
use Rattle.machine.specs.declared.reply.Reply.{Reply}
use Rattle.machine.specs.declared.shape.Shape.{Shape}
use Rattle.machine.proofs.Known.{at_each, between_each, between_same, for_each}
use Rattle.machine.proofs.Numbering.{has_item, item_there, size_grows}
use Rattle.machine.proofs.Quiet.{IsQuiet}
use Rattle.wire.specs.Sinks.{Digested, SinkState}
use Rattle.wire.specs.Stream.{device_texts}
use Rattle.sender.specs.Calls.{EndsRound, Serves, StopsWithin}
use Rattle.sender.specs.HereOrLent.{EndsOver, FlushesLiveOver, GuestCallsOver, IsLiveOver, LeavesRest, SaysWhether, ServesOver, TriesFlushOver, layout_over, pages_in}
use Rattle.sender.specs.Items.{AreShapesOf}
use Rattle.sender.specs.LiveState.{HasPlaces, LiveSeen, LiveSeenOver, live_with, refusal_for}
use Rattle.sender.specs.Reads.{HasLiveCalled}
use Rattle.sender.specs.Stopping.{RoundFits, SetsFit}
use Rattle.sender.specs.Unsynced.{FlushesLiveDisk, TriesFlush}
use Rattle.sender.specs.declared.dirty.Dirty.{Dirty}
use Rattle.sender.specs.declared.event.LiveEvent.TheVariants.{EndRound, Guest}
use Rattle.sender.specs.declared.event.LiveReply.TheVariants as r
use Rattle.sender.specs.declared.mig_error.MigError.{MigError}
use Rattle.sender.specs.declared.mig_error.MigError.TheVariants.{AlreadyStopped}
use Rattle.sender.specs.declared.phase.Phase.{Phase}
use Rattle.sender.specs.declared.phase.Phase.TheVariants as phases
use Rattle.sender.proofs.Flushed.{live_flushed}
use Rattle.sender.proofs.Living.{fit_next, guest_refused, live_again, live_begun, live_quiet, quiet_served, served_round}
use Rattle.sender.proofs.Numbers.{layout_by_shapes, sizes_long}
use Rattle.sender.proofs.Parking.{layout_is}
use Rattle.sender.proofs.StopLengths.{few_items, stop_short}
use Rattle.sender.proofs.Unsynced.{answered, flush_refused, live_tried}

-- These devices with this RAM, and a machine of them that is being migrated.
abbrev pub seen_with : List DeviceSeen → Memory → Seen
seen_with ds m = record { memory = m; devices = ds }

-- There is a RAM, and the sets fit, wherever it is.
pub some_ram : (k : Known) (ds : List DeviceSeen) (phase : Phase) (due dirty : List Bool) (firsts : List ℕ) (at : ℕ) → IsLiveOver k ds phase due dirty firsts at → IsSomeRam k
some_ram (Here m) ds phase due dirty firsts at live = (m, refl)
some_ram (Lent versions) ds phase due dirty firsts at live = live.0

pub sets_over : (k : Known) (ds : List DeviceSeen) (phase : Phase) (due dirty : List Bool) (firsts : List ℕ) (at : ℕ) → IsLiveOver k ds phase due dirty firsts at → SetsFit (layout_over k ds) phase due dirty firsts at
sets_over (Here m) ds phase due dirty firsts at live = live.sets
sets_over (Lent versions) ds phase due dirty firsts at live = live.1

pub kept_lent : (v w : List ℕ) (ds es : List DeviceSeen) (phase : Phase) (due dirty : List Bool) (firsts : List ℕ) (at : ℕ) → IsLiveOver (Lent v) ds phase due dirty firsts at → w ≡ v
    → map (λ (d : DeviceSeen). d.sectors) es ≡ map (λ (d : DeviceSeen). d.sectors) ds → IsLiveOver (Lent w) es phase due dirty firsts at
kept_lent v w ds es phase due dirty firsts at live versions sectors = rw (versions, sectors) live

-- Another phase keeps it, and sets that are as long.
pub again_over : (k : Known) (ds : List DeviceSeen) (p q : Phase) (due dirty : List Bool) (firsts : List ℕ) (at : ℕ) → IsLiveOver k ds p due dirty firsts at → RoundFits q → IsLiveOver k ds q due dirty firsts at
again_over (Here m) ds p q due dirty firsts at live round = live_again (seen_with ds m) (seen_with ds m) p q due dirty firsts at live refl round
again_over (Lent v) ds p q due dirty firsts at live round = (live.0, fit_next (layout_over (Lent v) ds) p q due due dirty dirty firsts firsts at at live.1 refl refl refl round live.1.reached live.1.passed)

pub begun_over : (k : Known) (ds : List DeviceSeen) (p q : Phase) (due new_due dirty new_dirty : List Bool) (firsts : List ℕ) (at : ℕ) → IsLiveOver k ds p due dirty firsts at → length new_due ≡ length due → length new_dirty ≡ length dirty → RoundFits q
    → IsLiveOver k ds q new_due new_dirty firsts 0
begun_over (Here m) ds p q due new_due dirty new_dirty firsts at live due_long dirty_long round = live_begun (seen_with ds m) p q due new_due dirty new_dirty firsts at live due_long dirty_long round
begun_over (Lent v) ds p q due new_due dirty new_dirty firsts at live due_long dirty_long round =
    (live.0, fit_next (layout_over (Lent v) ds) p q due new_due dirty new_dirty firsts firsts at 0 live.1 due_long dirty_long refl round (omega arith) (λ j below. absurd (omega (arith, below))))

-- An event that writes nothing keeps it.
kept_by : (a b : Known) (ds es : List DeviceSeen) (d : Dirty) (phase : Phase) (due : List Bool) (at : ℕ) (e : Event) (reply : Reply) → IsLiveOver a ds phase due d.set d.firsts.items at → Between a b (λ m n. IsApplied (seen_with ds m) e reply (seen_with es n))
    → map (λ (x : DeviceSeen). x.sectors) es ≡ map (λ (x : DeviceSeen). x.sectors) ds → IsQuiet e → IsLiveOver b es phase due d.set d.firsts.items at
kept_by (Here m) (Here n) ds es d phase due at e reply live h sectors quiet = live_quiet (seen_with ds m) (seen_with es n) d phase due at e reply live h quiet
kept_by (Here m) (Lent w) ds es d phase due at e reply live h sectors quiet = absurd h
kept_by (Lent v) (Here n) ds es d phase due at e reply live h sectors quiet = absurd h
kept_by (Lent v) (Lent w) ds es d phase due at e reply live h sectors quiet = kept_lent v w ds es phase due d.set d.firsts.items at live h.0 sectors

pub guest_kept : {M : Type 0} (known : M → Known) (machine next : SeenOver M) (d : Dirty) (phase : Phase) (due : List Bool) (at : ℕ) (e : Event) (reply : Reply) → IsLiveOver (known machine.memory) machine.devices phase due d.set d.firsts.items at
    → AppliesOver known machine e reply next → sectors_in next ≡ sectors_in machine → IsQuiet e → IsLiveOver (known next.memory) next.devices phase due d.set d.firsts.items at
guest_kept known machine next d phase due at e reply live h sectors quiet = kept_by (known machine.memory) (known next.memory) machine.devices next.devices d phase due at e reply live h sectors quiet

-- An event that writes nothing calls no disk.
quiet_called : (called : ℕ → ℕ) (old new : Seen) (e : Event) (reply : Reply) → IsQuiet e → all_calls new ≡ all_calls old → HasCalled called old e reply new
quiet_called called old new (RegRead dev off width) reply quiet same = same
quiet_called called old new (RegWrite dev off width value) reply quiet same = same
quiet_called called old new (MemRead addr len) reply quiet same = same
quiet_called called old new (MemWrite addr bytes) reply quiet same = same
quiet_called called old new (Step dev pick) reply quiet same = absurd quiet
quiet_called called old new (Input dev bytes) reply quiet same = same
quiet_called called old new (Resize dev cols rows) reply quiet same = same
quiet_called called old new (Drop dev) reply quiet same = same
quiet_called called old new (Disk dev pick given) reply quiet same = same

module _ {M : Type 0} (known : M → Known) (machine next : SeenOver M) (phase : Phase) (due dirty : List Bool) (digest : Digested) (out : SinkState) where
  abbrev live_of : SeenOver M → LiveSeenOver M
  live_of s = record { machine = s; phase = phase; due = due; dirty = dirty; digest = digest; out = out }

  -- The guest's event was served.
  module _ (e : Event) (reply : Reply) (h : AppliesOver known machine e reply next) (quiet : IsQuiet e) where
    pub guest_served : phase ≢ phases.Stopped → ServesOver known (live_of machine) e (r.Guest reply) (live_of next)
    guest_served goes =
        between_each (known machine.memory) (known next.memory) (λ m n. IsApplied (with_ram machine m) e reply (with_ram next n)) (λ m n. Serves (live_with (live_of machine) m) (Guest e) (r.Guest reply) (live_with (live_of next) n)) h
        (λ m n may did. quiet_served (with_ram machine m) (with_ram next n) phase due dirty digest out e reply did quiet goes)

    pub guest_called : (called : ℕ → ℕ) → calls_in next ≡ calls_in machine → GuestCallsOver known called (live_of machine) e (r.Guest reply) (live_of next)
    guest_called called same =
        between_each (known machine.memory) (known next.memory) (λ m n. IsApplied (with_ram machine m) e reply (with_ram next n)) (λ m n. HasCalled called (with_ram machine m) e reply (with_ram next n)) h
        (λ m n may did. quiet_called called (with_ram machine m) (with_ram next n) e reply quiet same)

  pub guest_leaves : {A : Type 0} (x : A) → sectors_in next ≡ sectors_in machine → calls_in next ≡ calls_in machine → phase ≢ phases.Stopped → LeavesRest (live_of machine) (Ok x) (live_of next)
  guest_leaves x sectors calls goes = record { rest = refl; sectors = sectors; calls = calls; runs = goes; refused = tt }

  -- A disk was flushed beside all steps.
  pub flushed_over : {T E : Type 0} (dev : ℕ) (result : Result T E) → FlushesOver known machine dev result next → FlushesLiveOver known (live_of machine) dev result (live_of next)
  flushed_over dev result h =
      between_each (known machine.memory) (known next.memory) (λ m n. FlushesDisk (with_ram machine m) dev result (with_ram next n)) (λ m n. FlushesLiveDisk (live_with (live_of machine) m) dev result (live_with (live_of next) n)) h
      (λ m n may did. record { flushes = did; rest = refl })

  -- A flush failed in place of its step.
  module _ (dev pick : ℕ) (was : Bool) (is : was ≡ flushes_if (slice_get (states_of machine) dev) pick) where
    pub tried_over : FailsFlushOver known was machine dev pick next → phase ≢ phases.Stopped → TriesFlushOver known (live_of machine) dev pick (Ok was) (live_of next)
    tried_over h goes =
        between_each (known machine.memory) (known next.memory) (λ m n. FailsFlushIf was (with_ram machine m) dev pick (with_ram next n)) (λ m n. TriesFlush (live_with (live_of machine) m) dev pick (Ok was) (live_with (live_of next) n)) h
        (λ m n may did. answered (with_ram machine m) (with_ram next n) phase due dirty digest out dev pick was goes is did)

    pub says_whether : (was ≡ false → next ≡ machine) → SaysWhether (live_of machine) dev pick (Ok was) (live_of next)
    says_whether same = (is, λ none. ap live_of (same none))

-- After a stop that closed the stream each is refused.
module _ {M : Type 0} (s : LiveSeenOver M) (x : MigError) (closed : (x ≡ AlreadyStopped) × (s.phase ≡ phases.Stopped)) where
  pub refused_over : (known : M → Known) (e : Event) → ServesOver known s e (r.Mig x) s
  refused_over known e = between_same (known s.machine.memory) (λ m n. Serves (live_with s m) (Guest e) (r.Mig x) (live_with s n)) (λ m may. guest_refused (live_with s m) e x closed)

  pub refused_calls : (known : M → Known) (called : ℕ → ℕ) (e : Event) → GuestCallsOver known called s e (r.Mig x) s
  refused_calls known called e = between_same (known s.machine.memory) (λ m n. HasLiveCalled called (live_with s m) (Guest e) (r.Mig x) (live_with s n)) (λ m may. refl)

  pub refused_leaves : {A : Type 0} → LeavesRest {A = A} s (Err x) s
  refused_leaves = record { rest = refl; sectors = refl; calls = refl; runs = tt; refused = (closed.0, closed.1, refl) }

  pub flush_refused_over : (known : M → Known) (dev pick : ℕ) → TriesFlushOver known s dev pick (Err x) s
  flush_refused_over known dev pick = between_same (known s.machine.memory) (λ m n. TriesFlush (live_with s m) dev pick (Err x) (live_with s n)) (λ m may. flush_refused (live_with s m) dev pick x closed)

-- A flush keeps it, and one that fails.
flush_by : {T E : Type 0} (a b : Known) (ds es : List DeviceSeen) (phase : Phase) (due dirty : List Bool) (firsts : List ℕ) (at dev : ℕ) (result : Result T E) → IsLiveOver a ds phase due dirty firsts at → Between a b (λ m n. FlushesDisk (seen_with ds m) dev result (seen_with es n))
    → ((m : Memory) → FlushesDisk (seen_with ds m) dev result (seen_with es m)) → IsLiveOver b es phase due dirty firsts at
flush_by (Here m) (Here n) ds es phase due dirty firsts at dev result live h whatever = live_flushed (seen_with ds m) (seen_with es n) phase due dirty firsts at dev result live h
flush_by (Here m) (Lent w) ds es phase due dirty firsts at dev result live h whatever = absurd h
flush_by (Lent v) (Here n) ds es phase due dirty firsts at dev result live h whatever = absurd h
flush_by (Lent v) (Lent w) ds es phase due dirty firsts at dev result live h whatever =
    kept_lent v w ds es phase due dirty firsts at live h.0 (ap (λ (m : MachineState). m.disks) (whatever (record { bytes = []; versions = []; place = None })).state)

pub flush_kept : {M T E : Type 0} (known : M → Known) (machine next : SeenOver M) (phase : Phase) (due dirty : List Bool) (firsts : List ℕ) (at dev : ℕ) (result : Result T E) → IsLiveOver (known machine.memory) machine.devices phase due dirty firsts at
    → FlushesOver known machine dev result next → ((m : Memory) → FlushesDisk (with_ram machine m) dev result (with_ram next m)) → IsLiveOver (known next.memory) next.devices phase due dirty firsts at
flush_kept known machine next phase due dirty firsts at dev result live h whatever = flush_by (known machine.memory) (known next.memory) machine.devices next.devices phase due dirty firsts at dev result live h whatever

try_by : (a b : Known) (ds es : List DeviceSeen) (phase : Phase) (due dirty : List Bool) (firsts : List ℕ) (at dev pick : ℕ) (was : Bool) → IsLiveOver a ds phase due dirty firsts at → Between a b (λ m n. FailsFlushIf was (seen_with ds m) dev pick (seen_with es n))
    → map (λ (x : DeviceSeen). x.sectors) es ≡ map (λ (x : DeviceSeen). x.sectors) ds → IsLiveOver b es phase due dirty firsts at
try_by (Here m) (Here n) ds es phase due dirty firsts at dev pick was live h sectors = live_tried (seen_with ds m) (seen_with es n) phase due dirty firsts at dev pick was live h
try_by (Here m) (Lent w) ds es phase due dirty firsts at dev pick was live h sectors = absurd h
try_by (Lent v) (Here n) ds es phase due dirty firsts at dev pick was live h sectors = absurd h
try_by (Lent v) (Lent w) ds es phase due dirty firsts at dev pick was live h sectors = kept_lent v w ds es phase due dirty firsts at live h.0 sectors

pub try_kept : {M : Type 0} (known : M → Known) (machine next : SeenOver M) (phase : Phase) (due dirty : List Bool) (firsts : List ℕ) (at dev pick : ℕ) (was : Bool) → IsLiveOver (known machine.memory) machine.devices phase due dirty firsts at
    → FailsFlushOver known was machine dev pick next → sectors_in next ≡ sectors_in machine → IsLiveOver (known next.memory) next.devices phase due dirty firsts at
try_kept known machine next phase due dirty firsts at dev pick was live h sectors = try_by (known machine.memory) (known next.memory) machine.devices next.devices phase due dirty firsts at dev pick was live h sectors

-- The layout with each RAM that may be there.
pub layout_at : (k : Known) (ds : List DeviceSeen) (m : Memory) → MayBe k m → layout_of (state_of (seen_with ds m)) ≡ layout_over k ds
layout_at (Here n) ds m is = rw is refl
layout_at (Lent versions) ds m is = layout_is (seen_with ds m) (record { memory = versions; devices = ds }) (omega (arith, is.0.pages, is.2)) refl

first_number : (sizes : List ℕ) (first other : ℕ) → 1 ≤ length sizes → get_or (firsts_from first sizes) 0 other ≡ first
first_number [] first other some = absurd (omega (arith, some))
first_number (size ∷ sizes) first other some = refl

longer_firsts : (sizes : List ℕ) (first : ℕ) → 1 ≤ length sizes → 1 ≤ length (firsts_from first sizes)
longer_firsts [] first some = absurd (omega (arith, some))
longer_firsts (size ∷ sizes) first some = omega arith

-- A round is still open, or another was begun.
pub still_open : {M : Type 0} (known : M → Known) (s : LiveSeenOver M) → refusal_for s.phase EndRound ≡ None → ¬ (HasNone s.due) → EndsOver known s r.RoundOpen s
still_open known s free some = between_same (known s.machine.memory) (λ m n. Serves (live_with s m) EndRound r.RoundOpen (live_with s n)) (λ m may. rw free (some, refl))

pub round_over : {M : Type 0} (known : M → Known) (old new : LiveSeenOver M) (k : ℕ) → refusal_for old.phase EndRound ≡ None → HasNone old.due → ((m : Memory) → MayBe (known old.machine.memory) m → EndsRound (live_with old m) k (live_with new m)) → new.machine ≡ old.machine
    → EndsOver known old (r.Begun k) new
round_over known old new k free none ends same =
    subst (λ b. Between (known old.machine.memory) b (λ m n. Serves (live_with old m) (EndRound) (r.Begun k) (live_with new n))) (ap (λ (x : SeenOver _). known x.memory) (sym same))
    (between_same (known old.machine.memory) (λ m n. Serves (live_with old m) EndRound (r.Begun k) (live_with new n)) (λ m may. served_round (live_with old m) (live_with new m) k free none (ends m may)))

-- What is left, by the sets.
module _ (k : Known) (ds : List DeviceSeen) (phase : Phase) (due dirty : List Bool) (firsts : List ℕ) (at : ℕ) (live : IsLiveOver k ds phase due dirty firsts at) (sound : Whatever k (λ m. IsSound (state_of (seen_with ds m)))) where
  ram : IsSomeRam k
  ram = some_ram k ds phase due dirty firsts at live

  sets : SetsFit (layout_over k ds) phase due dirty firsts at
  sets = sets_over k ds phase due dirty firsts at live

  sound_at : (m : Memory) → MayBe k m → IsSound (state_of (seen_with ds m))
  sound_at m may = at_each k (λ x. IsSound (state_of (seen_with ds x))) sound m may

  pages_at : (m : Memory) → MayBe k m → length m.bytes / 4096 ≡ pages_in k
  pages_at m may = ap (λ (l : Layout). l.pages) (layout_at k ds m may)

  some_disks : 1 ≤ length (layout_over k ds).disks
  some_disks = omega (arith, sizes_long (state_of (seen_with ds ram.0)) (sound_at ram.0 ram.1), (sound_at ram.0 ram.1).some_devices)

  pub some_firsts : 1 ≤ length firsts
  some_firsts = rw sets.firsts_are (longer_firsts (layout_over k ds).disks (pages_in k) some_disks)

  pub pages_first : (other : ℕ) → get_or firsts 0 other ≡ pages_in k
  pages_first other = rw sets.firsts_are (first_number (layout_over k ds).disks (pages_in k) other some_disks)

  pub few_pages : pages_in k ≤ 4294967295
  few_pages = omega (arith, pages_at ram.0 ram.1, (sound_at ram.0 ram.1).few_pages)

  -- Its items.
  module _ (pages : ℕ) (shapes : List Shape) (pages_are : pages ≡ pages_in k) (shapes_are : shapes ≡ map (λ (d : DeviceState). made_as d.kind) (map (λ (d : DeviceSeen). d.state) ds)) where
    shapes_with : AreShapesOf pages shapes (state_of (seen_with ds ram.0))
    shapes_with = record { sound = sound_at ram.0 ram.1; pages_are = pages_are ∙ sym (pages_at ram.0 ram.1); shapes_are = shapes_are }

    pub some_shapes : (m : MachineState) × AreShapesOf pages shapes m
    some_shapes = (state_of (seen_with ds ram.0), shapes_with)

    over_by_shapes : layout_over k ds ≡ layout_by pages shapes
    over_by_shapes = sym (layout_at k ds ram.0 ram.1) ∙ layout_by_shapes pages shapes (state_of (seen_with ds ram.0)) shapes_with

    pub below_by_shapes : (number : ℕ) → number < size_of (layout_over k ds) → number < size_of (layout_by pages shapes)
    below_by_shapes number below = subst (λ (l : Layout). number < size_of l) over_by_shapes below

    pub item_by_shapes : (number : ℕ) (item : Item) → item ≡ item_at (layout_by pages shapes) number → item ≡ item_at (layout_over k ds) number
    item_by_shapes number item is = is ∙ ap (λ (l : Layout). item_at l number) (sym over_by_shapes)

    pub item_is_there : (number : ℕ) (item : Item) → number < size_of (layout_over k ds) → item ≡ item_at (layout_by pages shapes) number → Whatever k (λ m. HasItem (state_of (seen_with ds m)) item)
    item_is_there number item below is =
        for_each k (λ m. HasItem (state_of (seen_with ds m)) item) (λ m may.
        let within : IsItemIn (layout_over k ds) item = subst (λ (x : Item). IsItemIn (layout_over k ds) x) (sym (item_by_shapes number item is)) (item_there (layout_over k ds) number below) in
        has_item (state_of (seen_with ds m)) item (sound_at m may).whole_pages (subst (λ (l : Layout). IsItemIn l item) (sym (layout_at k ds m may)) within))

  few_over : size_of (layout_over k ds) ≤ 73014444015
  few_over = subst (λ (l : Layout). size_of l ≤ 73014444015) (layout_at k ds ram.0 ram.1) (few_items (state_of (seen_with ds ram.0)) (sound_at ram.0 ram.1))

  pages_over : pages_in k ≤ size_of (layout_over k ds)
  pages_over = size_grows (layout_over k ds).disks (pages_in k)

  pub inside : (pages_in k ≤ length due) × (pages_in k ≤ length dirty)
  inside = (omega (arith, pages_over, sets.due_size), omega (arith, pages_over, sets.dirty_size))

  pub few_left : (length due ≤ 73014444015) × (length dirty ≤ 73014444015)
  few_left = (omega (arith, few_over, sets.due_size), omega (arith, few_over, sets.dirty_size))

  -- A stop, if no further page were dirty.
  module _ (digest : Digested) (out : SinkState) (devices bytes : ℕ) (states : devices ≡ length (device_texts 0 (map (λ (d : DeviceSeen). d.state) ds)))
      (are : bytes ≡ 4101 * (member_count (take (pages_in k) due) + member_count (take (pages_in k) dirty)) + 519 * (member_count (drop (pages_in k) due) + member_count (drop (pages_in k) dirty)) + devices + 33) where
    abbrev at_ram : Memory → LiveSeen
    at_ram m = record { machine = seen_with ds m; phase = phase; due = due; dirty = dirty; digest = digest; out = out }

    places : (m : Memory) → MayBe k m → HasPlaces (at_ram m)
    places m may = record {
      sound = sound_at m may;
      few = sets.few;
      due_size = sets.due_size ∙ ap size_of (sym (layout_at k ds m may));
      dirty_size = sets.dirty_size ∙ ap size_of (sym (layout_at k ds m may));
    }

    within : (m : Memory) → MayBe k m → StopsWithin (at_ram m) bytes
    within m may = λ pages sectors b next honest covers stops.
        let most = rw (pages_at m may) at (stop_short (at_ram m) next pages sectors b devices (places m may) states honest covers stops) in
        omega (arith, are, most)

    pub stops_within : Whatever k (λ m. StopsWithin (at_ram m) bytes)
    stops_within = for_each k (λ m. StopsWithin (at_ram m) bytes) within
