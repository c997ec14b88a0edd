-- A step beside the guest, while the RAM is lent.
use Rattle.std.proofs.Common.{◌≡◌, ◌≢◌, ℕ, ◌*◌, ◌^◌, ◌<◌, ◌++◌, Bool, List, [], ◌∷◌, length, map, refl, sym, ap, subst, ◌∙◌, append_assoc, append-nil, arith}
use Rattle.region.specs.Address.{address}
use Rattle.region.specs.Lending.{with_content}
use Rattle.region.specs.declared.region.Region.{Region}
use Rattle.guestmem.specs.Item.{Item}
use Rattle.guestmem.specs.Lent.{given_back, pages_written}
use Rattle.guestmem.specs.Memory.{IsMemory, Memory}
use Rattle.machine.specs.Beside.{IsStepOf}
use Rattle.machine.specs.Effect.{Effect, items_of}
use Rattle.machine.specs.Layout.{Layout, firsts_of, layout_of, size_of}
use Rattle.machine.specs.Seen.{DeviceSeen, state_of}
use Rattle.machine.specs.Sound.{IsSound}
use Rattle.machine.specs.State.{MachineState, base_of}
use Rattle.machine.specs.declared.event.Event.{Event}
use Rattle.machine.specs.declared.event.Event.TheVariants.{Step}
use Rattle.machine.specs.declared.reply.Reply.{Reply}
use Rattle.machine.proofs.GivenBack.{memory_back, still_memory}
use Rattle.machine.proofs.Numbering.{same_layout}
use Rattle.wire.specs.Sinks.{SinkState}
use Rattle.sender.specs.Calls.{AfterGuest, Serves, with_items}
use Rattle.sender.specs.History.{History, guest_events, text, then_came}
use Rattle.sender.specs.LiveState.{HasPlaces, LiveSeen, now}
use Rattle.sender.specs.Marks.{AreAmong, BehindGoesOn, IsBehind, MayCall, StaysBehind}
use Rattle.sender.specs.Parked.{IsLiveParked, KeepsWord, LiveParkedSeen, live_back, live_base, page_writes, parked_layout}
use Rattle.sender.specs.ParkedCalls.{LentCall, StepsBeside, a_step, bytes_in, events_in, missing_in, over_with, parked_base, sent_in}
use Rattle.sender.specs.Taking.{untaken}
use Rattle.sender.specs.declared.event.LiveEvent.TheVariants.{Guest}
use Rattle.sender.specs.declared.event.LiveReply.TheVariants as r
use Rattle.sender.specs.declared.phase.Phase.{Phase}
use Rattle.sender.specs.declared.phase.Phase.TheVariants as phases
use Rattle.sender.proofs.Behind.{back_is_behind, taken_stays_behind}
use Rattle.sender.proofs.LiveBack.{ready, ready_all, with_all}
use Rattle.sender.proofs.Living.{guest_free, length-with_items}
use Rattle.sender.proofs.Parking.{layout_is, length-with_pages}
use Rattle.sender.proofs.Taking.{places_untaken}
use Rattle.sender.proofs.Unsynced.{no_text}

-- An event of the guest may come whatever is missing.
pub may_guest : (pages : List ℕ) (e : Event) → MayCall pages (Guest e)
may_guest [] e = tt
may_guest (n ∷ pages) e = tt

-- One call while the RAM is lent: the history, the machine as it was lent, and all that its RAM holds by the history.
pub record GoesOnLent (m : MachineState) (h : History) (out : SinkState) (taken pages : List ℕ) (before : Region) (c : LentCall) (p mid : LiveParkedSeen) : Type 0 where
  pub history : History
  pub after : LiveSeen
  pub behind : IsBehind m history out (missing_in pages c) (untaken (taken ++ bytes_in c) after)
  pub came : guest_events history ≡ guest_events h ++ events_in c
  pub text_is : text m history ≡ text m h ++ sent_in c
  pub parked : IsLiveParked after (over_with before c) mid
  pub places : HasPlaces after
  pub memory : IsMemory after.machine.memory
  pub versions : length mid.machine.memory ≡ length p.machine.memory
  pub goes : after.phase ≢ phases.Stopped

pub base_is : (l : LiveSeen) (p : LiveParkedSeen) (region : Region) → IsLiveParked l region p → live_base l ≡ parked_base p
base_is l p region lent = ap (λ (ds : List DeviceSeen). base_of (map (λ (d : DeviceSeen). d.state) ds)) (sym lent.parked.devices_are)

-- The RAM is given back.
pub back : (m : MachineState) (h : History) (out : SinkState) (taken pages : List ℕ) (l : LiveSeen) (p : LiveParkedSeen) (before after : Region) (written named rest : List ℕ) → IsBehind m h out pages (untaken taken l) → HasPlaces l → IsMemory l.machine.memory → l.phase ≢ phases.Stopped
    → IsLiveParked l before p → KeepsWord before after (length p.machine.memory) written → AreAmong named written → AreAmong (pages ++ written) (named ++ rest)
    → BehindGoesOn m h out (page_writes (parked_base p) written after.content) rest (untaken taken (live_back p (given_back after.content (address after) p.machine.memory named) named))
back m h out taken pages l p before after written named rest b places mem goes lent word few all =
    let q : LiveParkedSeen = record p { out = record p.out { held = taken ++ p.out.held } } in
    let there : IsLiveParked (untaken taken l) before q = record { parked = lent.parked; rest = ap (λ (x : LiveParkedSeen). record x { out = record x.out { held = taken ++ x.out.held } }) lent.rest } in
    let gone = back_is_behind m h out pages (untaken taken l) q before after written named rest b (places_untaken taken l places) mem goes there word few all in
    subst (λ (base : ℕ). BehindGoesOn m h out (page_writes base written after.content) rest (untaken taken (live_back p (given_back after.content (address after) p.machine.memory named) named))) (base_is l p before lent) gone

same_now : (x y : Memory) (ds es : List DeviceSeen) → x.bytes ≡ y.bytes → ds ≡ es → state_of (record { memory = x; devices = ds }) ≡ state_of (record { memory = y; devices = es })
same_now x y ds es bytes devices =
    ap (λ (b : List ℕ). state_of (record { memory = record { bytes = b; versions = y.versions; place = y.place }; devices = ds })) bytes ∙ ap (λ (d : List DeviceSeen). state_of (record { memory = y; devices = d })) devices

module _ (m : MachineState) (h : History) (out : SinkState) (taken pages : List ℕ) (l : LiveSeen) (p mid : LiveParkedSeen) (before : Region) (b : IsBehind m h out pages (untaken taken l)) (places : HasPlaces l) (mem : IsMemory l.machine.memory) (goes : l.phase ≢ phases.Stopped) (lent : IsLiveParked l before p)
    (base : ℕ) (wrote seen : List ℕ) (dev pick : ℕ) (reply : Reply) (effect : Effect) (base_at : base ≡ parked_base p) (call : StepsBeside p seen dev pick reply effect mid) (word : KeepsWord before (with_content before seen) (length p.machine.memory) wrote) where
  -- The machine with RAM as the step saw it, and the versions that it had.
  abbrev ram : Memory
  ram = given_back seen (address before) p.machine.memory []

  abbrev put : LiveSeen
  put = live_back p ram []

  wrote_so : BehindGoesOn m h out (page_writes (parked_base p) wrote seen) (pages ++ wrote) (untaken taken put)
  wrote_so = back m h out taken pages l p before (with_content before seen) wrote [] (pages ++ wrote) b places mem goes lent word (λ n is. cc) (λ n is. is)

  abbrev filled : LiveSeen
  filled = with_all l seen wrote

  filled_places : HasPlaces filled
  filled_places = (ready_all l seen wrote (ready l p before (with_content before seen) wrote places mem goes lent word)).places

  bytes_are : seen ≡ (pages_written l.machine.memory wrote seen).bytes
  bytes_are = ap (λ (x : Memory). x.bytes) (memory_back l.machine p.machine before (with_content before seen) wrote mem lent.parked word.place word.size word.below word.others)

  state_is : now put ≡ now filled
  state_is = same_now ram (pages_written l.machine.memory wrote seen) p.machine.devices l.machine.devices bytes_are lent.parked.devices_are

  due_is : p.due ≡ l.due
  due_is = ap (λ (x : LiveParkedSeen). x.due) lent.rest

  dirty_is : p.dirty ≡ l.dirty
  dirty_is = ap (λ (x : LiveParkedSeen). x.dirty) lent.rest

  phase_is : p.phase ≡ l.phase
  phase_is = ap (λ (x : LiveParkedSeen). x.phase) lent.rest

  put_places : HasPlaces put
  put_places = record {
    sound = subst IsSound (sym state_is) filled_places.sound;
    few = subst (λ (d : List Bool). length d < 2 ^ 64) (sym due_is) filled_places.few;
    due_size = ap length due_is ∙ filled_places.due_size ∙ ap (λ (x : MachineState). size_of (layout_of x)) (sym state_is);
    dirty_size = ap length dirty_is ∙ sym (length-with_pages l.dirty wrote) ∙ filled_places.dirty_size ∙ ap (λ (x : MachineState). size_of (layout_of x)) (sym state_is);
  }

  whole : length seen ≡ 4096 * length p.machine.memory
  whole = omega (arith, word.size, ap length lent.parked.lent.bytes, mem.pages, ap length lent.parked.lent.versions_are)

  put_memory : IsMemory ram
  put_memory = record {
    pages = whole;
    some = omega (arith, mem.some, ap length lent.parked.lent.versions_are);
    few = omega (arith, mem.few, ap length lent.parked.lent.versions_are);
  }

  put_goes : put.phase ≢ phases.Stopped
  put_goes = subst (λ (f : Phase). f ≢ phases.Stopped) (sym phase_is) goes

  -- The step.
  made : IsStepOf put.machine dev pick reply effect mid.machine
  made = call.makes put.machine refl refl refl word.bytes

  abbrev stepped : LiveSeen
  stepped = record put { machine = made.after; dirty = mid.dirty }

  layout : layout_of (now put) ≡ parked_layout p.machine
  layout = layout_is put.machine p.machine whole refl

  does : AfterGuest put (Step dev pick) reply stepped
  does = record {
    is_applied = made.applied;
    dirty = call.dirty ∙ ap (λ (is : List Item). with_items (firsts_of (parked_layout p.machine)) p.dirty is) (sym made.items) ∙ ap (λ (y : Layout). with_items (firsts_of y) p.dirty (items_of made.applied.effect)) (sym layout);
    rest = refl;
  }

  serves : Serves put (Guest (Step dev pick)) (r.Guest reply) stepped
  serves = rw (guest_free put.phase (Step dev pick) put_goes) does

  goes_behind : StaysBehind m wrote_so.history out (Guest (Step dev pick)) (r.Guest reply) (pages ++ wrote) (untaken taken stepped)
  goes_behind = taken_stays_behind m wrote_so.history out taken (pages ++ wrote) (Guest (Step dev pick)) (r.Guest reply) put stepped wrote_so.behind put_places (may_guest (pages ++ wrote) (Step dev pick)) serves

  same : layout_of (now stepped) ≡ layout_of (now put)
  same = same_layout (now put) (now stepped) made.applied.shape

  pub goes_beside : GoesOnLent m h out taken pages before (a_step base wrote seen dev pick reply effect) p mid
  goes_beside =
      let next : History = then_came wrote_so.history (Guest (Step dev pick)) (r.Guest reply) goes_behind.effect in
      record {
        history = next;
        after = stepped;
        behind = subst (λ (t : List ℕ). IsBehind m next out (pages ++ wrote) (untaken t stepped)) (sym (append-nil taken)) goes_behind.behind;
        came = ap (λ (es : List Event). es ++ Step dev pick ∷ []) wrote_so.came ∙ append_assoc (guest_events h) (page_writes (parked_base p) wrote seen) (Step dev pick ∷ [])
            ∙ ap (λ (k : ℕ). guest_events h ++ (page_writes k wrote seen ++ Step dev pick ∷ [])) (sym base_at);
        text_is = no_text m wrote_so.history (Step dev pick) reply goes_behind.effect ∙ wrote_so.text_is ∙ sym (append-nil (text m h));
        parked = record {
          parked = record {
            lent = record { bytes = sym made.bytes; place = made.applied.later.place; versions_are = sym made.versions };
            devices_are = sym made.devices;
          };
          rest = call.rest;
        };
        places = record {
          sound = made.applied.sound;
          few = put_places.few;
          due_size = put_places.due_size ∙ ap size_of (sym same);
          dirty_size = ap length call.dirty ∙ length-with_items (firsts_of (parked_layout p.machine)) p.dirty (items_of effect) ∙ put_places.dirty_size ∙ ap size_of (sym same);
        };
        memory = still_memory ram made.after.memory put_memory made.applied.later;
        versions = ap length (sym made.versions) ∙ made.applied.later.versions;
        goes = put_goes;
      }
