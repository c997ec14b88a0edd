-- A call that is served whatever the lent RAM holds is that call of the machine that was lent.
use Rattle.std.proofs.Common.{◌≡◌, ◌≢◌, ℕ, ◌^◌, ◌<◌, ◌++◌, List, [], length, refl, sym, ap, subst, ◌∙◌, append-nil}
use Rattle.region.specs.declared.region.Region.{Region}
use Rattle.blk.specs.Sectors.{Sector}
use Rattle.guestmem.specs.Lent.{IsLent}
use Rattle.guestmem.specs.Memory.{IsMemory}
use Rattle.machine.specs.Effect.{Effect}
use Rattle.machine.specs.Layout.{layout_of, size_of}
use Rattle.machine.specs.Parked.{WhateverRam, parked_sectors, parked_states}
use Rattle.machine.specs.Seen.{DeviceSeen}
use Rattle.machine.specs.Sound.{IsSound}
use Rattle.machine.specs.State.{DeviceState, MachineState}
use Rattle.wire.specs.Sinks.{SinkState}
use Rattle.sender.specs.Calls.{Serves}
use Rattle.sender.specs.History.{History, guest_events, is_stale, machine_after, text, then_came, written}
use Rattle.sender.specs.LiveState.{HasPlaces, LiveSeen, now}
use Rattle.sender.specs.Marks.{IsBehind, MayCall, still_behind}
use Rattle.sender.specs.Parked.{IsLiveParked, LiveParkedSeen, live_back}
use Rattle.sender.specs.ParkedCalls.{LentCall, bytes_in, events_in, missing_in, over_with, sent_in}
use Rattle.sender.specs.SectorsLent.{IsKeptLent}
use Rattle.sender.specs.Taking.{untaken}
use Rattle.sender.specs.declared.event.LiveEvent.{LiveEvent}
use Rattle.sender.specs.declared.event.LiveReply.{LiveReply}
use Rattle.sender.specs.declared.phase.Phase.{Phase}
use Rattle.sender.specs.declared.phase.Phase.TheVariants as phases
use Rattle.sender.proofs.Behind.{taken_stays_behind}
use Rattle.sender.proofs.StepBeside.{GoesOnLent}

same_state : (ram : List ℕ) (a b : List DeviceState) (x y : List (List Sector)) → a ≡ b → x ≡ y → ◌≡◌ {A = MachineState} (record { ram = ram; devices = a; disks = x }) (record { ram = ram; devices = b; disks = y })
same_state ram a b x y e f = rw (e, f) refl

module _ (m : MachineState) (h : History) (out : SinkState) (taken pages : List ℕ) (l : LiveSeen) (p mid : LiveParkedSeen) (before : Region) (b : IsBehind m h out pages (untaken taken l)) (places : HasPlaces l) (mem : IsMemory l.machine.memory) (goes : l.phase ≢ phases.Stopped) (lent : IsLiveParked l before p)
    (e : LiveEvent) (reply : LiveReply) (c : LentCall) (serves : WhateverRam p.machine (λ ram. Serves (live_back p ram []) e reply (live_back mid ram []))) (kept : IsKeptLent p mid) (may : MayCall pages e) (still : still_behind reply pages ≡ missing_in pages c) (none_taken : bytes_in c ≡ [])
    (same_ram : over_with before c ≡ before) (no_guest : (f : Effect) → guest_events (then_came h e reply f) ≡ guest_events h) (no_events : events_in c ≡ []) (says : written (text m h) (machine_after m h) (is_stale (layout_of m) h) e reply ≡ sent_in c) where
  was : live_back p l.machine.memory [] ≡ l
  was = ap (λ (x : LiveParkedSeen). live_back x l.machine.memory []) lent.rest ∙ ap (λ (ds : List DeviceSeen). record l { machine = record { memory = l.machine.memory; devices = ds } }) lent.parked.devices_are

  abbrev after : LiveSeen
  after = live_back mid l.machine.memory []

  it_serves : Serves l e reply after
  it_serves = subst (λ (x : LiveSeen). Serves x e reply after) was (serves l.machine.memory mem places.sound.bytes (ap length (sym lent.parked.lent.versions_are)))

  stays : now after ≡ now l
  stays = same_state l.machine.memory.bytes (parked_states mid.machine) (parked_states p.machine) (parked_sectors mid.machine) (parked_sectors p.machine) kept.states kept.sectors ∙ ap now was

  due_is : p.due ≡ l.due
  due_is = ap (λ (x : LiveParkedSeen). x.due) lent.rest

  dirty_is : p.dirty ≡ l.dirty
  dirty_is = ap (λ (x : LiveParkedSeen). x.dirty) lent.rest

  phase_is : p.phase ≡ l.phase
  phase_is = ap (λ (x : LiveParkedSeen). x.phase) lent.rest

  size_is : size_of (layout_of (now l)) ≡ size_of (layout_of (now after))
  size_is = ap (λ (x : MachineState). size_of (layout_of x)) (sym stays)

  pub served_lent : GoesOnLent m h out taken pages before c p mid
  served_lent =
      let gone = taken_stays_behind m h out taken pages e reply l after b places may it_serves in
      let next : History = then_came h e reply gone.effect in
      record {
        history = next;
        after = after;
        behind = subst (λ (t : List ℕ). IsBehind m next out (missing_in pages c) (untaken t after)) (sym (ap (λ (x : List ℕ). taken ++ x) none_taken ∙ append-nil taken))
            (subst (λ (x : List ℕ). IsBehind m next out x (untaken taken after)) still gone.behind);
        came = no_guest gone.effect ∙ sym (ap (λ es. guest_events h ++ es) no_events ∙ append-nil (guest_events h));
        text_is = ap (λ (x : List ℕ). text m h ++ x) says;
        parked = subst (λ (r : Region). IsLiveParked after r mid) (sym same_ram) (record {
          parked = record { lent = subst (λ (v : List ℕ). IsLent l.machine.memory before v) (sym kept.versions) lent.parked.lent; devices_are = refl };
          rest = refl;
        });
        places = record {
          sound = subst IsSound (sym stays) places.sound;
          few = subst (λ (k : ℕ). k < 2 ^ 64) (sym (kept.due_size ∙ ap length due_is)) places.few;
          due_size = kept.due_size ∙ ap length due_is ∙ places.due_size ∙ size_is;
          dirty_size = kept.dirty_size ∙ ap length dirty_is ∙ places.dirty_size ∙ size_is;
        };
        memory = mem;
        versions = ap length kept.versions;
        goes = kept.goes (subst (λ (f : Phase). f ≢ phases.Stopped) (sym phase_is) goes);
      }
