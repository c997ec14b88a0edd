-- A machine whose RAM is given back is the one into which the guest wrote those pages.
use Rattle.std.proofs.Common.{◌≡◌, ℕ, suc, ◌+◌, ◌*◌, ◌/◌, ◌≤◌, ◌<◌, ◌^◌, false, List, [], ◌∷◌, length, map, drop, get_or, refl, sym, ap, subst, ◌∙◌, arith}
use Rattle.std.specs.Prelude.{None, Some, All}
use Rattle.std.proofs.lemmas.Bool.Decides.{nat_tests}
use Rattle.region.specs.Address.{address}
use Rattle.region.specs.declared.region.Region.{Region}
use Rattle.guestmem.proofs.ByteLaws.{IsBytes-drop, IsBytes-take}
use Rattle.guestmem.specs.Item.{Item, after_all}
use Rattle.guestmem.specs.Later.{IsLater}
use Rattle.guestmem.specs.Lent.{AreBelow, given_back, is_named, pages_written}
use Rattle.guestmem.specs.Memory.{IsMemory, Memory}
use Rattle.guestmem.specs.Number.{IsBytes}
use Rattle.guestmem.specs.Page.{page_of}
use Rattle.guestmem.specs.Rises.{Touches}
use Rattle.guestmem.specs.Address.{access_refusal, index_of}
use Rattle.guestmem.specs.Write.{written}
use Rattle.guestmem.specs.Writes.{byte_writes, touched}
use Rattle.guestmem.proofs.WriteLaws.{put_at_set_all}
use Rattle.guestmem.proofs.GivenBack.{given_back_is_written, marked_is_written, whole_page}
use Rattle.guestmem.proofs.Later.{later_written}
use Rattle.guestmem.proofs.Rising.{rises_written}
use Rattle.machine.specs.Applied.{IsApplied, IsAppliedLogged}
use Rattle.machine.specs.Held.{IsHeld}
use Rattle.machine.specs.Parked.{AreWritten, BackIsWritten, IsParked, MarkIsWritten, ParkedSeen, UnnamedIsWritten, back_with, page_address}
use Rattle.machine.specs.Seen.{DeviceSeen, Seen, state_of}
use Rattle.machine.specs.Shapes.{made_as}
use Rattle.machine.specs.Sound.{IsBase, IsSound, IsSoundDevice}
use Rattle.machine.specs.State.{DeviceState, MachineState, base_of}
use Rattle.machine.specs.declared.event.Event.TheVariants.{MemWrite}
use Rattle.machine.specs.declared.reply.Reply.TheVariants.{Done}
use Rattle.machine.specs.declared.shape.Shape.{Shape}
use Rattle.machine.proofs.At.{applied_logged, stored_step}

abbrev pub with_memory : Seen → Memory → Seen
with_memory m x = record { memory = x; devices = m.devices }

abbrev shapes_of : Seen → List Shape
shapes_of m = map (λ (d : DeviceSeen). made_as d.state.kind) m.devices

not_refused : (base len at count : ℕ) → base + at < 2 ^ 64 → count ≡ 4096 → at + count ≤ len → access_refusal base len (base + at) count ≡ None
not_refused base len at count exists is inside = grind (arith, nat_tests)

-- The index of an address that lies so far behind the base.
back_index : (base at : ℕ) → index_of base (base + at) ≡ at
back_index base at = omega arith

-- RAM of a sound machine may begin at its base.
based_by : (base len : ℕ) (devices : List DeviceState) → All (IsSoundDevice base len) devices → 1 ≤ length devices → IsBase base len
based_by base len [] all some = absurd (omega (arith, some))
based_by base len (d ∷ devices) all some = (all 0 d (omega arith)).based

pub based_of : (m : MachineState) → IsSound m → IsBase (base_of m.devices) (length m.ram)
based_of m sound = based_by (base_of m.devices) (length m.ram) m.devices sound.devices sound.some_devices

-- The guest's write of one page, and a log that was told what it wrote into.
pub page_logged : {L : Type 0} (taking : L → Item → L) (m : Seen) (log new_log : L) (bytes : List ℕ) (n : ℕ) → IsSound (state_of m) → IsMemory m.memory → n < length m.memory.versions → length bytes ≡ length m.memory.bytes → IsBytes bytes
    → new_log ≡ after_all taking log (touched (byte_writes (4096 * n) (page_of bytes n))) → IsAppliedLogged taking m log (MemWrite (page_address m n) (page_of bytes n)) Done (with_memory m (written m.memory (4096 * n) (page_of bytes n))) new_log
page_logged taking m log new_log bytes n sound mem below long are told =
    let page = page_of bytes n in
    let addr = 4096 * n in
    let size : length page ≡ 4096 = whole_page bytes n (omega (arith, below, mem.pages, long)) in
    let inside : addr + length page ≤ length m.memory.bytes = omega (arith, size, below, mem.pages) in
    let base = base_of (state_of m).devices in
    let reach = (based_of (state_of m) sound).reach in
    let small : page_address m n < 2 ^ 64 = omega (arith, reach, size, inside) in
    let free : access_refusal base (length m.memory.bytes) (page_address m n) (length page) ≡ None = not_refused base (length m.memory.bytes) addr (length page) small size inside in
    let index : index_of base (page_address m n) ≡ addr = back_index base addr in
    let next : Seen = with_memory m (written m.memory addr page) in
    let rises = rises_written m.memory addr page mem.pages inside in
    let step = stored_step (Touches taking log new_log m.memory next.memory) m.memory next.memory m.devices (page_address m n) page free (rw index (put_at_set_all m.memory.bytes addr page inside)) (rw index (record { log_is = told; rises = rises })) in
    let held : IsHeld (shapes_of m) m = record { sound = sound; shapes_are = refl } in
    applied_logged taking (shapes_of m) m next log new_log (MemWrite (page_address m n) page) Done held (small, IsBytes-take 4096 (drop addr bytes) (IsBytes-drop addr bytes are)) step (later_written m.memory addr page mem.pages inside) refl tt tt

one : (m : Seen) (bytes : List ℕ) (n : ℕ) → IsSound (state_of m) → IsMemory m.memory → n < length m.memory.versions → length bytes ≡ length m.memory.bytes → IsBytes bytes
    → IsApplied m (MemWrite (page_address m n) (page_of bytes n)) Done (with_memory m (written m.memory (4096 * n) (page_of bytes n)))
one m bytes n sound mem below long are = (page_logged {L = Unit {0}} (λ _ _. tt) m tt tt bytes n sound mem below long are refl).is_applied

pub still_memory : (m next : Memory) → IsMemory m → IsLater m next → IsMemory next
still_memory m next mem later = record {
  pages = omega (arith, mem.pages, later.bytes, later.versions);
  some = omega (arith, mem.some, later.versions);
  few = omega (arith, mem.few, later.versions);
}

all_written : (m : Seen) (bytes pages : List ℕ) → IsSound (state_of m) → IsMemory m.memory → AreBelow (length m.memory.versions) pages → length bytes ≡ length m.memory.bytes → IsBytes bytes
    → AreWritten m pages bytes (with_memory m (pages_written m.memory pages bytes))
all_written m bytes [] sound mem below long are = refl
all_written m bytes (n ∷ pages) sound mem below long are =
    let mid : Seen = with_memory m (written m.memory (4096 * n) (page_of bytes n)) in
    let first : IsApplied m (MemWrite (page_address m n) (page_of bytes n)) Done mid = one m bytes n sound mem (below 0 0 (omega arith)) long are in
    (mid, first, all_written mid bytes pages first.sound (still_memory m.memory mid.memory mem first.later) (λ k d lt. rw first.later.versions (below (suc k) d (omega (arith, lt)))) (omega (arith, long, first.later.bytes)) are)

back_is : (m : Seen) (p : ParkedSeen) (x y : Memory) → x ≡ y → p.devices ≡ m.devices → with_memory m y ≡ back_with p x
back_is m p x y e f = rw (e, f) refl

-- The memory that is given back.
pub memory_back : (m : Seen) (p : ParkedSeen) (before after : Region) (pages : List ℕ) → IsMemory m.memory → IsParked m before p → address after ≡ address before → length after.content ≡ length before.content → AreBelow (length p.memory) pages
    → ((a : ℕ) → is_named pages (a / 4096) ≡ false → get_or after.content a 0 ≡ get_or before.content a 0) → given_back after.content (address after) p.memory pages ≡ pages_written m.memory pages after.content
memory_back m p before after pages mem parked place long below agrees =
    let lent = parked.lent in
    let there : m.memory.place ≡ Some (address after) = lent.place ∙ ap Some (sym place) in
    let size : length after.content ≡ length m.memory.bytes = long ∙ ap length lent.bytes in
    let under : AreBelow (length m.memory.versions) pages = subst (λ (v : List ℕ). AreBelow (length v) pages) lent.versions_are below in
    let same : given_back after.content (address after) m.memory.versions pages ≡ pages_written m.memory pages after.content =
    given_back_is_written m.memory after.content (address after) pages mem there size under (λ a among. agrees a among ∙ ap (λ (l : List ℕ). get_or l a 0) lent.bytes) in
    ap (λ (v : List ℕ). given_back after.content (address after) v pages) lent.versions_are ∙ same

pub back_is_written : BackIsWritten
back_is_written m p before after pages sound mem parked place long are below agrees =
    let lent = parked.lent in
    let size : length after.content ≡ length m.memory.bytes = long ∙ ap length lent.bytes in
    let under : AreBelow (length m.memory.versions) pages = subst (λ (v : List ℕ). AreBelow (length v) pages) lent.versions_are below in
    subst (λ (x : Seen). AreWritten m pages after.content x) (back_is m p (given_back after.content (address after) p.memory pages) (pages_written m.memory pages after.content) (memory_back m p before after pages mem parked place long below agrees) parked.devices_are)
    (all_written m after.content pages sound mem under size are)

pub mark_is_written : MarkIsWritten
mark_is_written m pages sound mem below =
    subst (λ (x : Memory). AreWritten m pages m.memory.bytes (with_memory m x)) (sym (marked_is_written m.memory pages mem below)) (all_written m m.memory.bytes pages sound mem below refl sound.bytes)

pub unnamed_is_written : UnnamedIsWritten
unnamed_is_written m p before after written named sound mem parked place long are below agrees = record {
  all = back_with p (given_back after.content (address after) p.memory written);
  are_written = back_is_written m p before after written sound mem parked place long are below agrees;
  rest = refl;
}
