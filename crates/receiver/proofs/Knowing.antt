-- What a receiver knows of its bytes.
use Rattle.std.proofs.Common.{◌≡◌, ℕ, ◌+◌, ◌*◌, ◌/◌, ◌≤◌, ◌⊎◌, inl, inr, Some, None, Option, Bool, true, false, List, [], ◌∷◌, ◌++◌, length, map, get_or, refl, sym, ap, subst, ◌∙◌, append_assoc, append-nil, arith}
use Rattle.std.specs.List.{AllByRecursion, list_any}
use Rattle.std.specs.Prelude.{All, ◌↔◌, is_some}
use Rattle.std.proofs.lemmas.List.{length-append}
use Rattle.std.proofs.lemmas.List.Elements.{All-from_recursion}
use Rattle.sha2.specs.Sha256.{sha256}
use Rattle.receiver.specs.Sums.{Summed}
use Rattle.sha2.proofs.Facts256.{length-sha256}
use Rattle.guestmem.specs.Number.{IsBytes}
use Rattle.wire.specs.DeviceBody.{body, IsDeviceOf}
use Rattle.receiver.specs.Opened.{Opened, opened_header, opened_layout, said_by}
use Rattle.wire.specs.Header as told
use Rattle.wire.specs.Records.{Record, sector, device, commit, spelled_record}
use Rattle.wire.specs.Stream.{IsStream, texts, rounds, shapes_in, device_texts, before_commit, last_named, record_in}
use Rattle.receiver.specs.Taken.{shown}
use Rattle.guestmem.specs.Item.{Item}
use Rattle.blk.specs.Disk.{AreSectors, DiskState}
use Rattle.blk.specs.Sectors.{AreWhole, Sector}
use Rattle.machine.specs.First.{dealt_sectors, marked_sectors, saved_machine}
use Rattle.machine.specs.Layout.{IsItemIn, layout_of, number_of, pages_of}
use Rattle.machine.specs.Shapes.{disk_sizes}
use Rattle.machine.specs.Sound.{IsSound, IsSoundDevice}
use Rattle.machine.specs.State.{DeviceState, MachineState, base_of}
use Rattle.machine.specs.declared.shape.Shape.{Shape}
use Rattle.machine.proofs.Fresh.{dealt_sizes, dealt_whole}
use Rattle.machine.proofs.Numbering.{sound_layout}
use Rattle.receiver.proofs.Lists.{take_all}
use Rattle.wire.proofs.Spelling.{tail_same, split_same}
use Rattle.receiver.specs.Disks.{AreHonestDisks, all_marks_in, sizes_in}
use Rattle.receiver.proofs.Sectors.{dealt_bad, marked_bad, marked_sizes, marked_whole, marks_count, written_sizes}
use Rattle.receiver.specs.Good.{IsNextRecord, devices_in}
use Rattle.receiver.specs.Faults.{IsComplete, IsBadDigest, IsTrailing, IsFault, IsFront, WaitsHead}
use Rattle.receiver.specs.Fed.{HasRead, IsEnded, IsKnownIn, IsReadWhole, IsReading, device_records}
use Rattle.receiver.specs.Receiving.{IsArrived, IsKnown, IsTaken, IsWholeFor, NoFault}
use Rattle.receiver.specs.declared.intake.Intake.{Intake}
use Rattle.receiver.specs.declared.stage.Stage.{Stage}
use Rattle.receiver.specs.declared.stage.Stage.TheVariants as stages
use Rattle.machine.specs.Limits.{IsShapeWithin, IsWithinLimits}
use Rattle.machine.specs.declared.limits.Limits.{Limits}
use Rattle.receiver.specs.declared.ram_terms.RamTerms.{RamTerms}
use Rattle.receiver.specs.declared.recv_error.RecvError.{RecvError}
use Rattle.receiver.proofs.Aligned.{no_record_fault, not_early}
use Rattle.wire.proofs.HeaderParts.{head_short}
use Rattle.receiver.proofs.Heads.{no_header_fault, waits_head}
use Rattle.receiver.proofs.Quiet.{no_page, quiet}
use Rattle.receiver.proofs.Steps.{devices_are}
use Rattle.receiver.proofs.Working.{commit_text, front_at, front_of}

pub nothing_known : (limits : Limits) → WaitsHead limits []
nothing_known limits = waits_head limits [] (head_short limits [] (omega arith) (λ at h. omega (arith, h.long)) (λ at h. omega (arith, h.long)))

-- The digest is no other record, and has no fault.

pub no_other : (opening : Opened) (before : List Record) (digest : List ℕ) (r : Record) (y : List ℕ) → IsNextRecord opening before r → ¬ (5 ∷ digest ≡ spelled_record r ++ y)
unfolding spelled_record
no_other opening before digest (sector d n (Some b)) y f e = cc
no_other opening before digest (commit b) y f e = f.may
no_other opening before digest _ y f e = cc

digest_quiet : (opening : Opened) (before : List Record) (digest : List ℕ) → digest ≡ sha256 (opened_header opening ++ texts before) → (place : ℕ)
    → ¬ (IsBadDigest opening before (5 ∷ digest) place ⊎ IsTrailing opening before (5 ∷ digest) place)
digest_quiet opening before digest is place (inl h) =
    let size : length digest ≡ 32 = ap length is ∙ length-sha256 (opened_header opening ++ texts before) in
    let t : digest ++ [] ≡ h.digest ++ h.more = append-nil digest ∙ tail_same h.opens.whole in
    h.never (sym (split_same digest h.digest [] h.more (size ∙ sym h.long) t).0 ∙ is)
digest_quiet opening before digest is place (inr h) =
    let size : length digest ≡ 32 = ap length is ∙ length-sha256 (opened_header opening ++ texts before) in
    omega (arith, size, ap length (tail_same h.opens.whole), length-append (sha256 (opened_header opening ++ texts before)) (h.byte ∷ h.more), length-sha256 (opened_header opening ++ texts before))

pub end_quiet : (opening : Opened) (before : List Record) (digest : List ℕ) → IsComplete opening before 5 → digest ≡ sha256 (opened_header opening ++ texts before) → (k : RecvError) (place : ℕ) → ¬ (IsFault opening before (5 ∷ digest) k place)
end_quiet opening before digest complete is =
    quiet opening before (5 ∷ digest) 5 digest (record {
      whole = refl;
      may = record { least = omega arith; most = omega arith; early = λ low. absurd (not_early 5 (omega arith) (omega arith) low); missing = λ four. absurd (omega (arith, four)); since = λ six. absurd (omega (arith, six)) };
      complete = λ late. complete;
    })
    (λ z. absurd (no_page 5 (omega arith) (omega arith) z)) (λ z. absurd (omega (arith, z))) (λ z. absurd (omega (arith, z))) (λ z. absurd (omega (arith, z)))
    (λ five. digest_quiet opening before digest is)

pub quiet_front : (ram : RamTerms) (sizes bytes : List ℕ) (opening : Opened) (before : List Record) (tail : List ℕ) → IsFront ram sizes bytes opening before tail
    → ((r : Record) (y : List ℕ) → IsNextRecord opening before r → ¬ (tail ≡ spelled_record r ++ y)) → ((k : RecvError) (place : ℕ) → ¬ (IsFault opening before tail k place))
    → NoFault ram sizes bytes
quiet_front ram sizes bytes opening before tail front none quiets k at (inl h) = no_header_fault ram sizes bytes (said_by opening) (texts before ++ tail) front.begins front.within front.fits front.suits k at h
quiet_front ram sizes bytes opening before tail front none quiets k at (inr h) = no_record_fault ram sizes bytes opening before tail front none quiets k at h

no_fault_head : (ram : RamTerms) (sizes held : List ℕ) → WaitsHead ram.limits held → NoFault ram sizes held
no_fault_head ram sizes held w k at (inl h) = w.no_fault ram sizes k at refl h
no_fault_head ram sizes held w k at (inr h) = w.no_header (said_by h.opening) (texts h.before ++ h.tail) h.front.begins

no_fault_reading : (ram : RamTerms) (ds : List DiskState) (front held : List ℕ) (i : Intake) → IsReading ram ds front held i → NoFault ram (sizes_in ds) (front ++ held)
no_fault_reading ram ds front held i r =
    let o = r.open_at in
    quiet_front ram (sizes_in ds) (front ++ held) r.opening o.before held (front_at r.based (front_of (front ++ held) held o.read refl)) (λ s y f e. o.waits.no_record s y f.spells f.has e) o.waits.no_fault

no_fault_come : (ram : RamTerms) (ds : List DiskState) (bytes : List ℕ) (i : Intake) → IsReadWhole ram ds bytes i → NoFault ram (sizes_in ds) bytes
no_fault_come ram ds bytes i h =
    let w = h.ended in
    let whole : bytes ≡ w.front ++ (5 ∷ sha256 w.front) = w.whole ∙ ap (λ (x : List ℕ). w.front ++ x) (commit_text (sha256 w.front)) in
    quiet_front ram (sizes_in ds) bytes h.opening w.before (5 ∷ sha256 w.front) (front_at h.based (front_of bytes (5 ∷ sha256 w.front) w.read whole))
    (λ s y f e. no_other h.opening w.before (sha256 w.front) s y f e) (end_quiet h.opening w.before (sha256 w.front) w.complete (ap sha256 w.read.whole))

pub none_held : (front held : List ℕ) → held ≡ [] → front ++ held ≡ front
none_held front held none = ap (λ (x : List ℕ). front ++ x) none ∙ append-nil front

no_fault_in : (ended : Bool) (ram : RamTerms) (ds : List DiskState) (digest : Summed) (front held : List ℕ) (i : Intake) → IsKnownIn ended ram ds digest front held i → NoFault ram (sizes_in ds) (front ++ held)
no_fault_in false ram ds digest front held i k = no_fault_reading ram ds front held i k.1
no_fault_in true ram ds digest front held i k = rw (none_held front held k.0) (no_fault_come ram ds front i k.1)

-- No fault stands in what was fed while no refusal came.
no_fault_in_stage : (ram : RamTerms) (ds : List DiskState) (digest : Summed) (front held : List ℕ) (stage : Stage) → IsKnown ram ds digest front held stage → NoFault ram (sizes_in ds) (front ++ held)
no_fault_in_stage ram ds digest front held stages.Head k = rw (k.0) (no_fault_head ram (sizes_in ds) held k.2)
no_fault_in_stage ram ds digest front held (stages.Records i) k = no_fault_in i.ended ram ds digest front held i k
no_fault_in_stage ram ds digest front held stages.Failed k = absurd k

pub no_fault_known : (ram : RamTerms) (ds : List DiskState) (digest : Summed) (bytes held : List ℕ) (stage : Stage) → IsTaken ram ds digest bytes held stage → NoFault ram (sizes_in ds) bytes
no_fault_known ram ds digest bytes held stage t = rw (t.whole) (no_fault_in_stage ram ds digest t.front held stage t.known)

-- All bytes of a stream that has ended.
pub come_of : (ram : RamTerms) (ds : List DiskState) (digest : Summed) (bytes held : List ℕ) (i : Intake) → i.ended ≡ true → IsTaken ram ds digest bytes held (stages.Records i) → IsReadWhole ram ds bytes i
come_of ram ds digest bytes held i done t =
    let known : IsKnownIn true ram ds digest t.front held i = subst (λ (b : Bool). IsKnownIn b ram ds digest t.front held i) done t.known in
    rw (t.whole ∙ none_held t.front held known.0) known.1

-- A whole stream.

pub texts-append : (rs ss : List Record) → texts (rs ++ ss) ≡ texts rs ++ texts ss
unfolding texts
texts-append [] ss = refl
texts-append (r ∷ rs) ss = ap (λ (x : List ℕ). spelled_record r ++ x) (texts-append rs ss) ∙ sym (append_assoc (spelled_record r) (texts rs) (texts ss))

pub texts_devices : (k : ℕ) (ds : List DeviceState) → texts (device_records k ds) ≡ device_texts k ds
unfolding texts device_records device_texts
texts_devices k [] = refl
texts_devices k (d ∷ ds) = ap (λ (x : List ℕ). spelled_record (device k (body d)) ++ x) (texts_devices (k + 1) ds)

last_none : (item : Item) (k : ℕ) (ds : List DeviceState) → last_named item (device_records k ds) ≡ None
unfolding last_named device_records
last_none item k [] = refl
last_none item k (d ∷ ds) = rw (last_none item (k + 1) ds) refl

pub last_entries : (item : Item) (k : ℕ) (es : List Record) (ds : List DeviceState) → last_named item (es ++ device_records k ds) ≡ last_named item es
unfolding last_named
last_entries item k [] ds = last_none item k ds
last_entries item k (r ∷ es) ds = rw (last_entries item k es ds) refl

pub rounds_none : (k : ℕ) (ds : List DeviceState) → rounds (device_records k ds) ≡ 0
unfolding rounds device_records
rounds_none k [] = refl
rounds_none k (d ∷ ds) = rounds_none (k + 1) ds

-- The machine that was read, whose disks hold these sectors.
abbrev pub read_machine : Intake → List (List Sector) → MachineState
read_machine i sectors = saved_machine i.ram.bytes i.devices.items sectors

some_shown : (b : Bool) (x : Record) (o : Option Record) → o ≡ shown b x → is_some o ≡ true → o ≡ Some x
some_shown true x o e s = e
some_shown false x o e s = let no : false ≡ true = ap is_some (sym e) ∙ s in absurd cc

pub whole_shapes : {ds : List DiskState} {front : List ℕ} {opening : Opened} {before : List Record} {i : Intake} → HasRead ds opening before i front → devices_in before ≡ length opening.shapes → shapes_in i.devices.items ≡ opening.shapes
whole_shapes {opening = opening} {i = i} h all = h.devices_are ∙ take_all (length i.devices.items) opening.shapes (omega (arith, all, devices_are h))

base_found : (base len : ℕ) (ds : List DeviceState) → AllByRecursion (IsSoundDevice base len) ds → 1 ≤ length ds → base_of ds ≡ base
base_found base len [] h some = absurd (omega (arith, some))
base_found base len (d ∷ ds) h some = h.0.ram_base

-- The machine that was read has the ram that was named.
pub read_based : {ds : List DiskState} {front : List ℕ} {opening : Opened} {before : List Record} {i : Intake} → HasRead ds opening before i front → devices_in before ≡ length opening.shapes → base_of i.devices.items ≡ opening.ram.base
read_based {opening = opening} {i = i} h all =
    let count : length i.devices.items ≡ length opening.shapes = omega (arith, all, devices_are h) in
    base_found opening.ram.base (4096 * opening.pages) i.devices.items h.sound (omega (arith, h.head.some_device, count))

read_sound : {ds : List DiskState} {front : List ℕ} {opening : Opened} {before : List Record} {i : Intake} (sectors : List (List Sector)) → HasRead ds opening before i front → devices_in before ≡ length opening.shapes → IsBytes i.ram.bytes
    → map length sectors ≡ sizes_in ds → All AreWhole sectors → IsSound (read_machine i sectors)
read_sound {ds = ds} {opening = opening} {i = i} sectors h all are counts whole =
    let count : length i.devices.items ≡ length opening.shapes = omega (arith, all, devices_are h) in
    let size : length i.ram.bytes / 4096 ≡ opening.pages = omega (arith, h.taken.ram_size) in
    let sizes : disk_sizes (shapes_in i.devices.items) ≡ map length sectors = ap disk_sizes (whole_shapes h all) ∙ sym h.fits ∙ sym counts in
    record {
      whole_pages = omega (arith, h.taken.ram_size);
      some_pages = omega (arith, size, h.head.some_page);
      few_pages = omega (arith, size, h.head.few_pages);
      some_devices = omega (arith, h.head.some_device, count);
      few_devices = omega (arith, h.head.few_devices, count);
      devices = All-from_recursion (IsSoundDevice (base_of i.devices.items) (length i.ram.bytes)) i.devices.items (rw (read_based h all, h.taken.ram_size) h.sound);
      bytes = are;
      disks = dealt_sizes i.devices.items sectors sizes;
      sectors = dealt_whole (shapes_in i.devices.items) sectors whole;
    }

-- The machine that arrives is sound, and so is the one that was sent: the sectors of its disks are as they were written.
pub here_sound : {ds : List DiskState} {front : List ℕ} {opening : Opened} {before : List Record} {i : Intake} → HasRead ds opening before i front → devices_in before ≡ length opening.shapes → IsBytes i.ram.bytes
    → All (λ (d : DiskState). AreSectors d.sectors) ds → IsSound (read_machine i (marked_sectors ds i.bad.items))
here_sound {ds = ds} {i = i} h all are sectors = read_sound (marked_sectors ds i.bad.items) h all are (marked_sizes ds i.bad.items (marks_count ds i.bad.items h.written.marks)) (marked_whole ds i.bad.items sectors)

sent_sound : {ds : List DiskState} {front : List ℕ} {opening : Opened} {before : List Record} {i : Intake} (h : HasRead ds opening before i front) → devices_in before ≡ length opening.shapes → IsBytes i.ram.bytes → IsSound (read_machine i h.sectors)
sent_sound {ds = ds} {i = i} h all are = read_sound h.sectors h all are (written_sizes ds i.bad.items h.sectors h.written) h.written.whole

-- The machine that was read is within the limits.
pub read_within : {ds : List DiskState} {front : List ℕ} {opening : Opened} {before : List Record} {i : Intake} (sectors : List (List Sector)) → HasRead ds opening before i front → devices_in before ≡ length opening.shapes → IsWithinLimits opening.ram.limits (read_machine i sectors)
read_within {opening = opening} {i = i} sectors h all =
    let size : length i.ram.bytes / 4096 ≡ opening.pages = omega (arith, h.taken.ram_size) in
    record {
      few_pages = subst (λ (n : ℕ). n ≤ opening.ram.limits.pages) (sym size) h.within.few_pages;
      few_sectors = subst (λ (shapes : List Shape). All (IsShapeWithin opening.ram.limits) shapes) (sym (whole_shapes h all)) h.within.few_sectors;
    }

-- Its layout is that of the header.
pub read_layout : {ds : List DiskState} {front : List ℕ} {opening : Opened} {before : List Record} {i : Intake} (h : HasRead ds opening before i front) → devices_in before ≡ length opening.shapes → IsSound (read_machine i h.sectors)
    → layout_of (read_machine i h.sectors) ≡ opened_layout opening
read_layout {opening = opening} {i = i} h all sound =
    let size : length i.ram.bytes / 4096 ≡ opening.pages = omega (arith, h.taken.ram_size) in
    sound_layout (read_machine i h.sectors) sound ∙ rw (size, whole_shapes h all) refl

sent_stream : (ds : List DiskState) (held : List ℕ) (opening : Opened) (i : Intake) (w : IsEnded ds opening i held) → IsBytes i.ram.bytes → IsStream held (read_machine i w.read.sectors)
sent_stream ds held opening i w are =
    let h = w.read in
    let all = w.complete.devices refl in
    let same : texts w.before ≡ texts h.entries ++ device_texts 0 i.devices.items =
    ap texts h.split ∙ texts-append h.entries (device_records 0 i.devices.items) ∙ ap (λ (x : List ℕ). texts h.entries ++ x) (texts_devices 0 i.devices.items) in
    let front : w.front ≡ before_commit opening.version opening.pages h.entries i.devices.items =
    h.whole ∙ ap (λ (x : List ℕ). opened_header opening ++ x) same ∙ ap (λ (x : List Shape). told.header (record { version = opening.version; pages = opening.pages; shapes = x }) ++ (texts h.entries ++ device_texts 0 i.devices.items)) (sym (whole_shapes h all)) in
    let m : MachineState = read_machine i h.sectors in
    let sound = sent_sound h all are in
    let layout : layout_of m ≡ opened_layout opening = read_layout h all sound in
    let size : pages_of m ≡ opening.pages = omega (arith, h.taken.ram_size) in
    let disks : m.disks ≡ dealt_sectors opening.shapes h.sectors = ap (λ (x : List Shape). dealt_sectors x h.sectors) (whole_shapes h all) in
    record {
      version = opening.version;
      entries = h.entries;
      by = record {
        known = h.head.known;
        each = rw layout h.each;
        numbered = h.numbered;
        last = λ item has.
            let here : IsItemIn (opened_layout opening) item = rw layout at has in
            sym (ap (last_named item) h.split ∙ last_entries item 0 h.entries i.devices.items)
            ∙ rw disks (some_shown (get_or i.named (number_of (opened_layout opening) item) false) (record_in opening.version i.ram.bytes (dealt_sectors opening.shapes h.sectors) item) (last_named item w.before) (h.taken.last item here) (w.complete.items item here));
        sound = sound;
        devices = record {
          each = All-from_recursion (IsDeviceOf opening.version) i.devices.items h.has;
          late = subst (λ (ss : List Shape). (opening.version ≡ 3) ↔ (list_any told.is_late ss ≡ true)) (sym (whole_shapes h all)) h.head.has;
        };
        whole = rw size (w.whole ∙ ap (λ (x : List ℕ). x ++ spelled_record (commit (sha256 x))) front);
      };
    }

-- What arrives, over any disks, and over honest ones.
pub any_arrived : (ds : List DiskState) (held : List ℕ) (opening : Opened) (i : Intake) → IsEnded ds opening i held → IsBytes i.ram.bytes → IsArrived held (read_machine i (marked_sectors ds i.bad.items))
any_arrived ds held opening i w are =
    let h = w.read in
    record {
      sent = read_machine i h.sectors;
      stream = sent_stream ds held opening i w are;
      ram = refl;
      devices = refl;
      bad = dealt_bad (shapes_in i.devices.items) (marked_sectors ds i.bad.items) h.sectors (marked_bad ds i.bad.items h.written.marks ∙ sym h.written.bad_are);
    }

pub whole_stream : (ds : List DiskState) (held : List ℕ) (opening : Opened) (i : Intake) → IsEnded ds opening i held → IsBytes i.ram.bytes → AreHonestDisks (all_marks_in ds) → IsStream held (read_machine i (marked_sectors ds i.bad.items))
whole_stream ds held opening i w are honest = rw (w.read.written.held honest) (sent_stream ds held opening i w are)

pub whole_for : (ds : List DiskState) (held : List ℕ) (opening : Opened) (i : Intake) → IsEnded ds opening i held → IsWholeFor opening.ram (sizes_in ds) held
whole_for ds held opening i w = record {
  opening = opening;
  before = w.before;
  front = front_of held (spelled_record (commit (sha256 (opened_header opening ++ texts w.before)))) w.read (w.whole ∙ ap (λ (x : List ℕ). w.front ++ spelled_record (commit (sha256 x))) w.read.whole);
  complete = w.complete;
}

pub whole_come : (ram : RamTerms) (ds : List DiskState) (held : List ℕ) (i : Intake) → IsReadWhole ram ds held i → IsWholeFor ram (sizes_in ds) held
whole_come ram ds held i h = subst (λ (r : RamTerms). IsWholeFor r (sizes_in ds) held) h.based (whole_for ds held h.opening i h.ended)
