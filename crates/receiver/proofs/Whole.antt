-- No fault stands in a stream.
use Rattle.machine.specs.Limits.{IsWithinLimits}
use Rattle.receiver.specs.declared.ram_terms.RamTerms.{RamTerms}
use Rattle.std.proofs.Common.{◌≡◌, ℕ, ◌+◌, ◌*◌, ◌≤◌, List, [], ◌∷◌, ◌++◌, length, drop, refl, sym, ap, ◌∙◌, append_assoc, append-nil, drop-drop, arith}
use Rattle.std.specs.Prelude.{is_some}
use Rattle.std.proofs.lemmas.List.Elements.{recursion_from_All}
use Rattle.std.specs.List.{AllByRecursion}
use Rattle.sha2.specs.Sha256.{sha256}
use Rattle.wire.specs.DeviceBody.{body, IsDeviceOf}
use Rattle.receiver.specs.Opened.{HasPages, Opened, opened_header, opened_layout, opened}
use Rattle.wire.specs.Records.{Record, page, sector, round_end, device, commit, zero_page}
use Rattle.wire.specs.Stream.{IsStream, IsEntry, AreNumbered, texts, rounds, shapes_in, device_texts, before_commit, opening_in}
use Rattle.machine.specs.Layout.{Layout, layout_of, pages_of}
use Rattle.machine.specs.Sound.{IsSoundDevice}
use Rattle.blk.specs.Sectors.{Sector}
use Rattle.machine.specs.State.{DeviceState, MachineState, base_of}
use Rattle.machine.proofs.Numbering.{sound_layout}
use Rattle.receiver.proofs.Takings.{rounds_page, rounds_round, rounds_sector, rounds_zeros}
use Rattle.wire.proofs.Unique.{body_spells, length_shapes, stream_begins}
use Rattle.wire.proofs.ItemRecords.{named-snoc}
use Rattle.receiver.specs.Good.{AreGood, AreNamed, devices_in}
use Rattle.machine.specs.Shapes.{disk_sizes, made_as}
use Rattle.receiver.specs.Faults.{IsComplete, IsFront}
use Rattle.receiver.specs.Fed.{device_records}
use Rattle.receiver.specs.Receiving.{NoFault, HasRounds}
use Rattle.receiver.proofs.Knowing.{texts-append, texts_devices, no_other, end_quiet, quiet_front, last_entries, rounds_none}
use Rattle.receiver.proofs.Steps.{count_all}
use Rattle.receiver.proofs.Working.{commit_text}

devices_in-append : (rs ss : List Record) → devices_in (rs ++ ss) ≡ devices_in rs + devices_in ss
unfolding devices_in
devices_in-append [] ss = let e : devices_in ss ≡ 0 + devices_in ss = omega arith in e
devices_in-append (device d b ∷ rs) ss = let ih = devices_in-append rs ss in omega (arith, ih)
devices_in-append (_ ∷ rs) ss = devices_in-append rs ss

none_in_page : (n : ℕ) (b : List ℕ) → devices_in (page n b ∷ []) ≡ 0
unfolding devices_in
none_in_page n b = refl

none_in_zeros : (n : ℕ) → devices_in (zero_page n ∷ []) ≡ 0
unfolding devices_in
none_in_zeros n = refl

none_in_sector : (d n : ℕ) (o : Sector) → devices_in (sector d n o ∷ []) ≡ 0
unfolding devices_in
none_in_sector d n o = refl

none_in_round : (n : ℕ) → devices_in (round_end n ∷ []) ≡ 0
unfolding devices_in
none_in_round n = refl

one_in_device : (d : ℕ) (b : List ℕ) → devices_in (device d b ∷ []) ≡ 1
unfolding devices_in
one_in_device d b = refl

entries_good : (opening : Opened) (acc es : List Record) → AllByRecursion (IsEntry opening.version (opened_layout opening)) es → AreNumbered (rounds acc + 1) es → devices_in acc ≡ 0 → AreGood opening acc es
unfolding AreGood
entries_good opening acc [] h k none = tt
entries_good opening acc (page n b ∷ es) h k none = (
  record { spells = h.0.spells; has = h.0.has; may = (h.0.stands, none) },
  entries_good opening (acc ++ page n b ∷ []) es h.1 (rw (rounds_page acc n b) k) (omega (arith, none, devices_in-append acc (page n b ∷ []), none_in_page n b)),
)
entries_good opening acc (sector d n o ∷ es) h k none = (
  record { spells = h.0.spells; has = h.0.has; may = (h.0.stands, none) },
  entries_good opening (acc ++ sector d n o ∷ []) es h.1 (rw (rounds_sector acc d n o) k) (omega (arith, none, devices_in-append acc (sector d n o ∷ []), none_in_sector d n o)),
)
entries_good opening acc (round_end n ∷ es) h k none = (
  record { spells = h.0.spells; has = h.0.has; may = (k.0, none) },
  entries_good opening (acc ++ round_end n ∷ []) es h.1 (rw (rounds_round acc n) k.1) (omega (arith, none, devices_in-append acc (round_end n ∷ []), none_in_round n)),
)
entries_good opening acc (device d b ∷ es) h k none = absurd h.0.stands
entries_good opening acc (commit b ∷ es) h k none = absurd h.0.stands
entries_good opening acc (zero_page n ∷ es) h k none = (
  record { spells = h.0.spells; has = h.0.has; may = (h.0.stands, none) },
  entries_good opening (acc ++ zero_page n ∷ []) es h.1 (rw (rounds_zeros acc n) k) (omega (arith, none, devices_in-append acc (zero_page n ∷ []), none_in_zeros n)),
)

devices_good : (opening : Opened) (k : ℕ) (acc : List Record) (ds : List DeviceState) → AreNamed (opened_layout opening) acc → devices_in acc ≡ k → k + length ds ≤ 256 → drop k opening.shapes ≡ shapes_in ds → AllByRecursion (IsSoundDevice opening.ram.base (4096 * opening.pages)) ds
    → AllByRecursion (IsDeviceOf opening.version) ds → AreGood opening acc (device_records k ds)
unfolding AreGood device_records
devices_good opening k acc [] named count low here h has = tt
devices_good opening k acc (d ∷ ds) named count low here h has =
    let after : drop (k + 1) opening.shapes ≡ shapes_in ds = sym (drop-drop 1 k opening.shapes) ∙ ap (drop 1) here in (
      record {
        spells = body_spells (4096 * opening.pages) k d (omega (arith, low)) h.0;
        has = tt;
        may = record { named = named; next = sym count; shape = made_as d.kind; others = shapes_in ds; here = here; state = d; is = record { shape_is = refl; sound = h.0; has = has.0; is = refl } };
      },
      devices_good opening (k + 1) (acc ++ device k (body d) ∷ []) ds
          (λ item within. ap is_some (named-snoc item acc (device k (body d))) ∙ named item within)
          (omega (arith, count, devices_in-append acc (device k (body d) ∷ []), one_in_device k (body d))) (omega (arith, low)) after h.1 has.1,
    )

good-append : (opening : Opened) (acc rs ss : List Record) → AreGood opening acc rs → AreGood opening (acc ++ rs) ss → AreGood opening acc (rs ++ ss)
unfolding AreGood
good-append opening acc [] ss h k = rw (append-nil acc) at k
good-append opening acc (r ∷ rs) ss h k =
    let same : acc ++ (r ∷ rs) ≡ (acc ++ r ∷ []) ++ rs = sym (append_assoc acc (r ∷ []) rs) in
    (h.0, good-append opening (acc ++ r ∷ []) rs ss h.1 (rw same at k))

none_yet : devices_in [] ≡ 0
unfolding devices_in
none_yet = refl

none_ended : rounds [] ≡ 0
unfolding rounds
none_ended = refl

count_none : (v : ℕ) (l : Layout) (es : List Record) → AllByRecursion (IsEntry v l) es → devices_in (es ++ []) ≡ 0
unfolding device_records
count_none v l es h = count_all v l 0 es [] h

-- What a stream opens with.
abbrev opens_with : {bytes : List ℕ} {m : MachineState} → RamTerms → IsStream bytes m → Opened
opens_with {m = m} ram s = opened ram (opening_in s.version (pages_of m) m.devices)

-- Where the good records of a stream end.
record StreamFront (ram : RamTerms) (sizes bytes : List ℕ) (m : MachineState) (s : IsStream bytes m) : Type 0 where
  digest : List ℕ
  front : IsFront ram sizes bytes (opens_with ram s) (s.entries ++ device_records 0 m.devices) (5 ∷ digest)
  complete : IsComplete (opens_with ram s) (s.entries ++ device_records 0 m.devices) 5
  digest_is : digest ≡ sha256 (opened_header (opens_with ram s) ++ texts (s.entries ++ device_records 0 m.devices))

stream_front : (ram : RamTerms) (sizes bytes : List ℕ) (m : MachineState) (s : IsStream bytes m) → base_of m.devices ≡ ram.base → HasPages ram (pages_of m) → IsWithinLimits ram.limits m → sizes ≡ disk_sizes (shapes_in m.devices) → StreamFront ram sizes bytes m s
stream_front ram sizes bytes m s based suits within fits =
    let opening = opens_with ram s in
    let devices = device_records 0 m.devices in
    let all = s.entries ++ devices in
    let before_all = before_commit s.version (pages_of m) s.entries m.devices in
    let digest = sha256 before_all in
    let text : texts all ≡ texts s.entries ++ device_texts 0 m.devices = texts-append s.entries devices ∙ ap (λ (x : List ℕ). texts s.entries ++ x) (texts_devices 0 m.devices) in
    let front : opened_header opening ++ texts all ≡ before_all = ap (λ (x : List ℕ). opened_header opening ++ x) text in
    let b = stream_begins s.by in
    let layout : layout_of m ≡ opened_layout opening = sound_layout m s.by.sound in
    let named : AreNamed (opened_layout opening) s.entries = λ item has. ap is_some (s.by.last item (rw layout has)) in
    let named_all : AreNamed (opened_layout opening) all = λ item has. ap is_some (last_entries item 0 s.entries m.devices) ∙ named item has in
    let sound : AllByRecursion (IsSoundDevice ram.base (4096 * (pages_of m))) m.devices = rw (s.by.sound.whole_pages, based) at (recursion_from_All (IsSoundDevice (base_of m.devices) (length m.ram)) m.devices s.by.sound.devices) in
    let has : AllByRecursion (IsDeviceOf s.version) m.devices = recursion_from_All (IsDeviceOf s.version) m.devices s.by.devices.each in
    let goods : AreGood opening [] s.entries = entries_good opening [] s.entries (rw layout at s.by.each) (rw none_ended s.by.numbered) none_yet in
    let few : 0 + length m.devices ≤ 256 = omega (arith, s.by.sound.few_devices) in
    let entries_count : devices_in s.entries ≡ 0 = ap devices_in (sym (append-nil s.entries)) ∙ count_none s.version (layout_of m) s.entries s.by.each in
    let good : AreGood opening [] all = good-append opening [] s.entries devices goods (devices_good opening 0 s.entries m.devices named entries_count few refl sound has) in
    let complete : IsComplete opening all 5 = record { items = named_all; devices = λ five. count_all s.version (layout_of m) 0 s.entries m.devices s.by.each ∙ sym (length_shapes m.devices) } in
    let whole : bytes ≡ opened_header opening ++ (texts all ++ (5 ∷ digest)) =
    s.by.whole ∙ ap (λ (x : List ℕ). before_all ++ x) (commit_text digest) ∙ ap (λ (x : List ℕ). x ++ (5 ∷ digest)) (sym front) ∙ append_assoc (opened_header opening) (texts all) (5 ∷ digest) in
    record {
      digest = digest;
      front = record { begins = record { good = b.good; whole = whole }; based = refl; fits = fits; suits = suits; within = within; good = good };
      complete = complete;
      digest_is = ap sha256 (sym front);
    }

pub stream_quiet : (ram : RamTerms) (sizes bytes : List ℕ) (m : MachineState) → IsStream bytes m → base_of m.devices ≡ ram.base → HasPages ram (pages_of m) → IsWithinLimits ram.limits m → sizes ≡ disk_sizes (shapes_in m.devices) → NoFault ram sizes bytes
stream_quiet ram sizes bytes m s based suits within fits =
    let opening = opens_with ram s in
    let all = s.entries ++ device_records 0 m.devices in
    let f = stream_front ram sizes bytes m s based suits within fits in
    quiet_front ram sizes bytes opening all (5 ∷ f.digest) f.front (λ r y g e. no_other opening all f.digest r y g e) (end_quiet opening all f.digest f.complete f.digest_is)

rounds_entries : (es : List Record) (ds : List DeviceState) → rounds (es ++ device_records 0 ds) ≡ rounds es
unfolding rounds
rounds_entries [] ds = rounds_none 0 ds
rounds_entries (round_end n ∷ es) ds = ap (λ (k : ℕ). k + 1) (rounds_entries es ds)
rounds_entries (_ ∷ es) ds = rounds_entries es ds

pub stream_rounds : (ram : RamTerms) (sizes bytes : List ℕ) (m : MachineState) (n : ℕ) (s : IsStream bytes m) → base_of m.devices ≡ ram.base → HasPages ram (pages_of m) → IsWithinLimits ram.limits m → sizes ≡ disk_sizes (shapes_in m.devices) → HasRounds ram sizes bytes n → rounds s.entries ≡ n
stream_rounds ram sizes bytes m n s based suits within fits h =
    let opening = opens_with ram s in
    let all = s.entries ++ device_records 0 m.devices in
    let f = stream_front ram sizes bytes m s based suits within fits in
    sym (h.some opening all (5 ∷ f.digest) f.front (λ r y g e. no_other opening all f.digest r y g e) ∙ rounds_entries s.entries m.devices)
