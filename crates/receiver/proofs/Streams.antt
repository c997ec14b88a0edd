-- A stream that is not whole.
use Rattle.machine.specs.declared.limits.Limits.{Limits}
use Rattle.receiver.specs.declared.ram_terms.RamTerms.{RamTerms}
use Rattle.std.proofs.Common.{◌≡◌, ℕ, suc, ◌+◌, ◌≤◌, ◌⊎◌, inl, inr, List, [], ◌∷◌, ◌++◌, length, refl, sym, ap, subst, ◌∙◌, append_assoc, append-nil, arith}
use Rattle.std.proofs.lemmas.List.{drop_at}
use Rattle.std.proofs.lemmas.List.Elements.{recursion_from_All}
use Rattle.std.specs.List.{AllByRecursion}
use Rattle.sha2.specs.Sha256.{sha256}
use Rattle.sha2.proofs.Facts256.{length-sha256}
use Rattle.blk.specs.Disk.{DiskState}
use Rattle.guestmem.specs.Number.{IsBytes}
use Rattle.wire.specs.Records.{Record, commit, spelled_record, HasSpelling, IsOf, BeginsNoRecord}
use Rattle.wire.specs.Stream.{IsStream, IsEntry, texts, device_texts, before_commit, opening_in}
use Rattle.machine.specs.Layout.{Layout, layout_of, pages_of}
use Rattle.machine.specs.Sound.{IsSoundDevice}
use Rattle.machine.specs.State.{DeviceState, MachineState, base_of}
use Rattle.guestmem.proofs.ByteLaws.{IsBytes-drop}
use Rattle.wire.proofs.HeaderParts.{begins_once}
use Rattle.wire.proofs.Unique.{body_spells, stream_begins}
use Rattle.receiver.specs.Good.{AreGood}
use Rattle.receiver.specs.Fed.{IsReading, device_records}
use Rattle.receiver.specs.Faults.{WaitsHead}
use Rattle.receiver.specs.declared.intake.Intake.{Intake}
use Rattle.receiver.proofs.Aligned.{records_led, LongerRecords, good_spell, next_good}
use Rattle.receiver.proofs.Knowing.{texts-append, texts_devices, no_other}
use Rattle.receiver.proofs.Working.{front_of, commit_text}
use Rattle.receiver.specs.Opened.{Opened, said_by}
use Rattle.wire.specs.Header.{Opening}

-- A record that has an encoding in this version.
abbrev IsText : ℕ → Record → Type 0
IsText v r = HasSpelling r × IsOf v r

entries_spell : (v : ℕ) (l : Layout) (es : List Record) → AllByRecursion (IsEntry v l) es → AllByRecursion (IsText v) es
entries_spell v l [] h = tt
entries_spell v l (r ∷ es) h = ((h.0.spells, h.0.has), entries_spell v l es h.1)

devices_spell : (v base ram_len k : ℕ) (ds : List DeviceState) → k + length ds ≤ 256 → AllByRecursion (IsSoundDevice base ram_len) ds → AllByRecursion (IsText v) (device_records k ds)
unfolding device_records
devices_spell v base ram_len k [] low h = tt
devices_spell v base ram_len k (d ∷ ds) low h = ((body_spells ram_len k d (omega (arith, low)) h.0, tt), devices_spell v base ram_len (k + 1) ds (omega (arith, low)) h.1)

both_spell : (v : ℕ) (rs ss : List Record) → AllByRecursion (IsText v) rs → AllByRecursion (IsText v) ss → AllByRecursion (IsText v) (rs ++ ss)
both_spell v [] ss h k = k
both_spell v (r ∷ rs) ss h k = (h.0, both_spell v rs ss h.1 k)

spells_alone : (v : ℕ) (rs : List Record) → AllByRecursion (IsText v) rs → AllByRecursion HasSpelling rs
spells_alone v [] h = tt
spells_alone v (r ∷ rs) h = (h.0.0, spells_alone v rs h.1)

pub digest_bytes : (front digest bytes : List ℕ) → IsBytes bytes → bytes ≡ front ++ (5 ∷ digest) → IsBytes digest
digest_bytes front digest bytes are e i =
    let tail : IsBytes (5 ∷ digest) = rw (drop_at front (5 ∷ digest) (length front) refl) at (IsBytes-drop (length front) (front ++ (5 ∷ digest)) (subst IsBytes e are)) in
    tail (suc i)

not_led_on : (v : ℕ) (more : List Record) (tail end : List ℕ) → BeginsNoRecord v tail → AllByRecursion (IsText v) more → ((x : List ℕ) → ¬ (tail ≡ end ++ x)) → tail ≡ texts more ++ end → ⊥
unfolding texts
not_led_on v [] tail end none spell other e = other [] (e ∙ sym (append-nil end))
not_led_on v (r ∷ more) tail end none spell other e = none r (texts more ++ end) spell.0.0 spell.0.1 (e ∙ append_assoc (spelled_record r) (texts more) end)

spell_behind : (v : ℕ) (rs more : List Record) → AllByRecursion (IsText v) (rs ++ more) → AllByRecursion (IsText v) more
spell_behind v [] more h = h
spell_behind v (r ∷ rs) more h = spell_behind v rs more h.1

not_led_off : (opening : Opened) (before others more : List Record) (tail digest : List ℕ) → AreGood opening [] before → before ≡ others ++ more → ((x : List ℕ) → ¬ (tail ≡ (5 ∷ digest) ++ x)) → 5 ∷ digest ≡ texts more ++ tail → ⊥
unfolding texts
not_led_off opening before others [] tail digest good all other e = other [] (sym e ∙ sym (append-nil (5 ∷ digest)))
not_led_off opening before others (r ∷ more) tail digest good all other e =
    no_other opening others digest r (texts more ++ tail) (next_good opening [] others more r (rw all at good)) (e ∙ append_assoc (spelled_record r) (texts more) tail)

not_led : (opening : Opened) (before others : List Record) (tail digest : List ℕ) → AreGood opening [] before → AllByRecursion (IsText opening.version) others → BeginsNoRecord opening.version tail → ((x : List ℕ) → ¬ (tail ≡ (5 ∷ digest) ++ x))
    → LongerRecords before others tail (5 ∷ digest) ⊎ LongerRecords others before (5 ∷ digest) tail → ⊥
not_led opening before others tail digest good spell none other (inl l) = not_led_on opening.version l.more tail (5 ∷ digest) none (spell_behind opening.version before l.more (rw l.all at spell)) other l.left
not_led opening before others tail digest good spell none other (inr l) = not_led_off opening before others l.more tail digest good l.all other l.left

pub no_stream_head : {limits : Limits} (held : List ℕ) (m : MachineState) → WaitsHead limits held → ¬ (IsStream held m)
no_stream_head held m w s = w.no_header (opening_in s.version (pages_of m) m.devices) _ (stream_begins s.by)

pub no_stream_reading : (ram : RamTerms) (ds : List DiskState) (read tail held : List ℕ) (i : Intake) (m : MachineState) → IsBytes held → held ≡ read ++ tail → IsReading ram ds read tail i → ¬ (IsStream held m)
no_stream_reading ram ds read tail held i m are parts r s =
    let o = r.open_at in
    let front = front_of held tail o.read parts in
    let opening = opening_in s.version (pages_of m) m.devices in
    let before_all = before_commit s.version (pages_of m) s.entries m.devices in
    let digest = sha256 before_all in
    let others = s.entries ++ device_records 0 m.devices in
    let t = begins_once {o = said_by r.opening} {p = opening} front.begins (stream_begins s.by) in
    let text : texts others ≡ texts s.entries ++ device_texts 0 m.devices = texts-append s.entries (device_records 0 m.devices) ∙ ap (λ (x : List ℕ). texts s.entries ++ x) (texts_devices 0 m.devices) in
    let same : texts o.before ++ tail ≡ texts others ++ (5 ∷ digest) =
    t.1 ∙ sym (append_assoc (texts s.entries) (device_texts 0 m.devices) (spelled_record (commit digest))) ∙ ap (λ (x : List ℕ). (texts s.entries ++ device_texts 0 m.devices) ++ x) (commit_text digest)
    ∙ ap (λ (x : List ℕ). x ++ (5 ∷ digest)) (sym text) in
    let whole : held ≡ before_all ++ (5 ∷ digest) = s.by.whole ∙ ap (λ (x : List ℕ). before_all ++ x) (commit_text digest) in
    let spells : HasSpelling (commit digest) = (length-sha256 before_all, digest_bytes before_all digest held are whole) in
    let version : s.version ≡ r.opening.version = ap (λ (x : Opening). x.version) (sym t.0) in
    let each : AllByRecursion (IsText s.version) others = both_spell s.version s.entries (device_records 0 m.devices) (entries_spell s.version (layout_of m) s.entries s.by.each)
    (devices_spell s.version (base_of m.devices) (length m.ram) 0 m.devices (omega (arith, s.by.sound.few_devices)) (recursion_from_All (IsSoundDevice (base_of m.devices) (length m.ram)) m.devices s.by.sound.devices)) in
    let spell : AllByRecursion (IsText r.opening.version) others = subst (λ (v : ℕ). AllByRecursion (IsText v) others) version each in
    not_led r.opening o.before others tail digest o.read.good spell o.waits.no_record
    (λ x e. o.waits.no_record (commit digest) x spells tt (e ∙ ap (λ (y : List ℕ). y ++ x) (sym (commit_text digest))))
    (records_led o.before others tail (5 ∷ digest) (good_spell r.opening [] o.before o.read.good) (spells_alone r.opening.version others spell) same)
