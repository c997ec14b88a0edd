-- From one stage to the next.
use Rattle.std.proofs.Common.{◌≡◌, ◌≢◌, ℕ, ◌+◌, ◌*◌, ◌<◌, ◌≤◌, Bool, true, false, inl, List, [], ◌∷◌, ◌++◌, length, take, drop, map, replicate, refl, sym, ap, subst, ◌∙◌, append_assoc, append-nil, arith}
use Rattle.std.proofs.lemmas.List.{take_at, length-append, length-drop, length-replicate}
use Rattle.std.proofs.Math.Seq.{take-add}
use Rattle.sha2.specs.Sha256.{sha256}
use Rattle.receiver.specs.Sums.{Summed}
use Rattle.receiver.specs.Opened.{BeginsOpened, HasPages, Opened, opened_header, opened_layout, said_by, terms_at}
use Rattle.wire.specs.Records.{Record}
use Rattle.wire.specs.Stream.{texts, rounds}
use Rattle.blk.specs.Disk.{AreSectors, DiskState}
use Rattle.machine.specs.First.{AreMarksOf, dealt_sectors, marked_sectors}
use Rattle.receiver.proofs.Sectors.{marked_bad, marked_whole}
use Rattle.std.specs.Prelude.{All}
use Rattle.machine.specs.Layout.{firsts_of, size_of}
use Rattle.receiver.proofs.Takings.{new_taken}
use Rattle.receiver.specs.Good.{AreGood}
use Rattle.machine.specs.Shapes.{disk_sizes}
use Rattle.receiver.specs.Disks.{AreRefused, sizes_in}
use Rattle.receiver.specs.Faults.{ShowsHeaderFault, IsComplete, IsTrailing, Fault, TellsHead}
use Rattle.receiver.specs.Fed.{AreWritten, HasRead, IsReadWhole, IsUpTo, Tells, device_records}
use Rattle.receiver.specs.declared.intake.Intake.{Intake}
use Rattle.machine.specs.Limits.{AreWithin}
use Rattle.machine.specs.declared.limits.Limits.{Limits}
use Rattle.receiver.specs.declared.ram_terms.RamTerms.{RamTerms}
use Rattle.receiver.specs.declared.recv_error.RecvError.{RecvError}
use Rattle.receiver.specs.declared.recv_error.RecvError.TheVariants as errors
use Rattle.receiver.proofs.Aligned.{not_early}
use Rattle.receiver.proofs.Working.{SoFar, commit_text, cut, fault_here, refused_kept, then_refused}

-- A header was read.

pub new_marks_fit : (sizes : List ℕ) → map length (map (λ n. replicate n false) sizes) ≡ sizes
new_marks_fit [] = refl
new_marks_fit (n ∷ sizes) = rw (length-replicate n false, new_marks_fit sizes) refl

-- Nothing was written yet: the disks hold what they held.
new_written : (ds : List DiskState) (bad : List (List Bool)) → All (λ (d : DiskState). AreSectors d.sectors) ds → bad ≡ map (λ n. replicate n false) (sizes_in ds) → AreWritten ds bad (marked_sectors ds bad)
new_written ds bad whole is =
    let marks : AreMarksOf ds bad = rw is (new_marks_fit (sizes_in ds)) in
    record { marks = marks; whole = marked_whole ds bad whole; bad_are = marked_bad ds bad marks; held = λ honest. refl }

pub new_read : (ds : List DiskState) (bytes rest : List ℕ) (opening : Opened) (i : Intake) → BeginsOpened bytes opening rest → sizes_in ds ≡ disk_sizes opening.shapes → HasPages opening.ram opening.pages → AreWithin opening.ram.limits opening.pages opening.shapes → length i.ram.bytes ≡ 4096 * opening.pages → i.named ≡ replicate (size_of (opened_layout opening)) false → i.rounds ≡ 0
    → i.terms.version ≡ opening.version → i.terms.ram ≡ opening.ram → i.shapes.items ≡ opening.shapes → i.devices.items ≡ [] → i.firsts.items ≡ firsts_of (opened_layout opening) → i.bad.items ≡ map (λ n. replicate n false) (sizes_in ds) → All (λ (d : DiskState). AreSectors d.sectors) ds → HasRead ds opening [] i (opened_header opening)
unfolding AreGood texts rounds device_records
new_read ds bytes rest opening i b fits suits within size marks ends version based same none firsts bad whole = record {
  head = b.good;
  fits = fits;
  suits = suits;
  within = within;
  good = tt;
  whole = sym (append-nil (opened_header opening));
  version_is = version;
  ram_is = based;
  shapes_are = same;
  firsts_are = firsts;
  sectors = marked_sectors ds i.bad.items;
  written = new_written ds i.bad.items whole bad;
  entries = [];
  split = rw none refl;
  each = tt;
  numbered = tt;
  rounds_are = ends;
  taken = new_taken opening.version i.ram.bytes (dealt_sectors opening.shapes (marked_sectors ds i.bad.items)) i.named (opened_layout opening) size marks;
  devices_are = rw none refl;
  sound = rw none tt;
  has = rw none tt;
}

pub head_taken : (held : List ℕ) (opening : Opened) (len : ℕ) → len ≤ length held → BeginsOpened held opening (drop len held) → take len held ≡ opened_header opening
head_taken held opening len le b =
    let size : length (opened_header opening) ≡ len = omega (arith, le, ap length b.whole, length-append (opened_header opening) (drop len held), length-drop len held) in
    ap (take len) b.whole ∙ take_at (opened_header opening) (drop len held) len size

pub mismatch : (ram : RamTerms) (sizes held rest : List ℕ) (opening : Opened) → BeginsOpened held opening rest → AreWithin ram.limits opening.pages opening.shapes → ¬ ((sizes ≡ disk_sizes opening.shapes) × HasPages ram opening.pages) → (at : ℕ) × Fault ram sizes held errors.ShapeMismatch at
mismatch ram sizes held rest opening b within never = (length (opened_header opening), inl (record { opening = said_by opening; more = rest; begins = b; within = within; never = never; there = refl }))

header_told : (ram : RamTerms) (sizes held : List ℕ) (e : RecvError) → TellsHead e (ShowsHeaderFault ram.limits held e) → Tells e ((at : ℕ) × Fault ram sizes held e at)
header_told ram sizes held errors.DiskFailed f = tt
header_told ram sizes held errors.NoMemory f = tt
header_told ram sizes held _ f = ((f ram sizes refl).0, inl (f ram sizes refl).1)

never_disk_head : (limits : Limits) (held : List ℕ) (e : RecvError) → TellsHead e (ShowsHeaderFault limits held e) → e ≢ errors.DiskFailed
never_disk_head limits held e f same = let g : ShowsHeaderFault limits held errors.DiskFailed = rw same at f in (g (terms_at (record { base = 0; limits = limits })) [] refl).1

pub header_refused : (ram : RamTerms) (ds : List DiskState) (held : List ℕ) (e : RecvError) → TellsHead e (ShowsHeaderFault ram.limits held e) → AreRefused ds ds e × Tells e ((at : ℕ) × Fault ram (sizes_in ds) held e at)
header_refused ram ds held e t = (refused_kept ds e (never_disk_head ram.limits held e t), header_told ram (sizes_in ds) held e t)

-- The records after the header, which has `len` bytes.
headed : (len at : ℕ) (bytes : List ℕ) → take len bytes ++ take at (drop len bytes) ≡ take (len + at) bytes
headed len at bytes = sym (take-add len at bytes)

-- A piece more.

trailing_of : (opening : Opened) (before : List Record) (digest front piece : List ℕ) → IsComplete opening before 5 → front ≡ opened_header opening ++ texts before → 0 < length piece → digest ≡ sha256 front
    → IsTrailing opening before ((5 ∷ digest) ++ piece) 34
trailing_of opening before digest front [] complete e some same = absurd (omega (arith, some))
trailing_of opening before digest front (byte ∷ more) complete e some same = record {
  byte = byte;
  more = more;
  opens = record {
    whole = ap (λ (x : List ℕ). 5 ∷ (x ++ (byte ∷ more))) (same ∙ ap sha256 e);
    may = record { least = omega arith; most = omega arith; early = λ low. absurd (not_early 5 (omega arith) (omega arith) low); missing = λ four. absurd (omega (arith, four)); since = λ six. absurd (omega (arith, six)) };
    complete = λ late. complete;
  };
  there = refl;
}

pub trailing_piece : (ram : RamTerms) (ds : List DiskState) (old piece : List ℕ) (i : Intake) → IsReadWhole ram ds old i → 0 < length piece → AreRefused ds ds errors.Trailing × ((k : ℕ) × Fault ram (sizes_in ds) (old ++ piece) errors.Trailing k)
trailing_piece ram ds old piece i h some =
    let w = h.ended in
    let text : old ≡ w.front ++ (5 ∷ sha256 w.front) = w.whole ∙ ap (λ (x : List ℕ). w.front ++ x) (commit_text (sha256 w.front)) in
    let whole : old ++ piece ≡ w.front ++ ((5 ∷ sha256 w.front) ++ piece) = ap (λ (x : List ℕ). x ++ piece) text ∙ append_assoc w.front (5 ∷ sha256 w.front) piece in
    let fault = fault_here (old ++ piece) ((5 ∷ sha256 w.front) ++ piece) errors.Trailing w.read whole (34, trailing_of h.opening w.before (sha256 w.front) w.front piece w.complete w.read.whole some refl) in
    (refused_kept ds errors.Trailing (λ same. cc), subst (λ (r : RamTerms). (k : ℕ) × Fault r (sizes_in ds) (old ++ piece) errors.Trailing k) h.based fault)

-- A byte after the digest.
pub trailing_in : (ram : RamTerms) (old ds : List DiskState) (i : Intake) (digest : Summed) (front bytes : List ℕ) (at : ℕ) → i.ended ≡ true → at < length bytes → SoFar ram old ds i digest (front ++ take at bytes)
    → AreRefused old ds errors.Trailing × ((k : ℕ) × Fault ram (sizes_in old) (front ++ bytes) errors.Trailing k)
trailing_in ram old ds i digest front bytes at done more s =
    let come : IsReadWhole ram ds (front ++ take at bytes) i = subst (λ (b : Bool). IsUpTo b ram ds digest (front ++ take at bytes) i) done s.known in
    let t = trailing_piece ram ds (front ++ take at bytes) (drop at bytes) i come (omega (arith, more, length-drop at bytes)) in
    let parts : (front ++ take at bytes) ++ drop at bytes ≡ front ++ bytes = sym (cut front bytes at) in (
      then_refused old ds ds errors.Trailing s.same t.0,
      subst (λ (sizes : List ℕ). (k : ℕ) × Fault ram sizes (front ++ bytes) errors.Trailing k) s.same.sizes (subst (λ (x : List ℕ). (k : ℕ) × Fault ram (sizes_in ds) x errors.Trailing k) parts t.1),
    )
