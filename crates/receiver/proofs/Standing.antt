-- Which head may come next, and the record with it.
use Rattle.std.proofs.Common.{◌≡◌, ℕ, zero, suc, ◌+◌, ◌*◌, ◌<◌, ◌≤◌, ◌⊎◌, ◌↔◌, inl, inr, Bool, true, false, List, [], ◌∷◌, ◌++◌, length, take, drop, map, get_or, refl, sym, ap, subst, ◌∙◌, append_assoc, append-nil, arith, ◌^◌}
use Rattle.std.specs.Prelude.{IfErr, IfOk, OnOk, Result, Ok, Err, ◌≢◌, set}
use Rattle.std.specs.Vec.{vec_capacity}
use Rattle.std.proofs.lemmas.Bool.{cases_lt}
use Rattle.std.proofs.lemmas.List.{take-append-drop, take_at, length-append, length-take}
use Rattle.sha2.specs.Sha256.{sha256}
use Rattle.receiver.specs.Sums.{Summed}
use Rattle.sha2.proofs.Facts256.{length-sha256}
use Rattle.guestmem.specs.Number.{IsBytes}
use Rattle.receiver.specs.Opened.{opened_header, Opened}
use Rattle.wire.specs.Numbers.{digits, flag}
use Rattle.wire.specs.RecordHeads.{BeginsHead, BeginsNoMark, BeginsNoTag, FitsHead, IsHeadCut, body_len, spelled_head}
use Rattle.wire.specs.Records.{Record, is_zero_page, record_with, spelled_record}
use Rattle.wire.specs.Stream.{texts}
use Rattle.wire.specs.declared.record_head.RecordHead.{RecordHead}
use Rattle.wire.specs.declared.record_head.RecordHead.TheVariants as heads
use Rattle.wire.proofs.Heads.{no_body, no_record, one_head, sector_found, short_head, some_head, spelled_with}
use Rattle.wire.proofs.Spelling.{head_same, tail_same}
use Rattle.blk.specs.Disk.{DiskState}
use Rattle.receiver.specs.Disks.{AreRefused}
use Rattle.receiver.specs.Good.{devices_in}
use Rattle.receiver.specs.Faults.{IsBadDeviceBody, IsBadDigest, IsBadDeviceHead, IsBadPage, IsFault, IsLongZeros, IsPageTag, IsTrailing, Opens}
use Rattle.receiver.specs.Fed.{Ends, HasRead, TookRecord, Waits}
use Rattle.receiver.specs.Standing.{Closed, Entered, TookHead, Enters, IsDeviceHead, IsLong, IsNoBody, IsShort, IsSized, IsWholeDevice, Keeps, MayHead, OpensHead, TakesHead, record_behind, refusal_of}
use Rattle.receiver.specs.declared.intake.Intake.{Intake}
use Rattle.receiver.specs.declared.recv_error.RecvError.{RecvError}
use Rattle.receiver.specs.declared.recv_error.RecvError.TheVariants as errors
use Rattle.machine.specs.Shapes.{sector_count}
use Rattle.receiver.proofs.Lists.{empty}
use Rattle.receiver.proofs.Quiet.{quiet}
use Rattle.receiver.proofs.Working.{fault_refused, kept, refused_kept}
use Rattle.machine.proofs.Numbering.{either_way, size_grows}

pub opens_at : {opening : Opened} {before : List Record} {tail : List ℕ} {tag : ℕ} {more : List ℕ} (t : ℕ) (x : List ℕ) → Opens opening before tail tag more → tail ≡ t ∷ x → Opens opening before tail t x
opens_at {tag = tag} {more = more} t x o e =
    let first : tag ≡ t = head_same (sym o.whole ∙ e) in
    let others : more ≡ x = tail_same (sym o.whole ∙ e) in
    rw (first, others) at o

-- The first two bytes of a device's record.
pub second_low : (tail x : List ℕ) (t d : ℕ) → IsBytes tail → tail ≡ t ∷ (d ∷ x) → d < 256
second_low tail x t d are e = (subst IsBytes e are) 1

-- A head that is cut waits.

not_that_long : (tail : List ℕ) (len : ℕ) → IsHeadCut tail len → 7 ≤ length tail → ⊥
not_that_long tail len c long =
    let none : length c.more ≡ 0 = omega (arith, long, short_head c.head, ap length c.whole, length-append tail c.more) in
    let same : tail ≡ spelled_head c.head ++ [] = sym (append-nil tail) ∙ ap (λ (x : List ℕ). tail ++ x) (sym (empty c.more none)) ∙ sym c.whole ∙ sym (append-nil (spelled_head c.head)) in
    c.none c.head [] c.fits same

cut_device : (opening : Opened) (before : List Record) (tail : List ℕ) (len : ℕ) → IsBytes tail → IsHeadCut tail len → (place : ℕ) → ¬ (IsBadDeviceHead opening before tail place ⊎ IsBadDeviceBody opening before tail place)
cut_device opening before tail len are c place (inl h) = c.none (heads.Device h.number h.len) h.more (second_low tail _ 4 h.number are h.opens.whole, h.fits) h.opens.whole
cut_device opening before tail len are c place (inr h) = c.none (heads.Device (devices_in before) (length h.body)) (h.body ++ h.more) (second_low tail _ 4 (devices_in before) are h.opens.whole, omega (arith, h.few)) h.opens.whole

cut_digest : (opening : Opened) (before : List Record) (tail : List ℕ) (len : ℕ) → IsHeadCut tail len → (place : ℕ) → ¬ (IsBadDigest opening before tail place ⊎ IsTrailing opening before tail place)
cut_digest opening before tail len c place (inl h) = c.none heads.Commit (h.digest ++ h.more) tt h.opens.whole
cut_digest opening before tail len c place (inr h) = c.none heads.Commit (sha256 (opened_header opening ++ texts before) ++ (h.byte ∷ h.more)) tt h.opens.whole

cut_page : (opening : Opened) (before : List Record) (tail : List ℕ) (len : ℕ) → IsHeadCut tail len → (place : ℕ) → ¬ (IsBadPage opening before tail place ⊎ IsLongZeros opening before tail place)
cut_page opening before tail len c place (inl h) = cut_named h.names h.opens.whole
  where
    cut_named : IsPageTag h.tag → tail ≡ h.tag ∷ (digits 4 h.number ++ h.more) → ⊥
    cut_named (inl one) e = c.none (heads.Page h.number) h.more h.fits (e ∙ ap (λ (t : ℕ). t ∷ (digits 4 h.number ++ h.more)) one)
    cut_named (inr six) e = c.none (heads.ZeroPage h.number) h.more h.fits (e ∙ ap (λ (t : ℕ). t ∷ (digits 4 h.number ++ h.more)) six)
cut_page opening before tail len c place (inr h) = c.none (heads.Page h.number) (h.bytes ++ h.more) h.fits h.opens.whole

pub cut_waits : (opening : Opened) (before : List Record) (tail : List ℕ) (tag : ℕ) (more : List ℕ) (len : ℕ) → IsBytes tail → Opens opening before tail tag more → IsHeadCut tail len → Waits opening before tail
cut_waits opening before tail tag more len are o c = record {
  no_record = no_record opening.version tail c.none;
  no_fault = quiet opening before tail tag more o
      (λ e. cut_page opening before tail len c)
      (λ e place h. not_that_long tail len c (omega (arith, ap length h.opens.whole)))
      (λ e place h. c.none (heads.RoundEnd h.number) h.more h.fits h.opens.whole)
      (λ e. cut_device opening before tail len are c)
      (λ e. cut_digest opening before tail len c);
}

-- A head that may stand waits for its body.

waits_device : (opening : Opened) (before : List Record) (tail rest : List ℕ) (head : RecordHead) → IsBytes tail → OpensHead opening before tail head rest → MayHead opening before head → length rest < body_len head
    → (place : ℕ) → ¬ (IsBadDeviceHead opening before tail place ⊎ IsBadDeviceBody opening before tail place)
waits_device opening before tail rest head are o may short place (inl h) =
    let t = one_head head (heads.Device h.number h.len) rest h.more o.fits (second_low tail _ 4 h.number are h.opens.whole, h.fits) (sym o.whole ∙ h.opens.whole) in
    h.never (subst (MayHead opening before) t.0 may)
waits_device opening before tail rest head are o may short place (inr h) =
    let t = one_head head (heads.Device (devices_in before) (length h.body)) rest (h.body ++ h.more) o.fits (second_low tail _ 4 (devices_in before) are h.opens.whole, omega (arith, h.few)) (sym o.whole ∙ h.opens.whole) in
    omega (arith, short, ap body_len t.0, ap length t.1, length-append h.body h.more)

waits_digest : (opening : Opened) (before : List Record) (tail rest : List ℕ) (head : RecordHead) → OpensHead opening before tail head rest → length rest < body_len head
    → (place : ℕ) → ¬ (IsBadDigest opening before tail place ⊎ IsTrailing opening before tail place)
waits_digest opening before tail rest head o short place (inl h) =
    let t = one_head head heads.Commit rest (h.digest ++ h.more) o.fits tt (sym o.whole ∙ h.opens.whole) in
    omega (arith, short, ap body_len t.0, ap length t.1, length-append h.digest h.more, h.long)
waits_digest opening before tail rest head o short place (inr h) =
    let sum = sha256 (opened_header opening ++ texts before) in
    let t = one_head head heads.Commit rest (sum ++ (h.byte ∷ h.more)) o.fits tt (sym o.whole ∙ h.opens.whole) in
    omega (arith, short, ap body_len t.0, ap length t.1, length-append sum (h.byte ∷ h.more), length-sha256 (opened_header opening ++ texts before))

-- A page that is there, by either of its heads.
page_is_there : (opening : Opened) (before : List Record) (tail rest more : List ℕ) (head : RecordHead) (tag n : ℕ) → FitsHead head → tail ≡ spelled_head head ++ rest → MayHead opening before head → n < 2 ^ 32 → IsPageTag tag → tail ≡ tag ∷ (digits 4 n ++ more) → n < opening.pages
page_is_there opening before tail rest more head tag n fits whole may few (inl one) e =
    let t = one_head head (heads.Page n) rest more fits few (sym whole ∙ e ∙ ap (λ (t : ℕ). t ∷ (digits 4 n ++ more)) one) in
    subst (MayHead opening before) t.0 may
page_is_there opening before tail rest more head tag n fits whole may few (inr six) e =
    let t = one_head head (heads.ZeroPage n) rest more fits few (sym whole ∙ e ∙ ap (λ (t : ℕ). t ∷ (digits 4 n ++ more)) six) in
    subst (MayHead opening before) t.0 may

waits_page : (opening : Opened) (before : List Record) (tail rest : List ℕ) (head : RecordHead) → OpensHead opening before tail head rest → MayHead opening before head → length rest < body_len head
    → (place : ℕ) → ¬ (IsBadPage opening before tail place ⊎ IsLongZeros opening before tail place)
waits_page opening before tail rest head o may short place (inl h) =
    let low = page_is_there opening before tail rest h.more head h.tag h.number o.fits o.whole may h.fits h.names h.opens.whole in
    omega (arith, low, h.never)
waits_page opening before tail rest head o may short place (inr h) =
    let t = one_head head (heads.Page h.number) rest (h.bytes ++ h.more) o.fits h.fits (sym o.whole ∙ h.opens.whole) in
    omega (arith, short, ap body_len t.0, ap length t.1, length-append h.bytes h.more, h.long)

pub body_waits : (opening : Opened) (before : List Record) (tail rest : List ℕ) (head : RecordHead) → IsBytes tail → OpensHead opening before tail head rest → MayHead opening before head → length rest < body_len head → Waits opening before tail
body_waits opening before tail rest head are o may short = record {
  no_record = no_body opening.version tail rest head o.fits o.whole short;
  no_fault = quiet opening before tail o.tag o.more o.opens
      (λ e. waits_page opening before tail rest head o may short)
      (λ e place h.
      let t = sector_found head rest h.more h.disk h.number h.mark o.fits h.fits (sym o.whole ∙ h.opens.whole) in
      h.never (subst (MayHead opening before) t.is may, t.low))
      (λ e place h.
      let t = one_head head (heads.RoundEnd h.number) rest h.more o.fits h.fits (sym o.whole ∙ h.opens.whole) in
      h.never (subst (MayHead opening before) t.0 may))
      (λ e. waits_device opening before tail rest head are o may short)
      (λ e. waits_digest opening before tail rest head o short);
}

-- A head that may not stand is a fault.

at_least : (n pages : ℕ) → (n < pages) ⊎ (pages ≤ n) → ¬ (n < pages) → pages ≤ n
at_least n pages (inl lt) never = absurd (never lt)
at_least n pages (inr le) never = le

pub head_refused : (opening : Opened) (before : List Record) (tail rest : List ℕ) (head : RecordHead) → OpensHead opening before tail head rest → ¬ (MayHead opening before head) → (place : ℕ) × IsFault opening before tail (refusal_of head) place
head_refused opening before tail rest (heads.Page n) o never =
    (5, inl (record { tag = 1; number = n; more = rest; names = inl refl; opens = opens_at 1 (digits 4 n ++ rest) o.opens o.whole; fits = o.fits; never = at_least n opening.pages (cases_lt n opening.pages) never; there = refl }))
head_refused opening before tail rest (heads.Sector d n good) o never =
    (7, record { disk = d; number = n; mark = flag good; more = rest; opens = opens_at 2 (d ∷ (digits 4 n ++ (flag good ∷ rest))) o.opens o.whole; fits = o.fits.1; never = λ x. never x.0; there = refl })
head_refused opening before tail rest (heads.RoundEnd n) o never =
    (5, record { number = n; more = rest; opens = opens_at 3 (digits 4 n ++ rest) o.opens o.whole; fits = o.fits; never = never; there = refl })
head_refused opening before tail rest (heads.Device d len) o never =
    (6, inl (record { number = d; len = len; more = rest; opens = opens_at 4 (d ∷ (digits 4 len ++ rest)) o.opens o.whole; fits = o.fits.1; never = never; there = refl }))
head_refused opening before tail rest heads.Commit o never = absurd (never tt)
head_refused opening before tail rest (heads.ZeroPage n) o never =
    (5, inl (record { tag = 6; number = n; more = rest; names = inr refl; opens = opens_at 6 (digits 4 n ++ rest) o.opens o.whole; fits = o.fits; never = at_least n opening.pages (cases_lt n opening.pages) never; there = refl }))

pub mark_refused : (opening : Opened) (before : List Record) (tail : List ℕ) (tag : ℕ) (more : List ℕ) → Opens opening before tail tag more → BeginsNoMark tail → (place : ℕ) × IsFault opening before tail errors.BadSector place
mark_refused opening before tail tag more o b =
    (7, record { disk = b.device; number = b.number; mark = b.mark; more = b.more; opens = opens_at 2 (b.device ∷ (digits 4 b.number ++ (b.mark ∷ b.more))) o b.whole; fits = b.fits; never = λ x. omega (arith, x.1, b.never); there = refl })

pub tag_known : (opening : Opened) (before : List Record) (tail : List ℕ) (tag : ℕ) (more : List ℕ) → Opens opening before tail tag more → BeginsNoTag tail → ⊥
tag_known opening before tail tag more o b =
    let opens = opens_at b.tag b.more o b.whole in
    let found = some_head b.tag opens.may.least opens.may.most in
    b.never found.0 found.1.0 found.1.1

-- The bytes of a head, as it was read.

pub found_head : (opening : Opened) (before : List Record) (tail : List ℕ) (tag : ℕ) (more : List ℕ) (head : RecordHead) → Opens opening before tail tag more → BeginsHead tail head → OpensHead opening before tail head (drop (length (spelled_head head)) tail)
found_head opening before tail tag more head o b = record { tag = tag; more = more; opens = o; fits = b.fits; whole = b.whole }

-- The body, and what is behind it.
pub cut_behind : {opening : Opened} {before : List Record} {tail behind : List ℕ} {head : RecordHead} (n : ℕ) → OpensHead opening before tail head behind → OpensHead opening before tail head (take n behind ++ drop n behind)
cut_behind {behind = behind} {head = head} n o = record {
  tag = o.tag;
  more = o.more;
  opens = o.opens;
  fits = o.fits;
  whole = o.whole ∙ ap (λ (x : List ℕ). spelled_head head ++ x) (sym (take-append-drop n behind));
}

-- Records that were taken.

pub taken_with : (tail body more : List ℕ) (head : RecordHead) → tail ≡ spelled_head head ++ (body ++ more) → length body ≡ body_len head → take (length (spelled_head head) + length body) tail ≡ spelled_record (record_with head body)
taken_with tail body more head e many =
    let front = spelled_head head in
    let all : tail ≡ (front ++ body) ++ more = e ∙ sym (append_assoc front body more) in
    ap (take (length front + length body)) all ∙ take_at (front ++ body) more (length front + length body) (length-append front body) ∙ sym (spelled_with head body many)

-- What came of a record is what came of its head.
pub followed_by : (old ds : List DiskState) (opening : Opened) (before : List Record) (new : Intake) (front tail behind : List ℕ) (head : RecordHead) (r : Result Bool RecvError) → new.ended ≡ false → OpensHead opening before tail head behind → IsLong head behind r
    → Entered old ds opening before new front tail head behind r → TookHead old ds opening before new front tail head r
followed_by old ds opening before new front tail behind head (Ok true) on o long t =
    let body = take (body_len head) behind in
    let many : length body ≡ body_len head = omega (arith, long refl, length-take (body_len head) behind) in
    let whole : tail ≡ spelled_head head ++ (body ++ drop (body_len head) behind) = o.whole ∙ ap (λ (x : List ℕ). spelled_head head ++ x) (sym (take-append-drop (body_len head) behind)) in
    let text : take (length (spelled_head head) + body_len head) tail ≡ spelled_record (record_behind head behind) =
    ap (λ (n : ℕ). take (length (spelled_head head) + n) tail) (sym many) ∙ taken_with tail body (drop (body_len head) behind) head whole many in (
      t.0,
      subst (λ (b : Bool). TookRecord b ds opening before new front tail (length (spelled_head head) + body_len head)) (sym on)
          (record_behind head behind, subst (λ (x : List ℕ). HasRead ds opening (before ++ record_behind head behind ∷ []) new (front ++ x)) (sym text) t.1),
    )
followed_by old ds opening before new front tail behind head (Ok false) on o long t = t
followed_by old ds opening before new front tail behind head (Err e) on o long t = t

-- What came of the digest.
pub followed_end : (ds : List DiskState) (opening : Opened) (before : List Record) (new : Intake) (front tail : List ℕ) (r : Result Bool RecvError) → IfOk r (λ took. took ≡ true → new.ended ≡ true)
    → Closed ds opening before new front tail r → TookHead ds ds opening before new front tail heads.Commit r
followed_end ds opening before new front tail (Ok true) done t =
    (kept ds, subst (λ (b : Bool). TookRecord b ds opening before new front tail 33) (sym (done refl)) (refl, t.0, t.1))
followed_end ds opening before new front tail (Ok false) done t = (kept ds, t.0, t.1)
followed_end ds opening before new front tail (Err e) done t = rw t.0 (refused_kept ds errors.BadDigest (λ e. cc), t.1)

-- A head that may not come, and one that waits.
pub entered_refused : (ds : List DiskState) (opening : Opened) (before : List Record) (new : Intake) (front tail behind : List ℕ) (head : RecordHead) → OpensHead opening before tail head behind → ¬ (MayHead opening before head)
    → Entered ds ds opening before new front tail head behind (Err (refusal_of head))
entered_refused ds opening before new front tail behind head o never = fault_refused ds opening before tail (refusal_of head) (head_refused opening before tail behind head o never)

pub entered_waits : (ds : List DiskState) (opening : Opened) (before : List Record) (new : Intake) (front tail behind : List ℕ) (head : RecordHead) → IsBytes tail → HasRead ds opening before new front → OpensHead opening before tail head behind → MayHead opening before head → length behind < body_len head
    → Entered ds ds opening before new front tail head behind (Ok false)
entered_waits ds opening before new front tail behind head are h o may short = (kept ds, h, body_waits opening before tail behind head are o may short)

bad_body : (opening : Opened) (before : List Record) (tail body more : List ℕ) (d len : ℕ) → OpensHead opening before tail (heads.Device d len) (body ++ more) → MayHead opening before (heads.Device d len) → length body ≡ len → IsNoBody opening d body
    → (place : ℕ) × (IsBadDeviceHead opening before tail place ⊎ IsBadDeviceBody opening before tail place)
bad_body opening before tail body more d len o may many refused =
    let whole : tail ≡ 4 ∷ (devices_in before ∷ (digits 4 (length body) ++ (body ++ more))) = rw (sym may.next, many) o.whole in (
      6 + length body,
      inr (record {
        body = body;
        more = more;
        shape = refused.shape;
        others = refused.others;
        opens = opens_at 4 (devices_in before ∷ (digits 4 (length body) ++ (body ++ more))) o.opens whole;
        few = omega (arith, many, may.few);
        here = rw (sym may.next) refused.here;
        never = refused.never;
        there = refl;
      }),
    )

pub device_refused : (ds : List DiskState) (opening : Opened) (before : List Record) (tail behind : List ℕ) (d len : ℕ) → OpensHead opening before tail (heads.Device d len) behind → MayHead opening before (heads.Device d len) → len ≤ length behind
    → IsNoBody opening d (take len behind) → AreRefused ds ds errors.BadDevice × ((place : ℕ) × IsFault opening before tail errors.BadDevice place)
device_refused ds opening before tail behind d len o may long never =
    let body = take len behind in
    let many : length body ≡ len = omega (arith, long, length-take len behind) in
    (refused_kept ds errors.BadDevice (λ e. cc), bad_body opening before tail body (drop len behind) d len (cut_behind len o) may many never)

-- A page of zeros that is encoded as another page.
pub zeros_refused : (ds : List DiskState) (opening : Opened) (before : List Record) (tail body more : List ℕ) (n : ℕ) → OpensHead opening before tail (heads.Page n) (body ++ more) → MayHead opening before (heads.Page n) → length body ≡ 4096
    → ¬ (is_zero_page opening.version body ≡ false) → AreRefused ds ds errors.BadPage × ((place : ℕ) × IsFault opening before tail errors.BadPage place)
zeros_refused ds opening before tail body more n o may long zeros = (
  refused_kept ds errors.BadPage (λ e. cc),
  (
    4101,
    inr (record {
      number = n;
      bytes = body;
      more = more;
      opens = opens_at 1 (digits 4 n ++ (body ++ more)) o.opens o.whole;
      fits = o.fits;
      within = may;
      long = long;
      zeros = is_true (is_zero_page opening.version body) (either_way (is_zero_page opening.version body)) zeros;
      there = refl;
    }),
  ),
)
  where
    is_true : (b : Bool) → (b ≡ true) ⊎ (b ≡ false) → ¬ (b ≡ false) → b ≡ true
    is_true b (inl e) never = e
    is_true b (inr e) never = absurd (never e)

-- An intake of the same sizes.
pub sized_on : (i j : Intake) → IsSized i → length j.ram.bytes ≡ length i.ram.bytes → length j.named ≡ length i.named → j.firsts.items ≡ i.firsts.items → map length j.bad.items ≡ map length i.bad.items → j.shapes.items ≡ i.shapes.items
    → length i.shapes.items ≤ vec_capacity j.devices → IsSized j
sized_on i j s ram named firsts marks shapes roomy = record {
  pages = s.pages;
  ram_size = ram ∙ s.ram_size;
  named_size = rw shapes (named ∙ s.named_size);
  firsts_are = rw shapes (firsts ∙ s.firsts_are);
  marks = rw shapes (marks ∙ s.marks);
  sound = rw shapes s.sound;
  roomy = rw shapes roomy;
}

-- The marks of one disk changed, and not their number.
pub marks_long : (bad : List (List Bool)) (k : ℕ) (m : List Bool) → k < length bad → length m ≡ length (get_or bad k []) → map length (set bad k m) ≡ map length bad
marks_long [] k m below e = absurd (omega (arith, below))
marks_long (x ∷ bad) zero m below e = ap (λ (n : ℕ). n ∷ map length bad) e
marks_long (x ∷ bad) (suc k) m below e = ap (λ (ns : List ℕ). length x ∷ ns) (marks_long bad k m (omega (arith, below)) e)

-- A page that RAM has is one of the header's, and has a mark.
pub page_there : {ds : List DiskState} {opening : Opened} {before : List Record} {i : Intake} {front : List ℕ} (n : ℕ) → HasRead ds opening before i front → (4096 * n + 4096 ≤ length i.ram.bytes) ↔ (n < opening.pages)
page_there n h = (λ low. omega (arith, low, h.taken.ram_size), λ low. omega (arith, low, h.taken.ram_size))

pub page_marked : (i : Intake) (n : ℕ) → IsSized i → 4096 * n + 4096 ≤ length i.ram.bytes → n < length i.named
page_marked i n s low = omega (arith, low, s.ram_size, s.named_size, size_grows (map sector_count i.shapes.items) s.pages)

-- The head of a device has its tag.
pub device_tag : (tail more : List ℕ) (tag : ℕ) (head : RecordHead) → IsDeviceHead head → tail ≡ tag ∷ more → BeginsHead tail head → tag ≡ 4
device_tag tail more tag (heads.Device d len) is e b = head_same (sym e ∙ b.whole)
device_tag tail more tag _ is e b = absurd is

-- The digest that comes.
pub digest_refused : (opening : Opened) (before : List Record) (tail behind : List ℕ) → OpensHead opening before tail heads.Commit behind → length (take 32 behind) ≡ 32 → take 32 behind ≢ sha256 (opened_header opening ++ texts before)
    → (place : ℕ) × IsFault opening before tail errors.BadDigest place
digest_refused opening before tail behind o many never =
    let parts = cut_behind 32 o in
    (33, record { digest = take 32 behind; more = drop 32 behind; opens = opens_at 5 (take 32 behind ++ drop 32 behind) parts.opens parts.whole; long = many; never = never; there = refl })

pub digest_there : (opening : Opened) (before : List Record) (tail behind : List ℕ) → OpensHead opening before tail heads.Commit behind → take 32 behind ≡ sha256 (opened_header opening ++ texts before) → Ends opening before tail
digest_there opening before tail behind o same =
    let parts = cut_behind 32 o in
    record { more = drop 32 behind; opens = opens_at 5 (sha256 (opened_header opening ++ texts before) ++ drop 32 behind) parts.opens (parts.whole ∙ ap (λ (x : List ℕ). 5 ∷ (x ++ drop 32 behind)) same) }

-- Whether it has ended is nothing of what was read.
pub ended_on : (ds : List DiskState) (opening : Opened) (before : List Record) (i : Intake) (ended : Bool) (front : List ℕ) → HasRead ds opening before i front → HasRead ds opening before (record i { ended = ended }) front
ended_on ds opening before i ended front h = record {
  head = h.head;
  fits = h.fits;
  suits = h.suits;
  within = h.within;
  good = h.good;
  whole = h.whole;
  version_is = h.version_is;
  ram_is = h.ram_is;
  shapes_are = h.shapes_are;
  firsts_are = h.firsts_are;
  sectors = h.sectors;
  written = h.written;
  entries = h.entries;
  split = h.split;
  each = h.each;
  numbered = h.numbered;
  rounds_are = h.rounds_are;
  taken = h.taken;
  devices_are = h.devices_are;
  sound = h.sound;
  has = h.has;
}

-- A record without a body never waits.
pub all_long : (head : RecordHead) (behind : List ℕ) (r : Result Bool RecvError) → body_len head ≡ 0 → IsLong head behind r
all_long head behind (Ok took) none = λ e. omega (arith, none)
all_long head behind (Err e) none = tt

pub all_short : (head : RecordHead) (behind : List ℕ) (r : Result Bool RecvError) → OnOk r (r ≡ Ok true) → IsShort head behind r
all_short head behind (Ok true) all = λ e. absurd cc
all_short head behind (Ok false) all = absurd cc
all_short head behind (Err e) all = tt

pub never_memory : (r : Result Bool RecvError) → IfErr r (λ e. e ≢ errors.NoMemory) → r ≡ Err errors.NoMemory → ⊥
never_memory (Ok took) h e = cc
never_memory (Err x) h e = h (let same : x ≡ errors.NoMemory = cc in same)

pub some_spelled : (head : RecordHead) → 0 < length (spelled_head head)
some_spelled (heads.Page n) = omega arith
some_spelled _ = omega arith

-- What holds anyway holds where a record was taken.
pub anyway : {P : Type 0} (r : Result Bool RecvError) → P → OnOk r P
anyway (Ok took) p = p
anyway (Err e) p = tt

-- A record that is not the digest: what its function promises is all of it.
pub takes_one : (old ds : List DiskState) (i new : Intake) (digest : Summed) (head : RecordHead) (behind : List ℕ) (r : Result Bool RecvError) → i.ended ≡ false → Keeps i new → IsShort head behind r → IsLong head behind r
    → (r ≡ Err errors.NoMemory → IsWholeDevice head behind) → Enters old ds i new head behind r → TakesHead old ds i new digest digest head behind r
takes_one old ds i new digest head behind r on keeps short long memory enters = record {
  short = short;
  long = long;
  untouched = λ e. anyway r refl;
  waits = λ e. keeps.ended ∙ on;
  memory = memory;
  after = λ front tail opening before are d h o can. followed_by old ds opening before new front tail behind head r (keeps.ended ∙ on) o long (enters front tail opening before are h o);
}

-- One without a body.
pub takes_whole : (ds : List DiskState) (i new : Intake) (digest : Summed) (head : RecordHead) (behind : List ℕ) (r : Result Bool RecvError) → body_len head ≡ 0 → i.ended ≡ false → Keeps i new → OnOk r (r ≡ Ok true)
    → IfErr r (λ e. e ≢ errors.NoMemory) → Enters ds ds i new head behind r → TakesHead ds ds i new digest digest head behind r
takes_whole ds i new digest head behind r none on keeps all memory enters =
    takes_one ds ds i new digest head behind r on keeps (all_short head behind r all) (all_long head behind r none) (λ e. absurd (never_memory r memory e)) enters
