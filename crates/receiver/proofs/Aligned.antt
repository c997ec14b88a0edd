-- Whole good records in the same bytes are the same.
use Rattle.std.proofs.Common.{◌≡◌, ◌≢◌, ℕ, false, ◌+◌, ◌*◌, ◌^◌, ◌<◌, ◌≤◌, ◌⊎◌, inl, inr, Some, None, List, [], ◌∷◌, ◌++◌, length, drop, refl, sym, ap, ◌∙◌, append_assoc, append-nil, arith}
use Rattle.std.proofs.lemmas.List.{length-drop}
use Rattle.std.specs.List.{AllByRecursion}
use Rattle.wire.specs.Numbers.{digits}
use Rattle.wire.specs.Records.{Record, page, sector, round_end, device, commit, zero_page, is_zero_page, spelled_record, HasSpelling}
use Rattle.wire.specs.Stream.{texts, rounds}
use Rattle.guestmem.specs.Item as items
use Rattle.machine.specs.Layout.{IsItemIn}
use Rattle.wire.proofs.Bodies.{body_is_short}
use Rattle.wire.proofs.HeaderParts.{begins_once}
use Rattle.wire.proofs.Spelling.{head_same, tail_same, split_same, one_record, number_same}
use Rattle.wire.proofs.Unique.{cons_same}
use Rattle.receiver.specs.Good.{AreGood, IsNextDevice, IsNextRecord, devices_in}
use Rattle.receiver.specs.Faults.{IsEarly, Opens, IsBadPage, IsLongZeros, IsBadSector, IsBadRound, IsBadDeviceHead, IsBadDeviceBody, IsFault, IsFront, IsRecordFault}
use Rattle.receiver.specs.declared.ram_terms.RamTerms.{RamTerms}
use Rattle.receiver.specs.declared.recv_error.RecvError.{RecvError}
use Rattle.receiver.proofs.Lists.{not_both_ways}
use Rattle.receiver.proofs.Quiet.{no_page, quiet}
use Rattle.wire.specs.Header.{Opening}
use Rattle.receiver.specs.Opened.{BeginsOpened, Opened, opened_layout, opened, said_by}

-- One list of records is the beginning of the other.
pub record LongerRecords (rs ss : List Record) (x y : List ℕ) : Type 0 where
  pub more : List Record
  pub all : ss ≡ rs ++ more
  pub left : x ≡ texts more ++ y

longer_records : (r s : Record) (rs ss : List Record) (x y : List ℕ) → r ≡ s → LongerRecords rs ss x y → LongerRecords (r ∷ rs) (s ∷ ss) x y
longer_records r s rs ss x y e l = record { more = l.more; all = cons_same (sym e) l.all; left = l.left }

records_by : (r s : Record) (rs ss : List Record) (x y : List ℕ) → r ≡ s → LongerRecords rs ss x y ⊎ LongerRecords ss rs y x → LongerRecords (r ∷ rs) (s ∷ ss) x y ⊎ LongerRecords (s ∷ ss) (r ∷ rs) y x
records_by r s rs ss x y e (inl l) = inl (longer_records r s rs ss x y e l)
records_by r s rs ss x y e (inr l) = inr (longer_records s r ss rs y x (sym e) l)

pub records_led : (rs ss : List Record) (x y : List ℕ) → AllByRecursion HasSpelling rs → AllByRecursion HasSpelling ss → texts rs ++ x ≡ texts ss ++ y → LongerRecords rs ss x y ⊎ LongerRecords ss rs y x
unfolding texts
records_led [] ss x y h k e = inl (record { more = ss; all = refl; left = e })
records_led (r ∷ rs) [] x y h k e = inr (record { more = r ∷ rs; all = refl; left = sym e })
records_led (r ∷ rs) (s ∷ ss) x y h k e =
    let o = one_record r s (texts rs ++ x) (texts ss ++ y) h.0 k.0 (sym (append_assoc (spelled_record r) (texts rs) x) ∙ e ∙ append_assoc (spelled_record s) (texts ss) y) in
    records_by r s rs ss x y o.0 (records_led rs ss x y h.1 k.1 o.1)

pub good_spell : (opening : Opened) (acc rs : List Record) → AreGood opening acc rs → AllByRecursion HasSpelling rs
unfolding AreGood
good_spell opening acc [] h = tt
good_spell opening acc (r ∷ rs) h = (h.0.spells, good_spell opening (acc ++ r ∷ []) rs h.1)

-- The record behind the first ones may stand there.
pub next_good : (opening : Opened) (acc rs more : List Record) (r : Record) → AreGood opening acc (rs ++ r ∷ more) → IsNextRecord opening (acc ++ rs) r
unfolding AreGood
next_good opening acc [] more r h = rw (append-nil acc) h.0
next_good opening acc (s ∷ rs) more r h =
    let same : acc ++ (s ∷ rs) ≡ (acc ++ s ∷ []) ++ rs = sym (append_assoc acc (s ∷ []) rs) in
    rw same (next_good opening (acc ++ s ∷ []) rs more r h.1)

-- Where a good record stands, no fault does.

pub not_early : (tag : ℕ) → 4 ≤ tag → tag ≤ 5 → ¬ (IsEarly tag)
not_early tag low high (inl e) = omega (arith, low, e)
not_early tag low high (inr e) = omega (arith, high, e)

opens_early : (opening : Opened) (before : List Record) (tail : List ℕ) (tag : ℕ) (more : List ℕ) → tail ≡ tag ∷ more → 1 ≤ tag → tag ≤ 3 → devices_in before ≡ 0 → Opens opening before tail tag more
opens_early opening before tail tag more e least most none = record {
  whole = e;
  may = record { least = least; most = omega (arith, most); early = λ low. none; missing = λ four. absurd (omega (arith, most, four)); since = λ six. absurd (omega (arith, most, six)) };
  complete = λ late. absurd (omega (arith, most, late.0));
}

opens_zeros : (opening : Opened) (before : List Record) (tail more : List ℕ) → tail ≡ 6 ∷ more → devices_in before ≡ 0 → opening.version ≢ 1 → Opens opening before tail 6 more
opens_zeros opening before tail more whole none later = record {
  whole = whole;
  may = record { least = omega arith; most = omega arith; early = λ low. none; missing = λ four. absurd (omega (arith, four)); since = λ six. later };
  complete = λ late. absurd (omega (arith, late.1));
}

below_length : {A : Type 0} (n : ℕ) (xs ys : List A) (x : A) → drop n xs ≡ x ∷ ys → n < length xs
below_length n xs ys x e = omega (arith, ap length e, length-drop n xs)

page_tail : (n : ℕ) (b x : List ℕ) → spelled_record (page n b) ++ x ≡ 1 ∷ (digits 4 n ++ (b ++ x))
unfolding spelled_record
page_tail n b x = ap (λ (y : List ℕ). 1 ∷ y) (append_assoc (digits 4 n) b x)

zeros_tail : (n : ℕ) (x : List ℕ) → spelled_record (zero_page n) ++ x ≡ 6 ∷ (digits 4 n ++ x)
unfolding spelled_record
zeros_tail n x = ap (λ (y : List ℕ). 6 ∷ (y ++ x)) (append-nil (digits 4 n))

round_tail : (n : ℕ) (x : List ℕ) → spelled_record (round_end n) ++ x ≡ 3 ∷ (digits 4 n ++ x)
unfolding spelled_record
round_tail n x = refl

good_tail : (d n : ℕ) (b x : List ℕ) → spelled_record (sector d n (Some b)) ++ x ≡ 2 ∷ (d ∷ (digits 4 n ++ (1 ∷ (b ++ x))))
unfolding spelled_record
good_tail d n b x = ap (λ (y : List ℕ). 2 ∷ (d ∷ y)) (append_assoc (digits 4 n) (1 ∷ b) x)

bad_tail : (d n : ℕ) (x : List ℕ) → spelled_record (sector d n None) ++ x ≡ 2 ∷ (d ∷ (digits 4 n ++ (0 ∷ x)))
unfolding spelled_record
bad_tail d n x = ap (λ (y : List ℕ). 2 ∷ (d ∷ y)) (append_assoc (digits 4 n) (0 ∷ []) x)

device_tail : (d : ℕ) (b x : List ℕ) → spelled_record (device d b) ++ x ≡ 4 ∷ (d ∷ (digits 4 (length b) ++ (b ++ x)))
unfolding spelled_record
device_tail d b x = ap (λ (y : List ℕ). 4 ∷ (d ∷ y)) (append_assoc (digits 4 (length b)) b x)

first_of : {A : Type 0} {x y : A} {xs ys : List A} → x ∷ xs ≡ y ∷ ys → x ≡ y
first_of e = cc

no_bad_number : (opening : Opened) (before : List Record) (tail more : List ℕ) (tag n : ℕ) → tail ≡ tag ∷ (digits 4 n ++ more) → n < 2 ^ 32 → n < opening.pages → (place : ℕ) → ¬ (IsBadPage opening before tail place)
no_bad_number opening before tail more tag n e fits below place h =
    let same = (number_same 4 n h.number more h.more fits h.fits (tail_same (sym e ∙ h.opens.whole))).0 in omega (arith, below, h.never, same)

no_bad_page : (opening : Opened) (before : List Record) (tail more : List ℕ) (n : ℕ) (b : List ℕ) → tail ≡ 1 ∷ (digits 4 n ++ (b ++ more)) → n < 2 ^ 32 → n < opening.pages → length b ≡ 4096 → is_zero_page opening.version b ≡ false
    → (place : ℕ) → ¬ (IsBadPage opening before tail place ⊎ IsLongZeros opening before tail place)
no_bad_page opening before tail more n b e fits below long has place (inl h) = no_bad_number opening before tail (b ++ more) 1 n e fits below place h
no_bad_page opening before tail more n b e fits below long has place (inr h) =
    let s = number_same 4 n h.number (b ++ more) (h.bytes ++ h.more) fits h.fits (tail_same (sym e ∙ h.opens.whole)) in
    let same = (split_same b h.bytes more h.more (long ∙ sym h.long) s.1).0 in
    not_both_ways (is_zero_page opening.version b) (ap (is_zero_page opening.version) same ∙ h.zeros) has

no_bad_zeros : (opening : Opened) (before : List Record) (tail more : List ℕ) (n : ℕ) → tail ≡ 6 ∷ (digits 4 n ++ more) → n < 2 ^ 32 → n < opening.pages
    → (place : ℕ) → ¬ (IsBadPage opening before tail place ⊎ IsLongZeros opening before tail place)
no_bad_zeros opening before tail more n e fits below place (inl h) = no_bad_number opening before tail more 6 n e fits below place h
no_bad_zeros opening before tail more n e fits below place (inr h) = let tag = head_same (sym e ∙ h.opens.whole) in omega (arith, tag)

no_bad_round : (opening : Opened) (before : List Record) (tail more : List ℕ) (n : ℕ) → tail ≡ 3 ∷ (digits 4 n ++ more) → n < 2 ^ 32 → n ≡ rounds before + 1 → (place : ℕ) → ¬ (IsBadRound opening before tail place)
no_bad_round opening before tail more n e fits next place h =
    let same = (number_same 4 n h.number more h.more fits h.fits (tail_same (sym e ∙ h.opens.whole))).0 in h.never (sym same ∙ next)

no_bad_sector : (opening : Opened) (before : List Record) (tail more : List ℕ) (d n mark : ℕ) → tail ≡ 2 ∷ (d ∷ (digits 4 n ++ (mark ∷ more))) → n < 2 ^ 32 → IsItemIn (opened_layout opening) (items.sector d n) → mark ≤ 1 → (place : ℕ) → ¬ (IsBadSector opening before tail place)
no_bad_sector opening before tail more d n mark e fits below few place h =
    let t = tail_same (sym e ∙ h.opens.whole) in
    let s = number_same 4 n h.number (mark ∷ more) (h.mark ∷ h.more) fits h.fits (tail_same t) in
    h.never (rw (sym (head_same t), sym s.0, sym (head_same s.1)) (below, few))

no_bad_device : (opening : Opened) (before : List Record) (tail more raw : List ℕ) (d : ℕ) → tail ≡ 4 ∷ (d ∷ (digits 4 (length raw) ++ (raw ++ more))) → IsNextDevice opening before d raw
    → (place : ℕ) → ¬ (IsBadDeviceHead opening before tail place ⊎ IsBadDeviceBody opening before tail place)
no_bad_device opening before tail more raw d e next place (inl h) =
    let few : length raw ≤ 131072 = omega (arith, ap length next.is.is, body_is_short (4096 * opening.pages) next.state next.is.sound) in
    let t = tail_same (sym e ∙ h.opens.whole) in
    let s = number_same 4 (length raw) h.len (raw ++ more) h.more (omega (arith, few)) h.fits (tail_same t) in
    h.never (record { next = sym (head_same t) ∙ next.next; few = omega (arith, few, s.0) })
no_bad_device opening before tail more raw d e next place (inr h) =
    let few : length raw ≤ 131072 = omega (arith, ap length next.is.is, body_is_short (4096 * opening.pages) next.state next.is.sound) in
    let t = tail_same (sym e ∙ h.opens.whole) in
    let s = number_same 4 (length raw) (length h.body) (raw ++ more) (h.body ++ h.more) (omega (arith, few)) (omega (arith, h.few)) (tail_same t) in
    let same = (split_same raw h.body more h.more s.0 s.1).0 in
    let there : drop d opening.shapes ≡ h.shape ∷ h.others = rw (next.next) h.here in
    let shape : next.shape ≡ h.shape = first_of (sym next.here ∙ there) in
    h.never next.state (rw (sym shape, sym same) next.is)

pub no_fault_here : (opening : Opened) (before : List Record) (tail x : List ℕ) (r : Record) → IsNextRecord opening before r → tail ≡ spelled_record r ++ x → (k : RecvError) (place : ℕ) → ¬ (IsFault opening before tail k place)
no_fault_here opening before tail x (page n b) f e =
    let t = e ∙ page_tail n b x in
    quiet opening before tail 1 _ (opens_early opening before tail 1 _ t (omega arith) (omega arith) f.may.1)
    (λ one. no_bad_page opening before tail x n b t f.spells.0 f.may.0 f.spells.1 f.has)
    (λ z. absurd (omega (arith, z))) (λ z. absurd (omega (arith, z))) (λ z. absurd (omega (arith, z))) (λ z. absurd (omega (arith, z)))
no_fault_here opening before tail x (sector d n (Some b)) f e =
    let t = e ∙ good_tail d n b x in
    quiet opening before tail 2 _ (opens_early opening before tail 2 _ t (omega arith) (omega arith) f.may.1)
    (λ z. absurd (no_page 2 (omega arith) (omega arith) z)) (λ two. no_bad_sector opening before tail (b ++ x) d n 1 t f.spells.1 f.may.0 (omega arith))
    (λ z. absurd (omega (arith, z))) (λ z. absurd (omega (arith, z))) (λ z. absurd (omega (arith, z)))
no_fault_here opening before tail x (sector d n None) f e =
    let t = e ∙ bad_tail d n x in
    quiet opening before tail 2 _ (opens_early opening before tail 2 _ t (omega arith) (omega arith) f.may.1)
    (λ z. absurd (no_page 2 (omega arith) (omega arith) z)) (λ two. no_bad_sector opening before tail x d n 0 t f.spells.1 f.may.0 (omega arith))
    (λ z. absurd (omega (arith, z))) (λ z. absurd (omega (arith, z))) (λ z. absurd (omega (arith, z)))
no_fault_here opening before tail x (round_end n) f e =
    let t = e ∙ round_tail n x in
    quiet opening before tail 3 _ (opens_early opening before tail 3 _ t (omega arith) (omega arith) f.may.1)
    (λ z. absurd (no_page 3 (omega arith) (omega arith) z)) (λ z. absurd (omega (arith, z)))
    (λ three. no_bad_round opening before tail x n t f.spells f.may.0) (λ z. absurd (omega (arith, z))) (λ z. absurd (omega (arith, z)))
no_fault_here opening before tail x (device d b) f e =
    let t = e ∙ device_tail d b x in
    let below = below_length d opening.shapes f.may.others f.may.shape f.may.here in
    quiet opening before tail 4 _ (record {
      whole = t;
      may = record { least = omega arith; most = omega arith; early = λ low. absurd (not_early 4 (omega arith) (omega arith) low); missing = λ four. omega (arith, below, f.may.next); since = λ six. absurd (omega (arith, six)) };
      complete = λ late. record { items = f.may.named; devices = λ five. absurd (omega (arith, five)) };
    })
    (λ z. absurd (no_page 4 (omega arith) (omega arith) z)) (λ z. absurd (omega (arith, z))) (λ z. absurd (omega (arith, z)))
    (λ four. no_bad_device opening before tail x b d t f.may) (λ z. absurd (omega (arith, z)))
no_fault_here opening before tail x (commit b) f e = absurd f.may
no_fault_here opening before tail x (zero_page n) f e =
    let t = e ∙ zeros_tail n x in
    quiet opening before tail 6 _ (opens_zeros opening before tail _ t f.may.1 f.has)
    (λ six. no_bad_zeros opening before tail x n t f.spells f.may.0)
    (λ z. absurd (omega (arith, z))) (λ z. absurd (omega (arith, z))) (λ z. absurd (omega (arith, z))) (λ z. absurd (omega (arith, z)))

longer_on : (opening : Opened) (before others : List Record) (tail rest : List ℕ) → AreGood opening [] others
    → ((r : Record) (y : List ℕ) → IsNextRecord opening before r → ¬ (tail ≡ spelled_record r ++ y)) → ((k : RecvError) (place : ℕ) → ¬ (IsFault opening before tail k place))
    → (more : List Record) → others ≡ before ++ more → tail ≡ texts more ++ rest → (k : RecvError) (place : ℕ) → ¬ (IsFault opening others rest k place)
unfolding texts
longer_on opening before others tail rest goods none quiets [] all left k place f =
    let same : others ≡ before = all ∙ append-nil before in
    quiets k place (rw (left, sym same) f)
longer_on opening before others tail rest goods none quiets (r ∷ more) all left k place f =
    none r (texts more ++ rest) (next_good opening [] before more r (rw all at goods)) (left ∙ append_assoc (spelled_record r) (texts more) rest)

longer_off : (opening : Opened) (before others : List Record) (tail rest : List ℕ) → AreGood opening [] before → ((k : RecvError) (place : ℕ) → ¬ (IsFault opening before tail k place))
    → (more : List Record) → before ≡ others ++ more → rest ≡ texts more ++ tail → (k : RecvError) (place : ℕ) → ¬ (IsFault opening others rest k place)
unfolding texts
longer_off opening before others tail rest good quiets [] all left k place f =
    let same : before ≡ others = all ∙ append-nil others in
    quiets k place (rw (sym left, same) f)
longer_off opening before others tail rest good quiets (r ∷ more) all left k place f =
    no_fault_here opening others rest (texts more ++ tail) r (next_good opening [] others more r (rw all at good)) (left ∙ append_assoc (spelled_record r) (texts more) tail) k place f

-- No record fault stands in bytes whose good records end where neither a good record nor a fault stands.
led_fault : (opening : Opened) (before others : List Record) (tail rest : List ℕ) → AreGood opening [] before → AreGood opening [] others
    → ((r : Record) (y : List ℕ) → IsNextRecord opening before r → ¬ (tail ≡ spelled_record r ++ y)) → ((k : RecvError) (place : ℕ) → ¬ (IsFault opening before tail k place))
    → LongerRecords before others tail rest ⊎ LongerRecords others before rest tail → (k : RecvError) (place : ℕ) → ¬ (IsFault opening others rest k place)
unfolding texts
led_fault opening before others tail rest good goods none quiets (inl l) k place f = longer_on opening before others tail rest goods none quiets l.more l.all l.left k place f
led_fault opening before others tail rest good goods none quiets (inr l) k place f = longer_off opening before others tail rest good quiets l.more l.all l.left k place f

-- Two headers of the same bytes, of machines whose RAM begins at one address.
pub one_opening : (bytes : List ℕ) (o p : Opened) (x y : List ℕ) → o.ram ≡ p.ram → BeginsOpened bytes o x → BeginsOpened bytes p y → (o ≡ p) × (x ≡ y)
one_opening bytes o p x y based a b =
    let t = begins_once {o = said_by o} {p = said_by p} a b in
    let same : opened o.ram (said_by o) ≡ opened p.ram (said_by p) = ap (λ (r : RamTerms). opened r (said_by o)) based ∙ ap (λ (h : Opening). opened p.ram h) t.0 in
    (same, t.1)

pub no_record_fault : (ram : RamTerms) (sizes bytes : List ℕ) (opening : Opened) (before : List Record) (tail : List ℕ) → IsFront ram sizes bytes opening before tail
    → ((r : Record) (y : List ℕ) → IsNextRecord opening before r → ¬ (tail ≡ spelled_record r ++ y)) → ((k : RecvError) (place : ℕ) → ¬ (IsFault opening before tail k place))
    → (k : RecvError) (at : ℕ) → ¬ (IsRecordFault ram sizes bytes k at)
no_record_fault ram sizes bytes opening before tail front none quiets k at h =
    let t = one_opening bytes h.opening opening (texts h.before ++ h.tail) (texts before ++ tail) (h.front.based ∙ sym front.based) h.front.begins front.begins in
    let goods : AreGood opening [] h.before = rw t.0 at h.front.good in
    let fault : IsFault opening h.before h.tail k h.place = rw t.0 at h.fault in
    led_fault opening before h.before tail h.tail front.good goods none quiets
    (records_led before h.before tail h.tail (good_spell opening [] before front.good) (good_spell opening [] h.before goods) (sym t.1)) k h.place fault
