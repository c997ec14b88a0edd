-- A fault stands at one place, and is one.
use Rattle.std.proofs.Common.{◌≡◌, ℕ, ◌+◌, ◌⊎◌, inl, inr, List, [], ◌∷◌, ◌++◌, length, refl, sym, ap, subst, ◌∙◌, append_assoc, append-nil, arith, ◌≤◌}
use Rattle.std.proofs.lemmas.List.{length-append}
use Rattle.std.specs.Prelude.{All}
use Rattle.std.specs.List.{AllByRecursion}
use Rattle.sha2.specs.Sha256.{sha256}
use Rattle.sha2.proofs.Facts256.{length-sha256}
use Rattle.guestmem.specs.Number.{number_at}
use Rattle.wire.specs.Header.{spelled_shapes}
use Rattle.receiver.specs.Opened.{Opened, opened_header, said_by, terms_at}
use Rattle.wire.specs.Header as told
use Rattle.wire.specs.Records.{Record, spelled_record}
use Rattle.wire.specs.Stream.{texts}
use Rattle.machine.specs.declared.limits.Limits.{Limits}
use Rattle.machine.specs.declared.shape.Shape.{Shape}
use Rattle.wire.proofs.PartLengths.{length_header}
use Rattle.wire.proofs.Spelling.{head_same, tail_same, split_same, number_same}
use Rattle.receiver.specs.Good.{AreGood, devices_in}
use Rattle.machine.specs.Shapes.{disk_sizes}
use Rattle.receiver.specs.Faults.{MayTag, IsComplete, IsLate, IsPageTag, Opens, IsBadTag, IsMissing, IsBadPage, IsLongZeros, IsBadSector, IsBadRound, IsBadDeviceHead, IsBadDeviceBody, IsBadDigest, IsTrailing, IsFault, IsRecordFault, IsMismatch, IsHeaderFault, Fault}
use Rattle.receiver.specs.declared.ram_terms.RamTerms.{RamTerms}
use Rattle.receiver.specs.declared.recv_error.RecvError.{RecvError}
use Rattle.receiver.specs.declared.recv_error.RecvError.TheVariants as errors
use Rattle.receiver.proofs.Quiet.{no_page}
use Rattle.receiver.proofs.Aligned.{one_opening, LongerRecords, records_led, good_spell, next_good, no_fault_here}
use Rattle.wire.specs.HeaderFaults.{IsBadMagic, IsBadVersion, IsBadCount, IsBadShape, IsNoShape, IsPlain, IsShapeFor, limits_in}
use Rattle.wire.specs.declared.header_error.HeaderError.TheVariants as heads
use Rattle.wire.proofs.HeaderParts.{are_sound, begun_without_fault, header_same, plain_not_bad, says_of, shapes_led, shapes_same, sound_behind, LongerShapes, bad_lengths, no_bad_spelled}
use Rattle.receiver.proofs.Heads.{no_header_fault}

abbrev pub Same : RecvError → ℕ → RecvError → ℕ → Type 0
Same k p j q = (k ≡ j) × (p ≡ q)

by_tag : (G : RecvError → ℕ → Type 0) (opening : Opened) (before : List Record) (tail : List ℕ) (tag : ℕ) (more : List ℕ) → Opens opening before tail tag more
    → (IsPageTag tag → (q : ℕ) → IsBadPage opening before tail q ⊎ IsLongZeros opening before tail q → G errors.BadPage q)
    → (tag ≡ 2 → (q : ℕ) → IsBadSector opening before tail q → G errors.BadSector q)
    → (tag ≡ 3 → (q : ℕ) → IsBadRound opening before tail q → G errors.BadRound q)
    → (tag ≡ 4 → (q : ℕ) → IsBadDeviceHead opening before tail q → G errors.BadDevice q) → (tag ≡ 4 → (q : ℕ) → IsBadDeviceBody opening before tail q → G errors.BadDevice q)
    → (tag ≡ 5 → (q : ℕ) → IsBadDigest opening before tail q → G errors.BadDigest q) → (tag ≡ 5 → (q : ℕ) → IsTrailing opening before tail q → G errors.Trailing q)
    → (j : RecvError) (q : ℕ) → IsFault opening before tail j q → G j q
by_tag G opening before tail tag more o p s r d b c t errors.BadTag q h = absurd (h.never (subst (MayTag opening.version (length opening.shapes) (devices_in before)) (head_same (sym o.whole ∙ h.whole)) o.may))
by_tag G opening before tail tag more o p s r d b c t errors.BadPage q (inl h) = p (subst IsPageTag (head_same (sym h.opens.whole ∙ o.whole)) h.names) q (inl h)
by_tag G opening before tail tag more o p s r d b c t errors.BadPage q (inr h) = p (inl (head_same (sym o.whole ∙ h.opens.whole))) q (inr h)
by_tag G opening before tail tag more o p s r d b c t errors.BadSector q h = s (head_same (sym o.whole ∙ h.opens.whole)) q h
by_tag G opening before tail tag more o p s r d b c t errors.BadRound q h = r (head_same (sym o.whole ∙ h.opens.whole)) q h
by_tag G opening before tail tag more o p s r d b c t errors.BadDevice q (inl h) = d (head_same (sym o.whole ∙ h.opens.whole)) q h
by_tag G opening before tail tag more o p s r d b c t errors.BadDevice q (inr h) = b (head_same (sym o.whole ∙ h.opens.whole)) q h
by_tag G opening before tail tag more o p s r d b c t errors.BadDigest q h = c (head_same (sym o.whole ∙ h.opens.whole)) q h
by_tag G opening before tail tag more o p s r d b c t errors.Missing q h = let same : tag ≡ h.tag = head_same (sym o.whole ∙ h.whole) in absurd (h.never (subst (IsComplete opening before) same (o.complete (subst IsLate (sym same) h.late))))
by_tag G opening before tail tag more o p s r d b c t errors.Trailing q h = t (head_same (sym o.whole ∙ h.opens.whole)) q h
by_tag G opening before tail tag more o p s r d b c t _ q h = absurd h

one_tag : (opening : Opened) (before : List Record) (tail : List ℕ) (p : ℕ) → IsBadTag opening before tail p → (j : RecvError) (q : ℕ) → IsFault opening before tail j q → Same errors.BadTag p j q
one_tag opening before tail p f errors.BadTag q h = (refl, f.there ∙ sym h.there)
one_tag opening before tail p f errors.BadPage q (inl h) = absurd (f.never (subst (MayTag opening.version (length opening.shapes) (devices_in before)) (head_same (sym h.opens.whole ∙ f.whole)) h.opens.may))
one_tag opening before tail p f errors.BadPage q (inr h) = absurd (f.never (subst (MayTag opening.version (length opening.shapes) (devices_in before)) (head_same (sym h.opens.whole ∙ f.whole)) h.opens.may))
one_tag opening before tail p f errors.BadSector q h = absurd (f.never (subst (MayTag opening.version (length opening.shapes) (devices_in before)) (head_same (sym h.opens.whole ∙ f.whole)) h.opens.may))
one_tag opening before tail p f errors.BadRound q h = absurd (f.never (subst (MayTag opening.version (length opening.shapes) (devices_in before)) (head_same (sym h.opens.whole ∙ f.whole)) h.opens.may))
one_tag opening before tail p f errors.BadDevice q (inl h) = absurd (f.never (subst (MayTag opening.version (length opening.shapes) (devices_in before)) (head_same (sym h.opens.whole ∙ f.whole)) h.opens.may))
one_tag opening before tail p f errors.BadDevice q (inr h) = absurd (f.never (subst (MayTag opening.version (length opening.shapes) (devices_in before)) (head_same (sym h.opens.whole ∙ f.whole)) h.opens.may))
one_tag opening before tail p f errors.BadDigest q h = absurd (f.never (subst (MayTag opening.version (length opening.shapes) (devices_in before)) (head_same (sym h.opens.whole ∙ f.whole)) h.opens.may))
one_tag opening before tail p f errors.Missing q h = absurd (f.never (subst (MayTag opening.version (length opening.shapes) (devices_in before)) (head_same (sym h.whole ∙ f.whole)) h.may))
one_tag opening before tail p f errors.Trailing q h = absurd (f.never (subst (MayTag opening.version (length opening.shapes) (devices_in before)) (head_same (sym h.opens.whole ∙ f.whole)) h.opens.may))
one_tag opening before tail p f _ q h = absurd h

one_missing : (opening : Opened) (before : List Record) (tail : List ℕ) (p : ℕ) → IsMissing opening before tail p → (j : RecvError) (q : ℕ) → IsFault opening before tail j q → Same errors.Missing p j q
one_missing opening before tail p f errors.BadTag q h = absurd (h.never (subst (MayTag opening.version (length opening.shapes) (devices_in before)) (head_same (sym f.whole ∙ h.whole)) f.may))
one_missing opening before tail p f errors.BadPage q (inl h) = let same = head_same (sym h.opens.whole ∙ f.whole) in absurd (f.never (subst (IsComplete opening before) same (h.opens.complete (subst IsLate (sym same) f.late))))
one_missing opening before tail p f errors.BadPage q (inr h) = let same = head_same (sym h.opens.whole ∙ f.whole) in absurd (f.never (subst (IsComplete opening before) same (h.opens.complete (subst IsLate (sym same) f.late))))
one_missing opening before tail p f errors.BadSector q h = let same = head_same (sym h.opens.whole ∙ f.whole) in absurd (f.never (subst (IsComplete opening before) same (h.opens.complete (subst IsLate (sym same) f.late))))
one_missing opening before tail p f errors.BadRound q h = let same = head_same (sym h.opens.whole ∙ f.whole) in absurd (f.never (subst (IsComplete opening before) same (h.opens.complete (subst IsLate (sym same) f.late))))
one_missing opening before tail p f errors.BadDevice q (inl h) = let same = head_same (sym h.opens.whole ∙ f.whole) in absurd (f.never (subst (IsComplete opening before) same (h.opens.complete (subst IsLate (sym same) f.late))))
one_missing opening before tail p f errors.BadDevice q (inr h) = let same = head_same (sym h.opens.whole ∙ f.whole) in absurd (f.never (subst (IsComplete opening before) same (h.opens.complete (subst IsLate (sym same) f.late))))
one_missing opening before tail p f errors.BadDigest q h = let same = head_same (sym h.opens.whole ∙ f.whole) in absurd (f.never (subst (IsComplete opening before) same (h.opens.complete (subst IsLate (sym same) f.late))))
one_missing opening before tail p f errors.Missing q h = (refl, f.there ∙ sym h.there)
one_missing opening before tail p f errors.Trailing q h = let same = head_same (sym h.opens.whole ∙ f.whole) in absurd (f.never (subst (IsComplete opening before) same (h.opens.complete (subst IsLate (sym same) f.late))))
one_missing opening before tail p f _ q h = absurd h

head_body : (opening : Opened) (before : List Record) (tail : List ℕ) (p q : ℕ) → IsBadDeviceHead opening before tail p → IsBadDeviceBody opening before tail q → ⊥
head_body opening before tail p q f h =
    let t = tail_same (sym f.opens.whole ∙ h.opens.whole) in
    let s = number_same 4 f.len (length h.body) f.more (h.body ++ h.more) f.fits (omega (arith, h.few)) (tail_same t) in
    f.never (record { next = head_same t; few = omega (arith, h.few, s.0) })

body_body : (opening : Opened) (before : List Record) (tail : List ℕ) (p q : ℕ) → IsBadDeviceBody opening before tail p → IsBadDeviceBody opening before tail q → p ≡ q
body_body opening before tail p q f h =
    let t = tail_same (sym f.opens.whole ∙ h.opens.whole) in
    let s = number_same 4 (length f.body) (length h.body) (f.body ++ f.more) (h.body ++ h.more) (omega (arith, f.few)) (omega (arith, h.few)) (tail_same t) in
    omega (arith, f.there, h.there, s.0)

digest_trailing : (opening : Opened) (before : List Record) (tail : List ℕ) (p q : ℕ) → IsBadDigest opening before tail p → IsTrailing opening before tail q → ⊥
digest_trailing opening before tail p q f h =
    let t : f.digest ++ f.more ≡ sha256 (opened_header opening ++ texts before) ++ (h.byte ∷ h.more) = tail_same (sym f.opens.whole ∙ h.opens.whole) in
    f.never (split_same f.digest (sha256 (opened_header opening ++ texts before)) f.more (h.byte ∷ h.more) (f.long ∙ sym (length-sha256 (opened_header opening ++ texts before))) t).0

page_not : (tag : ℕ) → IsPageTag tag → (t : ℕ) → 2 ≤ t → t ≤ 5 → tag ≡ t → ⊥
page_not tag names t low high e = no_page t low high (subst IsPageTag e names)

zeros_number : (opening : Opened) (before : List Record) (tail : List ℕ) (p q : ℕ) → IsBadPage opening before tail p → IsLongZeros opening before tail q → ⊥
zeros_number opening before tail p q f h =
    let s = number_same 4 f.number h.number f.more (h.bytes ++ h.more) f.fits h.fits (tail_same (sym f.opens.whole ∙ h.opens.whole)) in
    omega (arith, s.0, f.never, h.within)

page_page : (opening : Opened) (before : List Record) (tail : List ℕ) (p q : ℕ) → IsBadPage opening before tail p → IsBadPage opening before tail q ⊎ IsLongZeros opening before tail q → p ≡ q
page_page opening before tail p q f (inl h) = f.there ∙ sym h.there
page_page opening before tail p q f (inr h) = absurd (zeros_number opening before tail p q f h)

zeros_page : (opening : Opened) (before : List Record) (tail : List ℕ) (p q : ℕ) → IsLongZeros opening before tail p → IsBadPage opening before tail q ⊎ IsLongZeros opening before tail q → p ≡ q
zeros_page opening before tail p q f (inl h) = absurd (zeros_number opening before tail q p h f)
zeros_page opening before tail p q f (inr h) = f.there ∙ sym h.there

one_local : (opening : Opened) (before : List Record) (tail : List ℕ) (k : RecvError) (p : ℕ) → IsFault opening before tail k p → (j : RecvError) (q : ℕ) → IsFault opening before tail j q → Same k p j q
one_local opening before tail errors.BadTag p f = one_tag opening before tail p f
one_local opening before tail errors.BadPage p (inl f) = by_tag (λ j q. Same errors.BadPage p j q) opening before tail f.tag _ f.opens (λ z q h. (refl, page_page opening before tail p q f h)) (λ z q h. absurd (page_not f.tag f.names 2 (omega arith) (omega arith) z)) (λ z q h. absurd (page_not f.tag f.names 3 (omega arith) (omega arith) z)) (λ z q h. absurd (page_not f.tag f.names 4 (omega arith) (omega arith) z)) (λ z q h. absurd (page_not f.tag f.names 4 (omega arith) (omega arith) z)) (λ z q h. absurd (page_not f.tag f.names 5 (omega arith) (omega arith) z)) (λ z q h. absurd (page_not f.tag f.names 5 (omega arith) (omega arith) z))
one_local opening before tail errors.BadPage p (inr f) = by_tag (λ j q. Same errors.BadPage p j q) opening before tail 1 _ f.opens (λ z q h. (refl, zeros_page opening before tail p q f h)) (λ z q h. absurd (omega (arith, z))) (λ z q h. absurd (omega (arith, z))) (λ z q h. absurd (omega (arith, z))) (λ z q h. absurd (omega (arith, z))) (λ z q h. absurd (omega (arith, z))) (λ z q h. absurd (omega (arith, z)))
one_local opening before tail errors.BadSector p f = by_tag (λ j q. Same errors.BadSector p j q) opening before tail 2 _ f.opens (λ z q h. absurd (no_page 2 (omega arith) (omega arith) z)) (λ z q h. (refl, f.there ∙ sym h.there)) (λ z q h. absurd (omega (arith, z))) (λ z q h. absurd (omega (arith, z))) (λ z q h. absurd (omega (arith, z))) (λ z q h. absurd (omega (arith, z))) (λ z q h. absurd (omega (arith, z)))
one_local opening before tail errors.BadRound p f = by_tag (λ j q. Same errors.BadRound p j q) opening before tail 3 _ f.opens (λ z q h. absurd (no_page 3 (omega arith) (omega arith) z)) (λ z q h. absurd (omega (arith, z))) (λ z q h. (refl, f.there ∙ sym h.there)) (λ z q h. absurd (omega (arith, z))) (λ z q h. absurd (omega (arith, z))) (λ z q h. absurd (omega (arith, z))) (λ z q h. absurd (omega (arith, z)))
one_local opening before tail errors.BadDevice p (inl f) = by_tag (λ j q. Same errors.BadDevice p j q) opening before tail 4 _ f.opens (λ z q h. absurd (no_page 4 (omega arith) (omega arith) z)) (λ z q h. absurd (omega (arith, z))) (λ z q h. absurd (omega (arith, z))) (λ z q h. (refl, f.there ∙ sym h.there)) (λ z q h. absurd (head_body opening before tail p q f h)) (λ z q h. absurd (omega (arith, z))) (λ z q h. absurd (omega (arith, z)))
one_local opening before tail errors.BadDevice p (inr f) = by_tag (λ j q. Same errors.BadDevice p j q) opening before tail 4 _ f.opens (λ z q h. absurd (no_page 4 (omega arith) (omega arith) z)) (λ z q h. absurd (omega (arith, z))) (λ z q h. absurd (omega (arith, z))) (λ z q h. absurd (head_body opening before tail q p h f)) (λ z q h. (refl, body_body opening before tail p q f h)) (λ z q h. absurd (omega (arith, z))) (λ z q h. absurd (omega (arith, z)))
one_local opening before tail errors.BadDigest p f = by_tag (λ j q. Same errors.BadDigest p j q) opening before tail 5 _ f.opens (λ z q h. absurd (no_page 5 (omega arith) (omega arith) z)) (λ z q h. absurd (omega (arith, z))) (λ z q h. absurd (omega (arith, z))) (λ z q h. absurd (omega (arith, z))) (λ z q h. absurd (omega (arith, z))) (λ z q h. (refl, f.there ∙ sym h.there)) (λ z q h. absurd (digest_trailing opening before tail p q f h))
one_local opening before tail errors.Missing p f = one_missing opening before tail p f
one_local opening before tail errors.Trailing p f = by_tag (λ j q. Same errors.Trailing p j q) opening before tail 5 _ f.opens (λ z q h. absurd (no_page 5 (omega arith) (omega arith) z)) (λ z q h. absurd (omega (arith, z))) (λ z q h. absurd (omega (arith, z))) (λ z q h. absurd (omega (arith, z))) (λ z q h. absurd (omega (arith, z))) (λ z q h. absurd (digest_trailing opening before tail q p h f)) (λ z q h. (refl, f.there ∙ sym h.there))
one_local opening before tail _ p f = absurd f

longer_one : (opening : Opened) (before others : List Record) (tail rest : List ℕ) (k j : RecvError) (p q : ℕ) → AreGood opening [] others → IsFault opening before tail k p → IsFault opening others rest j q
    → (more : List Record) → others ≡ before ++ more → tail ≡ texts more ++ rest → (k ≡ j) × (length (texts before) + p ≡ length (texts others) + q)
unfolding texts
longer_one opening before others tail rest k j p q goods f h [] all left =
    let same : others ≡ before = all ∙ append-nil before in
    let there : IsFault opening before tail j q = rw (left, sym same) h in
    let one = one_local opening before tail k p f j q there in
    (one.0, omega (arith, one.1, ap (λ (x : List Record). length (texts x)) same))
longer_one opening before others tail rest k j p q goods f h (r ∷ more) all left =
    absurd (no_fault_here opening before tail (texts more ++ rest) r (next_good opening [] before more r (rw all at goods)) (left ∙ append_assoc (spelled_record r) (texts more) rest) k p f)

led_one : (opening : Opened) (before others : List Record) (tail rest : List ℕ) (k j : RecvError) (p q : ℕ) → AreGood opening [] before → AreGood opening [] others → IsFault opening before tail k p → IsFault opening others rest j q
    → LongerRecords before others tail rest ⊎ LongerRecords others before rest tail → (k ≡ j) × (length (texts before) + p ≡ length (texts others) + q)
led_one opening before others tail rest k j p q good goods f h (inl l) = longer_one opening before others tail rest k j p q goods f h l.more l.all l.left
led_one opening before others tail rest k j p q good goods f h (inr l) = let o = longer_one opening others before rest tail j k q p good h f l.more l.all l.left in (sym o.0, sym o.1)

one_record_fault : (ram : RamTerms) (sizes bytes : List ℕ) (k j : RecvError) (at bt : ℕ) → IsRecordFault ram sizes bytes k at → IsRecordFault ram sizes bytes j bt → Same k at j bt
one_record_fault ram sizes bytes k j at bt f h =
    let t = one_opening bytes h.opening f.opening (texts h.before ++ h.tail) (texts f.before ++ f.tail) (h.front.based ∙ sym f.front.based) h.front.begins f.front.begins in
    let goods : AreGood f.opening [] h.before = rw t.0 at h.front.good in
    let fault : IsFault f.opening h.before h.tail j h.place = rw t.0 at h.fault in
    let one = led_one f.opening f.before h.before f.tail h.tail k j f.place h.place f.front.good goods f.fault fault
    (records_led f.before h.before f.tail h.tail (good_spell f.opening [] f.before f.front.good) (good_spell f.opening [] h.before goods) (sym t.1)) in
    let heads : length (opened_header h.opening) ≡ length (opened_header f.opening) = ap (λ (o : Opened). length (opened_header o)) t.0 in
    (one.0, omega (arith, one.1, heads, f.there, h.there, length-append (opened_header f.opening) (texts f.before), length-append (opened_header h.opening) (texts h.before)))

-- Headers.

bad_first : (limits : Limits) (ss : List Shape) (bad other x y : List ℕ) → AllByRecursion (IsShapeFor limits) ss → IsNoShape limits bad → IsNoShape limits other → bad ++ x ≡ spelled_shapes ss ++ (other ++ y) → (ss ≡ []) × (length bad ≡ length other)
bad_first limits [] bad other x y good n m e = (refl, bad_lengths limits bad other x y n m e)
bad_first limits (s ∷ ss) bad other x y good n m e = absurd (no_bad_spelled limits s bad x (spelled_shapes ss ++ (other ++ y)) good.0 n (e ∙ append_assoc _ (spelled_shapes ss) (other ++ y)))

shapes_one : (limits : Limits) (ss ts : List Shape) (bad other x y : List ℕ) → All (IsShapeFor limits) ss → All (IsShapeFor limits) ts → IsNoShape limits bad → IsNoShape limits other → LongerShapes ss ts (bad ++ x) (other ++ y) ⊎ LongerShapes ts ss (other ++ y) (bad ++ x) → (length (spelled_shapes ss) + length bad ≡ length (spelled_shapes ts) + length other)
shapes_one limits ss ts bad other x y h k n m (inl l) =
    let o = bad_first limits l.more bad other x y (sound_behind (IsShapeFor limits) ss l.more ts l.all k) n m l.left in
    let same : ts ≡ ss = l.all ∙ ap (λ (z : List Shape). ss ++ z) o.0 ∙ append-nil ss in
    omega (arith, o.1, ap (λ (z : List Shape). length (spelled_shapes z)) same)
shapes_one limits ss ts bad other x y h k n m (inr l) =
    let o = bad_first limits l.more other bad y x (sound_behind (IsShapeFor limits) ts l.more ss l.all h) m n l.left in
    let same : ss ≡ ts = l.all ∙ ap (λ (z : List Shape). ts ++ z) o.0 ∙ append-nil ts in
    omega (arith, o.1, ap (λ (z : List Shape). length (spelled_shapes z)) same)

one_magic : (ram : RamTerms) (sizes bytes : List ℕ) (p : ℕ) → IsBadMagic bytes p → (j : RecvError) (q : ℕ) → IsHeaderFault ram sizes bytes j q → Same errors.BadMagic p j q
one_magic ram sizes bytes p f errors.BadMagic q h = (refl, f.there ∙ sym h.there)
one_magic ram sizes bytes p f errors.BadVersion q (inl h) = absurd (f.never h.magic)
one_magic ram sizes bytes p f errors.BadVersion q (inr h) = absurd (f.never h.says.magic)
one_magic ram sizes bytes p f errors.BadShape q (inl h) = absurd (f.never h.says.magic)
one_magic ram sizes bytes p f errors.BadShape q (inr h) = absurd (f.never h.says.magic)
one_magic ram sizes bytes p f errors.ShapeMismatch q h = absurd (f.never (says_of h.begins).magic)
one_magic ram sizes bytes p f _ q h = absurd h

one_version : (ram : RamTerms) (sizes bytes : List ℕ) (p : ℕ) → IsBadVersion ram.limits bytes p → (j : RecvError) (q : ℕ) → IsHeaderFault ram sizes bytes j q → Same errors.BadVersion p j q
one_version ram sizes bytes p f errors.BadMagic q h = absurd (h.never f.magic)
one_version ram sizes bytes p f errors.BadVersion q (inl h) = (refl, f.there ∙ sym h.there)
one_version ram sizes bytes p f errors.BadVersion q (inr h) = absurd (f.never h.says.known)
one_version ram sizes bytes p f errors.BadShape q (inl h) = absurd (f.never h.says.known)
one_version ram sizes bytes p f errors.BadShape q (inr h) = absurd (f.never h.says.known)
one_version ram sizes bytes p f errors.ShapeMismatch q h = absurd (begun_without_fault ram.limits bytes h.opening h.more h.within h.begins heads.BadVersion p (inl f))
one_version ram sizes bytes p f _ q h = absurd h

plain_place : (l : Limits) (bytes : List ℕ) (p q : ℕ) → IsPlain l bytes p → IsPlain l bytes q → p ≡ q
plain_place l bytes p q f h =
    let count : length f.shapes ≡ length h.shapes = sym f.says.count_is ∙ h.says.count_is in
    let led = shapes_led f.shapes h.shapes f.more h.more (are_sound l f.shapes f.sound) (are_sound l h.shapes h.sound) (sym f.whole ∙ h.whole) in
    let same = shapes_same f.shapes h.shapes f.more h.more count led in
    omega (arith, f.there, h.there, ap (λ (ss : List Shape). length (spelled_shapes ss)) same)

one_plain : (ram : RamTerms) (sizes bytes : List ℕ) (p : ℕ) → IsPlain ram.limits bytes p → (j : RecvError) (q : ℕ) → IsHeaderFault ram sizes bytes j q → Same errors.BadVersion p j q
one_plain ram sizes bytes p f errors.BadMagic q h = absurd (h.never f.says.magic)
one_plain ram sizes bytes p f errors.BadVersion q (inl h) = absurd (h.never f.says.known)
one_plain ram sizes bytes p f errors.BadVersion q (inr h) = (refl, plain_place ram.limits bytes p q f h)
one_plain ram sizes bytes p f errors.BadShape q (inl h) = absurd (h.never (rw (sym h.says.pages_are ∙ f.says.pages_are, sym h.says.count_is ∙ f.says.count_is) f.may))
one_plain ram sizes bytes p f errors.BadShape q (inr h) = absurd (plain_not_bad ram.limits bytes p q f h)
one_plain ram sizes bytes p f errors.ShapeMismatch q h = absurd (begun_without_fault ram.limits bytes h.opening h.more h.within h.begins heads.BadVersion p (inr f))
one_plain ram sizes bytes p f _ q h = absurd h

one_count : (ram : RamTerms) (sizes bytes : List ℕ) (p : ℕ) → IsBadCount ram.limits bytes p → (j : RecvError) (q : ℕ) → IsHeaderFault ram sizes bytes j q → Same errors.BadShape p j q
one_count ram sizes bytes p f errors.BadMagic q h = absurd (h.never f.says.magic)
one_count ram sizes bytes p f errors.BadVersion q (inl h) = absurd (h.never f.says.known)
one_count ram sizes bytes p f errors.BadVersion q (inr h) = absurd (f.never (rw (sym f.says.pages_are ∙ h.says.pages_are, sym f.says.count_is ∙ h.says.count_is) h.may))
one_count ram sizes bytes p f errors.BadShape q (inl h) = (refl, f.there ∙ sym h.there)
one_count ram sizes bytes p f errors.BadShape q (inr h) = absurd (f.never (rw (sym f.says.pages_are ∙ h.says.pages_are, sym f.says.count_is ∙ h.says.count_is) h.may))
one_count ram sizes bytes p f errors.ShapeMismatch q h = absurd (no_header_fault (terms_at (record { base = 0; limits = ram.limits })) (disk_sizes h.opening.shapes) bytes h.opening h.more h.begins h.within refl tt errors.BadShape p (inl f))
one_count ram sizes bytes p f _ q h = absurd h

one_shape_fault : (ram : RamTerms) (sizes bytes : List ℕ) (p : ℕ) → IsBadShape ram.limits bytes p → (j : RecvError) (q : ℕ) → IsHeaderFault ram sizes bytes j q → Same errors.BadShape p j q
one_shape_fault ram sizes bytes p f errors.BadMagic q h = absurd (h.never f.says.magic)
one_shape_fault ram sizes bytes p f errors.BadVersion q (inl h) = absurd (h.never f.says.known)
one_shape_fault ram sizes bytes p f errors.BadVersion q (inr h) = absurd (plain_not_bad ram.limits bytes q p h f)
one_shape_fault ram sizes bytes p f errors.BadShape q (inl h) = absurd (h.never (rw (sym h.says.pages_are ∙ f.says.pages_are, sym h.says.count_is ∙ f.says.count_is) f.may))
one_shape_fault ram sizes bytes p f errors.BadShape q (inr h) =
    let limits = limits_in (number_at bytes 4 4) ram.limits in
    (refl, omega (arith, f.there, h.there, shapes_one limits f.shapes h.shapes f.bad h.bad f.more h.more f.sound h.sound f.never h.never (shapes_led f.shapes h.shapes (f.bad ++ f.more) (h.bad ++ h.more) (are_sound limits f.shapes f.sound) (are_sound limits h.shapes h.sound) (sym f.whole ∙ h.whole))))
one_shape_fault ram sizes bytes p f errors.ShapeMismatch q h = absurd (no_header_fault (terms_at (record { base = 0; limits = ram.limits })) (disk_sizes h.opening.shapes) bytes h.opening h.more h.begins h.within refl tt errors.BadShape p (inr f))
one_shape_fault ram sizes bytes p f _ q h = absurd h

header_length : {bytes x y : List ℕ} {o p : told.Opening} → told.Begins bytes o x → told.Begins bytes p y → length (told.header o) ≡ length (told.header p)
header_length {o = o} {p = p} a b = omega (arith, length_header o, length_header p, ap (λ (z : List Shape). length (spelled_shapes z)) (header_same a b))

one_mismatch : (ram : RamTerms) (sizes bytes : List ℕ) (p : ℕ) → IsMismatch ram sizes bytes p → (j : RecvError) (q : ℕ) → IsHeaderFault ram sizes bytes j q → Same errors.ShapeMismatch p j q
one_mismatch ram sizes bytes p f errors.BadMagic q h = absurd (h.never (says_of f.begins).magic)
one_mismatch ram sizes bytes p f errors.BadVersion q h = absurd (begun_without_fault ram.limits bytes f.opening f.more f.within f.begins heads.BadVersion q h)
one_mismatch ram sizes bytes p f errors.BadShape q (inl h) = absurd (no_header_fault (terms_at (record { base = 0; limits = ram.limits })) (disk_sizes f.opening.shapes) bytes f.opening f.more f.begins f.within refl tt errors.BadShape q (inl h))
one_mismatch ram sizes bytes p f errors.BadShape q (inr h) = absurd (no_header_fault (terms_at (record { base = 0; limits = ram.limits })) (disk_sizes f.opening.shapes) bytes f.opening f.more f.begins f.within refl tt errors.BadShape q (inr h))
one_mismatch ram sizes bytes p f errors.ShapeMismatch q h = (refl, f.there ∙ header_length f.begins h.begins ∙ sym h.there)
one_mismatch ram sizes bytes p f _ q h = absurd h

one_header_fault : (ram : RamTerms) (sizes bytes : List ℕ) (k : RecvError) (p : ℕ) → IsHeaderFault ram sizes bytes k p → (j : RecvError) (q : ℕ) → IsHeaderFault ram sizes bytes j q → Same k p j q
one_header_fault ram sizes bytes errors.BadMagic p f = one_magic ram sizes bytes p f
one_header_fault ram sizes bytes errors.BadVersion p (inl f) = one_version ram sizes bytes p f
one_header_fault ram sizes bytes errors.BadVersion p (inr f) = one_plain ram sizes bytes p f
one_header_fault ram sizes bytes errors.BadShape p (inl f) = one_count ram sizes bytes p f
one_header_fault ram sizes bytes errors.BadShape p (inr f) = one_shape_fault ram sizes bytes p f
one_header_fault ram sizes bytes errors.ShapeMismatch p f = one_mismatch ram sizes bytes p f
one_header_fault ram sizes bytes _ p f = absurd f

pub one_fault : (ram : RamTerms) (sizes bytes : List ℕ) (k j : RecvError) (at bt : ℕ) → Fault ram sizes bytes k at → Fault ram sizes bytes j bt → Same k at j bt
one_fault ram sizes bytes k j at bt (inl f) (inl h) = one_header_fault ram sizes bytes k at f j bt h
one_fault ram sizes bytes k j at bt (inl f) (inr h) = absurd (no_header_fault ram sizes bytes (said_by h.opening) (texts h.before ++ h.tail) h.front.begins h.front.within h.front.fits h.front.suits k at f)
one_fault ram sizes bytes k j at bt (inr f) (inl h) = absurd (no_header_fault ram sizes bytes (said_by f.opening) (texts f.before ++ f.tail) f.front.begins f.front.within f.front.fits f.front.suits j bt h)
one_fault ram sizes bytes k j at bt (inr f) (inr h) = one_record_fault ram sizes bytes k j at bt f h
