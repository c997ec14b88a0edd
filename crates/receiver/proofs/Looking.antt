-- A look at bytes, and the bytes of a piece.
use Rattle.std.proofs.Common.{◌≡◌, ℕ, ◌+◌, ◌≤◌, Bool, true, false, List, [], ◌∷◌, ◌++◌, length, take, drop, refl, sym, ap, subst, ◌∙◌, append-nil, arith}
use Rattle.std.specs.Prelude.{Result, Ok, Err}
use Rattle.std.proofs.lemmas.List.{drop-drop}
use Rattle.receiver.specs.Sums.{Sums}
use Rattle.blk.specs.Disk.{DiskState}
use Rattle.machine.specs.Room.{RoomSeen}
use Rattle.receiver.specs.Sums.{Summed}
use Rattle.receiver.specs.Disks.{AreKept, AreRefused, sizes_in}
use Rattle.receiver.specs.Faults.{Fault, WaitsHead}
use Rattle.receiver.specs.Fed.{IsKnownIn, IsUpTo, Tells}
use Rattle.receiver.specs.Reading.{StandsAside, LookedAt, HeaderAt, ReadsHeader, TakesPiece}
use Rattle.receiver.specs.Receiving.{HasDevice, IsKnown, IsPastHead, Knows, ReaderSeen, has_failed, is_head, place_in}
use Rattle.receiver.specs.declared.intake.Intake.{Intake}
use Rattle.receiver.specs.declared.ram_terms.RamTerms.{RamTerms}
use Rattle.receiver.specs.declared.recv_error.RecvError.{RecvError}
use Rattle.receiver.specs.declared.recv_error.RecvError.TheVariants as errors
use Rattle.receiver.specs.declared.stage.Stage.{Stage}
use Rattle.receiver.specs.declared.stage.Stage.TheVariants as stages
use Rattle.receiver.proofs.Feeding.{true_false}
use Rattle.receiver.proofs.Working.{cut, kept, more_taken, refused_kept, tells_more}

pub head_is : (stage : Stage) → is_head stage ≡ true → stage ≡ stages.Head
head_is stages.Head e = refl
head_is (stages.Records i) e = absurd cc
head_is stages.Failed e = absurd cc

pub failed_is : (stage : Stage) → has_failed stage ≡ true → stage ≡ stages.Failed
failed_is stages.Head e = absurd cc
failed_is (stages.Records i) e = absurd cc
failed_is stages.Failed e = refl

-- At the head nothing is past it, and nothing failed.
pub head_not_past : (stage : Stage) → stage ≡ stages.Head → IsPastHead stage → ⊥
head_not_past stage e past = subst IsPastHead e past

pub head_not_failed : (stage : Stage) → stage ≡ stages.Head → has_failed stage ≡ false
head_not_failed stage e = ap has_failed e

-- The header was read before, or is not whole.
pub not_opened : (r : ReaderSeen) (bytes : List ℕ) → (r.stage ≡ stages.Head → WaitsHead r.ram.limits bytes × (length bytes ≤ 495)) → ReadsHeader r bytes (Ok 0) r
not_opened r bytes waits = record {
  ram = refl;
  disks = refl;
  within = omega arith;
  few = λ head. (waits head).1;
  place = refl;
  later = λ past. (refl, refl);
  failed = λ f. (refl, refl);
  stays = tt;
  waits = λ head. refl;
  says = λ x h. h;
  opened = λ held head k. subst (λ (stage : Stage). HeaderAt r bytes (Ok 0) r stage) (sym head) (refl, (waits head).0, refl);
}

-- The header is refused. The RAM stands where it stood.
pub open_refused : (r new : ReaderSeen) (bytes : List ℕ) (e : RecvError) → r.stage ≡ stages.Head → new.ram ≡ r.ram → new.disks ≡ r.disks → new.stage ≡ r.stage → new.aside ≡ r.aside → new ≡ r
    → AreRefused r.disks r.disks e × Tells e ((at : ℕ) × Fault r.ram (sizes_in r.disks) bytes e at) → ReadsHeader r bytes (Err e) new
open_refused r new bytes e head ram disks stage aside same t = record {
  ram = ram;
  disks = disks;
  within = tt;
  few = tt;
  place = ap (λ a. place_in a new.stage) aside ∙ ap (place_in r.aside) stage;
  later = λ past. absurd (head_not_past r.stage head past);
  failed = λ f. absurd (true_false _ f (head_not_failed r.stage head));
  stays = same;
  waits = tt;
  says = tt;
  opened = λ held h k. (subst (λ (ds : List DiskState). AreRefused r.disks ds e) (sym disks) t.0, t.1);
}

-- What is known of an intake is known of what it has taken in.
pub up_to : (ended : Bool) (ram : RamTerms) (ds : List DiskState) (digest : Summed) (front held : List ℕ) (i : Intake) → IsKnownIn ended ram ds digest front held i → IsUpTo ended ram ds digest front i
up_to false ram ds digest front held i k = (k.0, record { opening = k.1.opening; based = k.1.based; before = k.1.open_at.before; read = k.1.open_at.read })
up_to true ram ds digest front held i k = k.1

-- After a refusal the bytes that are told of are the same.
pub piece_of_nothing : (r : ReaderSeen) (before piece : List ℕ) (had : ℕ) → length piece ≡ 0 → length before ≤ 131077 → has_failed r.stage ≡ false → TakesPiece r before had piece (Ok 0) r before had
piece_of_nothing r before piece had none few on = record {
  ram = refl;
  few = few;
  shorter = omega arith;
  roomy = λ roomy. roomy;
  failed = tt;
  place = refl;
  already = λ f. absurd (true_false _ f on);
  says = λ x h. h;
  memory = λ roomy front k clear past e. absurd cc;
  waits = λ head. record { disks = refl; aside = refl };
  untouched = tt;
  took = λ front k clear. (kept r.disks, record { front = front; whole = ap (λ (x : List ℕ). front ++ x) (no_more before piece none); known = k });
}
  where
    no_more : (xs ys : List ℕ) → length ys ≡ 0 → xs ++ ys ≡ xs
    no_more xs [] e = append-nil xs
    no_more xs (y ∷ ys) e = absurd (omega (arith, e))

pub piece_refused_again : (r : ReaderSeen) (before piece : List ℕ) (had : ℕ) → has_failed r.stage ≡ true → TakesPiece r before had piece (Err errors.AlreadyFailed) r before had
piece_refused_again r before piece had failed = record {
  ram = refl;
  few = tt;
  shorter = tt;
  roomy = λ roomy. tt;
  failed = failed;
  place = refl;
  already = λ f. (refl, refl);
  says = tt;
  memory = λ roomy front k clear past e. absurd cc;
  waits = tt;
  untouched = λ roomy front k clear never. record { disks = refl; aside = refl };
  took = λ front k clear. absurd (subst (λ (stage : Stage). IsKnown r.ram r.disks r.digest front before stage) (failed_is r.stage failed) k);
}

-- What was taken in when the records behind the header are looked at.
ready_at : (old mid : ReaderSeen) (front held bytes : List ℕ) (start : ℕ) (i : Intake) (stage : Stage) → old.stage ≡ stage → IsKnown old.ram old.disks old.digest front held stage → ReadsHeader old bytes (Ok start) mid → mid.stage ≡ stages.Records i
    → IsUpTo i.ended mid.ram mid.disks mid.digest (front ++ take start bytes) i
ready_at old mid front held bytes start i stages.Head is k o at =
    let knows : Knows old [] held = subst (λ (stage : Stage). IsKnown old.ram old.disks old.digest [] held stage) (sym is) (refl, k.1, k.2) in
    let opened : HeaderAt old bytes (Ok start) mid (stages.Records i) = subst (λ (stage : Stage). HeaderAt old bytes (Ok start) mid stage) at (o.opened held is knows) in
    subst (λ (x : List ℕ). IsUpTo i.ended mid.ram mid.disks mid.digest (x ++ take start bytes) i) (sym k.0) opened
ready_at old mid front held bytes start i (stages.Records j) is k o at =
    let later = o.later (subst IsPastHead (sym is) tt) in
    let none : start ≡ 0 = (let one : (◌≡◌ {A = Result ℕ RecvError} (Ok start) (Ok 0)) = later.0 in cc) in
    let same : j ≡ i = (let stages_are : stages.Records j ≡ stages.Records i = sym is ∙ ap (λ (r : ReaderSeen). r.stage) (sym later.1) ∙ at in cc) in
    let up : IsUpTo j.ended old.ram old.disks old.digest front j = up_to j.ended old.ram old.disks old.digest front held j k in
    let text : front ++ take start bytes ≡ front = ap (λ (n : ℕ). front ++ take n bytes) none ∙ append-nil front in
    let here : IsUpTo i.ended old.ram old.disks old.digest front i = subst (λ (x : Intake). IsUpTo x.ended old.ram old.disks old.digest front x) same up in
    let there : IsUpTo i.ended mid.ram mid.disks mid.digest front i = subst (λ (r : ReaderSeen). IsUpTo i.ended r.ram r.disks r.digest front i) (sym later.1) here in
    subst (λ (x : List ℕ). IsUpTo i.ended mid.ram mid.disks mid.digest x i) (sym text) there
ready_at old mid front held bytes start i stages.Failed is k o at = absurd k

pub ready_for : (old mid : ReaderSeen) (front held bytes : List ℕ) (start : ℕ) (i : Intake) → Knows old front held → ReadsHeader old bytes (Ok start) mid → mid.stage ≡ stages.Records i → IsUpTo i.ended mid.ram mid.disks mid.digest (front ++ take start bytes) i
ready_for old mid front held bytes start i k o at = ready_at old mid front held bytes start i old.stage refl k o at

-- The bytes behind the header were worked off, by a reader with these disks.
pub worked_on : (old new : ReaderSeen) (ram : RamTerms) (ds : List DiskState) (front bytes : List ℕ) (start at : ℕ) (j : Intake) → ds ≡ old.disks → new.ram ≡ ram → new.stage ≡ stages.Records j
    → AreKept ds new.disks × IsKnownIn j.ended ram new.disks new.digest ((front ++ take start bytes) ++ take at (drop start bytes)) (drop at (drop start bytes)) j → LookedAt old front bytes (Ok (start + at)) new
worked_on old new ram ds front bytes start at j disks same stage w =
    let first : IsKnownIn j.ended ram new.disks new.digest (front ++ take (start + at) bytes) (drop at (drop start bytes)) j =
    subst (λ (x : List ℕ). IsKnownIn j.ended ram new.disks new.digest x (drop at (drop start bytes)) j) (more_taken front bytes start at) w.1 in
    let both : IsKnownIn j.ended ram new.disks new.digest (front ++ take (start + at) bytes) (drop (start + at) bytes) j =
    subst (λ (x : List ℕ). IsKnownIn j.ended ram new.disks new.digest (front ++ take (start + at) bytes) x j) (drop-drop at start bytes) first in
    let known : IsKnown ram new.disks new.digest (front ++ take (start + at) bytes) (drop (start + at) bytes) new.stage =
    subst (λ (stage : Stage). IsKnown ram new.disks new.digest (front ++ take (start + at) bytes) (drop (start + at) bytes) stage) (sym stage) both in (
      subst (λ (x : List DiskState). AreKept x new.disks) disks w.0,
      subst (λ (t : RamTerms). IsKnown t new.disks new.digest (front ++ take (start + at) bytes) (drop (start + at) bytes) new.stage) (sym same) known,
    )

-- They were refused.
pub refused_on : (old new : ReaderSeen) (ram : RamTerms) (ds after : List DiskState) (front bytes : List ℕ) (start : ℕ) (e : RecvError) → ds ≡ old.disks → ram ≡ old.ram → new.disks ≡ after
    → AreRefused ds after e × Tells e ((at : ℕ) × Fault ram (sizes_in ds) ((front ++ take start bytes) ++ drop start bytes) e at) → LookedAt old front bytes (Err e) new
refused_on old new ram ds after front bytes start e disks same is w =
    let text : (front ++ take start bytes) ++ drop start bytes ≡ front ++ bytes = sym (cut front bytes start) in (
      subst (λ (x : List DiskState). AreRefused old.disks x e) (sym is) (subst (λ (x : List DiskState). AreRefused x after e) disks w.0),
      rw (text, disks, same) at w.1,
    )

-- A header that waits: nothing was worked off.
pub head_waits : (old mid : ReaderSeen) (front held bytes : List ℕ) (start : ℕ) → Knows old front held → ReadsHeader old bytes (Ok start) mid → old.stage ≡ stages.Head → mid.stage ≡ stages.Head → LookedAt old front bytes (Ok 0) mid
head_waits old mid front held bytes start k o was is =
    let known : IsKnown old.ram old.disks old.digest front held stages.Head = subst (λ (stage : Stage). IsKnown old.ram old.disks old.digest front held stage) was k in
    let knows : Knows old [] held = subst (λ (x : List ℕ). Knows old x held) known.0 k in
    let waits : HeaderAt old bytes (Ok start) mid stages.Head = subst (λ (stage : Stage). HeaderAt old bytes (Ok start) mid stage) is (o.opened held was knows) in (
      subst (λ (ds : List DiskState). AreKept old.disks ds) (sym o.disks) (kept old.disks),
      subst (λ (stage : Stage). IsKnown mid.ram mid.disks mid.digest (front ++ take 0 bytes) (drop 0 bytes) stage) (sym is) (append-nil front ∙ known.0, subst (λ (d : Summed). Sums d []) (sym waits.2) known.1, waits.1),
    )

-- Where the head waits behind the look for it, it waited before.
pub head_was : (old mid : ReaderSeen) (bytes : List ℕ) (start : ℕ) → ReadsHeader old bytes (Ok start) mid → mid.stage ≡ stages.Head → old.stage ≡ stages.Head
head_was old mid bytes start o is = by_stage old.stage refl
  where
    by_stage : (stage : Stage) → old.stage ≡ stage → old.stage ≡ stages.Head
    by_stage stages.Head e = e
    by_stage (stages.Records i) e = ap (λ (r : ReaderSeen). r.stage) (sym (o.later (subst IsPastHead (sym e) tt)).1) ∙ is
    by_stage stages.Failed e = ap (λ (r : ReaderSeen). r.stage) (sym (o.failed (ap has_failed e)).1) ∙ is

-- What is known of was not refused, and so it is behind the look for the header.
pub never_failed : (old mid : ReaderSeen) (front held bytes : List ℕ) (start : ℕ) → Knows old front held → ReadsHeader old bytes (Ok start) mid → mid.stage ≡ stages.Failed → ⊥
never_failed old mid front held bytes start k o is = by_stage old.stage refl k
  where
    by_stage : (stage : Stage) → old.stage ≡ stage → IsKnown old.ram old.disks old.digest front held stage → ⊥
    by_stage stages.Head e known = subst (λ (stage : Stage). HeaderAt old bytes (Ok start) mid stage) is (o.opened held e (subst (λ (x : List ℕ). Knows old x held) known.0 k))
    by_stage (stages.Records i) e known = true_false (has_failed mid.stage) (ap has_failed is) (ap (λ (r : ReaderSeen). has_failed r.stage) (o.later (subst IsPastHead (sym e) tt)).1 ∙ ap has_failed e)
    by_stage stages.Failed e known = known

-- A header that is refused.
pub head_refused_as : (old mid new : ReaderSeen) (front held bytes : List ℕ) (e : RecvError) → Knows old front held → ReadsHeader old bytes (Err e) mid → StandsAside mid new → LookedAt old front bytes (Err e) new
head_refused_as old mid new front held bytes e k o f = by_stage old.stage refl k
  where
    by_stage : (stage : Stage) → old.stage ≡ stage → IsKnown old.ram old.disks old.digest front held stage → LookedAt old front bytes (Err e) new
    by_stage stages.Head is known =
        let knows : Knows old [] held = subst (λ (x : List ℕ). Knows old x held) known.0 k in
        let t = o.opened held is knows in
        let text : bytes ≡ front ++ bytes = ap (λ (x : List ℕ). x ++ bytes) (sym known.0) in (
          subst (λ (ds : List DiskState). AreRefused old.disks ds e) (sym f.disks) t.0,
          tells_more _ _ e (λ x. subst (λ (b : List ℕ). (at : ℕ) × Fault old.ram (sizes_in old.disks) b e at) text x) t.1,
        )
    by_stage (stages.Records i) is known = absurd (let no : (◌≡◌ {A = Result ℕ RecvError} (Err e) (Ok 0)) = (o.later (subst IsPastHead (sym is) tt)).0 in cc)
    by_stage stages.Failed is known = absurd known

-- Memory that a record behind the held bytes wants.
pub work_wants : (old mid : ReaderSeen) (front bytes : List ℕ) (start : ℕ) → ReadsHeader old bytes (Ok start) mid → IsPastHead old.stage
    → HasDevice mid.ram (sizes_in mid.disks) ((front ++ take start bytes) ++ drop start bytes) (length (front ++ take start bytes)) → HasDevice old.ram (sizes_in old.disks) (front ++ bytes) (length front)
work_wants old mid front bytes start o past d =
    let none : start ≡ 0 = (let same : (◌≡◌ {A = Result ℕ RecvError} (Ok start) (Ok 0)) = (o.later past).0 in cc) in
    let text : (front ++ take start bytes) ++ drop start bytes ≡ front ++ bytes = sym (cut front bytes start) in
    let low : length (front ++ take start bytes) ≡ length front = ap (λ (n : ℕ). length (front ++ take n bytes)) none ∙ ap length (append-nil front) in
    subst (λ (n : ℕ). HasDevice old.ram (sizes_in old.disks) (front ++ bytes) n) low
    (subst (λ (x : List ℕ). HasDevice old.ram (sizes_in old.disks) x (length (front ++ take start bytes))) text
    (subst (λ (r : ReaderSeen). HasDevice r.ram (sizes_in r.disks) ((front ++ take start bytes) ++ drop start bytes) (length (front ++ take start bytes))) (o.later past).1 d))

pub no_memory_kept : (old new : List DiskState) → new ≡ old → AreRefused old new errors.NoMemory
no_memory_kept old new same = subst (λ (ds : List DiskState). AreRefused old ds errors.NoMemory) (sym same) (refused_kept old errors.NoMemory (λ e. cc))

-- The room for a machine of so many devices and disks.
pub room_of : (room : RoomSeen) (m n p q : ℕ) → room ≡ record { devices = m; disks = n } → m ≡ p → n ≡ q → room ≡ record { devices = p; disks = q }
room_of room m n p q is e f = rw (← e, ← f) is
