-- Before a header for these disks and this RAM is whole, neither is touched.
use Rattle.std.proofs.Common.{◌≡◌, ℕ, Bool, true, false, List, [], ◌++◌, length, take, drop, refl, sym, ap, subst, ◌∙◌, append_assoc, append-nil, arith}
use Rattle.sha2.specs.Sha256.{sha256}
use Rattle.blk.specs.Disk.{DiskState}
use Rattle.wire.specs.Records.{commit, spelled_record}
use Rattle.wire.specs.Stream.{texts}
use Rattle.receiver.specs.Calls.{IsUntouched}
use Rattle.receiver.specs.Disks.{sizes_in}
use Rattle.receiver.specs.Fed.{IsKnownIn, IsUpTo}
use Rattle.receiver.specs.Opened.{opened_header}
use Rattle.receiver.specs.Reading.{HasSameStore, StandsAside, WaitsOn}
use Rattle.receiver.specs.Receiving.{HasDevice, HasHeaderFor, IsKnown, IsPastHead, IsTaken, MayTouch, ReaderSeen, has_ended, received_with}
use Rattle.receiver.specs.Sums.{Summed}
use Rattle.receiver.specs.declared.intake.Intake.{Intake}
use Rattle.receiver.specs.declared.ram_terms.RamTerms.{RamTerms}
use Rattle.receiver.specs.declared.recv_error.RecvError.{RecvError}
use Rattle.receiver.specs.declared.recv_error.RecvError.TheVariants.{NoMemory}
use Rattle.receiver.specs.declared.stage.Stage.{Stage}
use Rattle.receiver.specs.declared.stage.Stage.TheVariants as stages
use Rattle.receiver.proofs.Pieces.{IsPartly, regrouped}
use Rattle.receiver.proofs.Wanting.{device_on}
use Rattle.receiver.proofs.Working.{cut, front_at, front_of}

pub same_again : (r : ReaderSeen) → HasSameStore r r
same_again r = record { disks = refl; aside = refl }

pub then_same : {a b c : ReaderSeen} → HasSameStore a b → HasSameStore b c → HasSameStore a c
then_same h k = record { disks = k.disks ∙ h.disks; aside = k.aside ∙ h.aside }

pub waits_on : {a b c : ReaderSeen} → WaitsOn b c → (b.stage ≡ stages.Head → HasSameStore a b) → c.stage ≡ stages.Head → HasSameStore a c
waits_on w before head = then_same (before (w head).0) (w head).1

pub seen_same : (old new : ReaderSeen) (before held : List ℕ) → HasSameStore old new → IsUntouched (received_with old before) (received_with new held)
seen_same old new before held h = record { disks = h.disks; aside = h.aside }

-- A reader that was not past the header takes no more: its RAM stands where it stood.
pub stands_same : {old new : ReaderSeen} → StandsAside old new → ¬ (IsPastHead old.stage) → HasSameStore old new
stands_same f never = record { disks = f.disks; aside = f.aside never }

pub may_touch : (ram : RamTerms) (sizes bytes : List ℕ) (e : RecvError) → HasHeaderFor ram sizes bytes → (e ≡ NoMemory → HasDevice ram sizes bytes 0) → MayTouch ram sizes bytes e
may_touch ram sizes bytes NoMemory h wants = wants refl
may_touch ram sizes bytes _ h wants = h

-- In more bytes.
pub header_on : (ram : RamTerms) (sizes b c all : List ℕ) → HasHeaderFor ram sizes b → all ≡ b ++ c → HasHeaderFor ram sizes all
header_on ram sizes b c all h e =
    let head = opened_header h.opening in
    let parts : all ≡ head ++ (texts h.before ++ (h.tail ++ c)) =
    e ∙ ap (λ (x : List ℕ). x ++ c) h.front.begins.whole ∙ append_assoc head (texts h.before ++ h.tail) c ∙ ap (λ (x : List ℕ). head ++ x) (append_assoc (texts h.before) h.tail c) in
    record {
      opening = h.opening;
      before = h.before;
      tail = h.tail ++ c;
      front = record { begins = record { good = h.front.begins.good; whole = parts }; based = h.front.based; fits = h.front.fits; suits = h.front.suits; within = h.front.within; good = h.front.good };
    }

pub touch_on : (ram : RamTerms) (sizes b c all : List ℕ) (e : RecvError) → MayTouch ram sizes b e → all ≡ b ++ c → MayTouch ram sizes all e
touch_on ram sizes b c all NoMemory h is = device_on ram sizes b c all 0 0 h is (omega arith)
touch_on ram sizes b c all _ h is = header_on ram sizes b c all h is

-- What was taken in begins with the header.
read_header : (ended : Bool) (ram : RamTerms) (ds : List DiskState) (digest : Summed) (front tail bytes : List ℕ) (i : Intake) → IsUpTo ended ram ds digest front i → bytes ≡ front ++ tail → HasHeaderFor ram (sizes_in ds) bytes
read_header false ram ds digest front tail bytes i up is = let r = up.1 in record { opening = r.opening; before = r.before; tail = tail; front = front_at r.based (front_of bytes tail r.read is) }
read_header true ram ds digest front tail bytes i up is =
    let w = up.ended in
    let end = spelled_record (commit (sha256 w.front)) in
    let parts : bytes ≡ w.front ++ (end ++ tail) = is ∙ ap (λ (x : List ℕ). x ++ tail) w.whole ∙ append_assoc w.front end tail in
    record { opening = up.opening; before = w.before; tail = end ++ tail; front = front_at up.based (front_of bytes (end ++ tail) w.read parts) }

known_up_to : (ended : Bool) (ram : RamTerms) (ds : List DiskState) (digest : Summed) (front held : List ℕ) (i : Intake) → IsKnownIn ended ram ds digest front held i → IsUpTo ended ram ds digest front i
known_up_to false ram ds digest front held i k = (k.0, record { opening = k.1.opening; based = k.1.based; before = k.1.open_at.before; read = k.1.open_at.read })
known_up_to true ram ds digest front held i k = k.1

pub known_header : (ram : RamTerms) (ds : List DiskState) (digest : Summed) (front held tail bytes : List ℕ) (i : Intake) → IsKnown ram ds digest front held (stages.Records i) → bytes ≡ front ++ tail → HasHeaderFor ram (sizes_in ds) bytes
known_header ram ds digest front held tail bytes i k is = read_header i.ended ram ds digest front tail bytes i (known_up_to i.ended ram ds digest front held i k) is

-- A whole stream begins with one, and so do more bytes.
pub ended_header : (ram : RamTerms) (ds : List DiskState) (digest : Summed) (b held piece : List ℕ) (stage : Stage) → has_ended stage ≡ true → IsTaken ram ds digest b held stage → HasHeaderFor ram (sizes_in ds) (b ++ piece)
ended_header ram ds digest b held piece stages.Head done t = absurd cc
ended_header ram ds digest b held piece (stages.Records i) done t = header_on ram (sizes_in ds) b piece (b ++ piece) (known_header ram ds digest t.front held held b i t.known t.whole) refl
ended_header ram ds digest b held piece stages.Failed done t = absurd cc

-- Records behind the header were looked at, and refused.
pub work_touches : (old : ReaderSeen) (ram : RamTerms) (ds : List DiskState) (digest : Summed) (front bytes : List ℕ) (start : ℕ) (i : Intake) (e : RecvError) → ds ≡ old.disks → ram ≡ old.ram → IsUpTo i.ended ram ds digest (front ++ take start bytes) i
    → (e ≡ NoMemory → HasDevice ram (sizes_in ds) ((front ++ take start bytes) ++ drop start bytes) (length (front ++ take start bytes))) → MayTouch old.ram (sizes_in old.disks) (front ++ bytes) e
work_touches old ram ds digest front bytes start i e disks same up wants =
    let text : front ++ bytes ≡ (front ++ take start bytes) ++ drop start bytes = cut front bytes start in
    let header : HasHeaderFor ram (sizes_in ds) (front ++ bytes) = read_header i.ended ram ds digest (front ++ take start bytes) (drop start bytes) (front ++ bytes) i up text in
    let device : e ≡ NoMemory → HasDevice ram (sizes_in ds) (front ++ bytes) 0 =
    λ is. device_on ram (sizes_in ds) ((front ++ take start bytes) ++ drop start bytes) [] (front ++ bytes) 0 (length (front ++ take start bytes)) (wants is) (text ∙ sym (append-nil ((front ++ take start bytes) ++ drop start bytes))) (omega arith) in
    subst (λ (r : RamTerms). MayTouch r (sizes_in old.disks) (front ++ bytes) e) same
    (subst (λ (d : List DiskState). MayTouch ram (sizes_in d) (front ++ bytes) e) disks (may_touch ram (sizes_in ds) (front ++ bytes) e header device))

-- A part of a piece was refused.
pub part_untouched : (old mid new : ReaderSeen) (bytes held rest part after : List ℕ) (e : RecvError) → (p : IsPartly mid.ram old.disks mid.disks mid.digest bytes held rest mid.stage) → mid.ram ≡ old.ram → rest ≡ part ++ after
    → (mid.stage ≡ stages.Head → HasSameStore old mid) → (¬ (MayTouch mid.ram (sizes_in mid.disks) (p.front ++ (held ++ part)) e) → HasSameStore mid new)
    → (IsPastHead mid.stage → e ≡ NoMemory → HasDevice mid.ram (sizes_in mid.disks) (p.front ++ (held ++ part)) (length p.front))
    → ¬ (MayTouch old.ram (sizes_in old.disks) bytes e) → HasSameStore old new
part_untouched old mid new bytes held rest part after e p ram is waits same wants never = by_stage mid.stage refl p.known
  where
    all : bytes ≡ (p.front ++ (held ++ part)) ++ after
    all = p.whole ∙ ap (λ (x : List ℕ). p.front ++ (held ++ x)) is ∙ regrouped p.front held part after

    then_touches : MayTouch mid.ram (sizes_in mid.disks) (p.front ++ (held ++ part)) e → MayTouch old.ram (sizes_in old.disks) bytes e
    then_touches m =
        subst (λ (r : RamTerms). MayTouch r (sizes_in old.disks) bytes e) ram
        (subst (λ (sizes : List ℕ). MayTouch mid.ram sizes bytes e) p.same.sizes (touch_on mid.ram (sizes_in mid.disks) (p.front ++ (held ++ part)) after bytes e m all))

    by_stage : (stage : Stage) → mid.stage ≡ stage → IsKnown mid.ram mid.disks mid.digest p.front held stage → HasSameStore old new
    by_stage stages.Head at k = then_same (waits at) (same (λ m. never (then_touches m)))
    by_stage (stages.Records i) at k =
        let header = known_header mid.ram mid.disks mid.digest p.front held (held ++ part) (p.front ++ (held ++ part)) i k refl in
        let device : e ≡ NoMemory → HasDevice mid.ram (sizes_in mid.disks) (p.front ++ (held ++ part)) 0 =
        λ none. device_on mid.ram (sizes_in mid.disks) (p.front ++ (held ++ part)) [] (p.front ++ (held ++ part)) 0 (length p.front) (wants (subst IsPastHead (sym at) tt) none) (sym (append-nil (p.front ++ (held ++ part)))) (omega arith) in
        absurd (never (then_touches (may_touch mid.ram (sizes_in mid.disks) (p.front ++ (held ++ part)) e header device)))
    by_stage stages.Failed at k = absurd k

-- What was taken has no header for these disks and this RAM: the reader waits for one.
pub taken_untouched : (old new : ReaderSeen) (bytes held : List ℕ) → new.ram ≡ old.ram → sizes_in new.disks ≡ sizes_in old.disks → (new.stage ≡ stages.Head → HasSameStore old new) → IsTaken new.ram new.disks new.digest bytes held new.stage
    → ¬ (HasHeaderFor old.ram (sizes_in old.disks) bytes) → HasSameStore old new
taken_untouched old new bytes held ram sizes waits t never = by_stage new.stage refl t.known
  where
    by_stage : (stage : Stage) → new.stage ≡ stage → IsKnown new.ram new.disks new.digest t.front held stage → HasSameStore old new
    by_stage stages.Head at k = waits at
    by_stage (stages.Records i) at k =
        absurd (never (subst (λ (r : RamTerms). HasHeaderFor r (sizes_in old.disks) bytes) ram
        (subst (λ (s : List ℕ). HasHeaderFor new.ram s bytes) sizes (known_header new.ram new.disks new.digest t.front held held bytes i k t.whole))))
    by_stage stages.Failed at k = absurd k
