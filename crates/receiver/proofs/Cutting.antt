-- Where a piece may be cut so that the digest does not come in it.
use Rattle.std.proofs.Common.{◌≡◌, ℕ, ◌+◌, ◌≤◌, ◌<◌, ◌⊎◌, inl, inr, Bool, true, false, List, [], ◌∷◌, ◌++◌, length, take, drop, refl, sym, ap, subst, ◌∙◌, append_assoc, append-nil, arith}
use Rattle.std.proofs.lemmas.Bool.{cases_lt}
use Rattle.std.proofs.lemmas.List.{length-append, length-take, take-append-drop}
use Rattle.wire.specs.RecordHeads.{BeginsHead, FitsHead, body_len, spelled_head}
use Rattle.wire.specs.Records.{BeginsNoRecord, HasSpelling, Record, body_of, head_of, spelled_record}
use Rattle.wire.specs.Stream.{texts}
use Rattle.wire.specs.declared.record_head.RecordHead.{RecordHead}
use Rattle.wire.proofs.Heads.{fits_head, head_then_body, length_body, one_head}
use Rattle.wire.proofs.Spelling.{head_same}
use Rattle.blk.specs.Disk.{DiskState}
use Rattle.receiver.specs.Disks.{sizes_in}
use Rattle.receiver.specs.Faults.{IsFront, WaitsHead}
use Rattle.receiver.specs.Fed.{HasRead, IsKnownIn}
use Rattle.receiver.specs.Opened.{Opened, opened_header, said_by}
use Rattle.receiver.specs.Good.{AreGood}
use Rattle.receiver.specs.Receiving.{IsTaken, has_ended, reads_in}
use Rattle.receiver.specs.Sums.{IsClear, NoneEnds, NotFive, Summed}
use Rattle.receiver.specs.Waiting.{LacksBytes}
use Rattle.receiver.specs.declared.intake.Intake.{Intake}
use Rattle.receiver.specs.declared.ram_terms.RamTerms.{RamTerms}
use Rattle.receiver.specs.declared.stage.Stage.{Stage}
use Rattle.receiver.specs.declared.stage.Stage.TheVariants as stages
use Rattle.receiver.proofs.Aligned.{LongerRecords, good_spell, next_good, one_opening, records_led}
use Rattle.receiver.proofs.Knowing.{no_other}
use Rattle.receiver.proofs.Prefixes.{behind}
use Rattle.receiver.proofs.Working.{front_at, front_of}

-- Records behind which more bytes come.
record Cells (xs : List ℕ) : Type 0 where
  first : ℕ
  others : List ℕ
  whole : xs ≡ first ∷ others

cells : (xs : List ℕ) (a : ℕ) (ys : List ℕ) → Cells (xs ++ (a ∷ ys))
cells [] a ys = record { first = a; others = ys; whole = refl }
cells (x ∷ xs) a ys = record { first = x; others = xs ++ (a ∷ ys); whole = refl }

longer_ends : (opening : Opened) (before others : List Record) (tail rest more : List ℕ) → AreGood opening [] others → NoneEnds opening.version tail → NotFive tail → rest ≡ 5 ∷ more → (rs : List Record) → others ≡ before ++ rs → tail ≡ texts rs ++ rest → ⊥
unfolding texts
longer_ends opening before others tail rest more goods none five is [] all left = five more (left ∙ is)
longer_ends opening before others tail rest more goods none five is (r ∷ rs) all left =
    let next = next_good opening [] before rs r (rw all at goods) in
    let c = cells (texts rs) 5 more in
    let text : tail ≡ spelled_record r ++ (c.first ∷ c.others) = left ∙ append_assoc (spelled_record r) (texts rs) rest ∙ ap (λ (x : List ℕ). spelled_record r ++ (texts rs ++ x)) is ∙ ap (λ (x : List ℕ). spelled_record r ++ x) c.whole in
    none.ends r c.first c.others next.spells next.has text

shorter_ends : (opening : Opened) (before others : List Record) (tail rest more : List ℕ) → AreGood opening [] before → NotFive tail → rest ≡ 5 ∷ more → (rs : List Record) → before ≡ others ++ rs → rest ≡ texts rs ++ tail → ⊥
unfolding texts
shorter_ends opening before others tail rest more good five is [] all left = five more (sym left ∙ is)
shorter_ends opening before others tail rest more good five is (r ∷ rs) all left =
    no_other opening others more r (texts rs ++ tail) (next_good opening [] others rs r (rw all at good)) (sym is ∙ left ∙ append_assoc (spelled_record r) (texts rs) tail)

led_ends : (opening : Opened) (before others : List Record) (tail rest more : List ℕ) → AreGood opening [] before → AreGood opening [] others → NoneEnds opening.version tail → NotFive tail → rest ≡ 5 ∷ more
    → LongerRecords before others tail rest ⊎ LongerRecords others before rest tail → ⊥
led_ends opening before others tail rest more good goods none five is (inl l) = longer_ends opening before others tail rest more goods none five is l.more l.all l.left
led_ends opening before others tail rest more good goods none five is (inr l) = shorter_ends opening before others tail rest more good five is l.more l.all l.left

-- Bytes behind whole good records that do not begin with the digest's record, and within which no record ends.
pub clear_tail : {ds : List DiskState} {opening : Opened} {before : List Record} {i : Intake} {front : List ℕ} (digest : Summed) (ram : RamTerms) (tail : List ℕ) → opening.ram ≡ ram → HasRead ds opening before i front → NoneEnds opening.version tail → NotFive tail
    → IsClear digest ram (sizes_in ds) (front ++ tail)
clear_tail {ds} {opening} {before} {i} {front} digest ram tail based h none five = record {
  closes = λ other others rest f more is. absurd (
      let g : IsFront ram (sizes_in ds) (front ++ tail) opening before tail = front_at based (front_of (front ++ tail) tail h refl) in
      let t = one_opening (front ++ tail) other opening (texts others ++ rest) (texts before ++ tail) (f.based ∙ sym g.based) f.begins g.begins in
      let goods : AreGood opening [] others = rw t.0 at f.good in
      led_ends opening before others tail rest more g.good goods none five is (records_led before others tail rest (good_spell opening [] before g.good) (good_spell opening [] others goods) (sym t.1)));
}

-- No record ends within one that is not whole yet, or just is.
spelled_long : (r : Record) → HasSpelling r → length (spelled_record r) ≡ length (spelled_head (head_of r)) + body_len (head_of r)
unfolding spelled_record
spelled_long r h = length-append (spelled_head (head_of r)) (body_of r) ∙ ap (λ (n : ℕ). length (spelled_head (head_of r)) + n) (length_body r h)

pub none_in_record : (version : ℕ) (chunk after rest : List ℕ) (head : RecordHead) → FitsHead head → chunk ++ after ≡ spelled_head head ++ rest → length chunk ≤ length (spelled_head head) + body_len head → NoneEnds version chunk
none_in_record version chunk after rest head fits is few = record {
  ends = λ r x y spells has e.
      let text : spelled_head head ++ rest ≡ spelled_head (head_of r) ++ (body_of r ++ ((x ∷ y) ++ after)) = sym is ∙ ap (λ (z : List ℕ). z ++ after) e ∙ append_assoc (spelled_record r) (x ∷ y) after ∙ head_then_body r ((x ∷ y) ++ after) in
      let same = (one_head head (head_of r) rest (body_of r ++ ((x ∷ y) ++ after)) fits (fits_head r spells) text).0 in
      omega (arith, few, spelled_long r spells, ap length e, length-append (spelled_record r) (x ∷ y), ap (λ (h : RecordHead). length (spelled_head h)) same, ap body_len same);
}

-- Nor within a part of one and one byte more.
pub none_in_one : (version : ℕ) (held chunk : List ℕ) → length chunk ≤ 1 → BeginsNoRecord version held → NoneEnds version (held ++ chunk)
none_in_one version held chunk few none = record {
  ends = λ r x y spells has e.
      let b = behind held chunk (spelled_record r) (x ∷ y) e (omega (arith, few, ap length e, length-append held chunk, length-append (spelled_record r) (x ∷ y))) in
      none r b.w spells has b.left;
}

-- The header, and one byte more than a part of it.
pub clear_head : (digest : Summed) (ram : RamTerms) (sizes held chunk : List ℕ) → length chunk ≤ 1 → WaitsHead ram.limits held → IsClear digest ram sizes (held ++ chunk)
clear_head digest ram sizes held chunk few w = record {
  closes = λ opening before tail f more is. absurd (
      let head = opened_header opening in
      let rest = texts before ++ tail in
      let some : 0 < length rest = omega (arith, length-append (texts before) tail, ap length is) in
      let b = behind held chunk head rest f.begins.whole (omega (arith, few, some, ap length f.begins.whole, length-append held chunk, length-append head rest)) in
      w.no_header (said_by opening) b.w (record { good = f.begins.good; whole = b.left }));
}

-- Bytes that do not begin with the digest's record.
pub not_five_on : (held chunk : List ℕ) → 0 < length held → NotFive held → NotFive (held ++ chunk)
not_five_on [] chunk some five more e = omega (arith, some)
not_five_on (x ∷ held) chunk some five more e = five held (ap (λ (n : ℕ). n ∷ held) (head_same e))

pub not_five_take : (n : ℕ) (rest : List ℕ) → NotFive rest → NotFive (take n rest)
not_five_take n rest five more e = five (more ++ drop n rest) (sym (take-append-drop n rest) ∙ ap (λ (x : List ℕ). x ++ drop n rest) e)

-- What comes next, behind whole good records.
clear_next : (ram : RamTerms) (ds : List DiskState) (digest : Summed) (b held chunk : List ℕ) (i : Intake) → ((version : ℕ) → BeginsNoRecord version held → NoneEnds version (held ++ chunk)) → NotFive (held ++ chunk) → i.ended ≡ false → IsTaken ram ds digest b held (stages.Records i)
    → IsClear digest ram (sizes_in ds) (b ++ chunk)
clear_next ram ds digest b held chunk i none five on t =
    let known : IsKnownIn false ram ds digest t.front held i = subst (λ (e : Bool). IsKnownIn e ram ds digest t.front held i) on t.known in
    let r = known.1 in
    let o = r.open_at in
    let all : b ++ chunk ≡ t.front ++ (held ++ chunk) = ap (λ (x : List ℕ). x ++ chunk) t.whole ∙ append_assoc t.front held chunk in
    rw all (clear_tail digest ram (held ++ chunk) r.based o.read (none r.opening.version o.waits.no_record) five)

-- A byte, before the header is whole.
pub clear_start : (ram : RamTerms) (ds : List DiskState) (digest : Summed) (b held chunk : List ℕ) (stage : Stage) → length chunk ≤ 1 → reads_in stage ≡ false → IsTaken ram ds digest b held stage → IsClear digest ram (sizes_in ds) (b ++ chunk)
clear_start ram ds digest b held chunk stages.Head few none t =
    let same : b ≡ held = t.whole ∙ ap (λ (x : List ℕ). x ++ held) t.known.0 in
    rw same (clear_head digest ram (sizes_in ds) held chunk few t.known.2)
clear_start ram ds digest b held chunk (stages.Records i) few none t = absurd cc
clear_start ram ds digest b held chunk stages.Failed few none t = absurd t.known

-- A byte behind others of a record.
pub clear_one : (ram : RamTerms) (ds : List DiskState) (digest : Summed) (b held chunk : List ℕ) (stage : Stage) → length chunk ≤ 1 → NotFive (held ++ chunk) → reads_in stage ≡ true → has_ended stage ≡ false → IsTaken ram ds digest b held stage → IsClear digest ram (sizes_in ds) (b ++ chunk)
clear_one ram ds digest b held chunk stages.Head few five reads on t = absurd cc
clear_one ram ds digest b held chunk (stages.Records i) few five reads on t = clear_next ram ds digest b held chunk i (λ version none. none_in_one version held chunk few none) five on t
clear_one ram ds digest b held chunk stages.Failed few five reads on t = absurd cc

-- What a record lacks.
pub clear_lacking : (ram : RamTerms) (ds : List DiskState) (digest : Summed) (b held chunk : List ℕ) (stage : Stage) (lacking : ℕ) → LacksBytes stage held lacking → length chunk ≤ lacking → NotFive held → has_ended stage ≡ false → IsTaken ram ds digest b held stage
    → IsClear digest ram (sizes_in ds) (b ++ chunk)
clear_lacking ram ds digest b held chunk stages.Head lacking l few five on t = absurd l.reads
clear_lacking ram ds digest b held chunk (stages.Records i) lacking l few five on t =
    let rest = drop (length (spelled_head l.head)) held ++ chunk in
    let text : (held ++ chunk) ++ [] ≡ spelled_head l.head ++ rest =
    append-nil (held ++ chunk) ∙ ap (λ (x : List ℕ). x ++ chunk) l.begins.whole ∙ append_assoc (spelled_head l.head) (drop (length (spelled_head l.head)) held) chunk in
    clear_next ram ds digest b held chunk i (λ version none. none_in_record version (held ++ chunk) [] rest l.head l.begins.fits text (omega (arith, few, l.short, length-append held chunk))) (not_five_on held chunk (omega (arith, l.long)) five) on t
clear_lacking ram ds digest b held chunk stages.Failed lacking l few five on t = absurd l.reads

-- The front of a record.
within_head : (version n count : ℕ) (rest : List ℕ) (head : RecordHead) → n ≤ count → BeginsHead rest head → count ≤ length (spelled_head head) + body_len head → NoneEnds version (take n rest)
within_head version n count rest head low b few =
    none_in_record version (take n rest) (drop n rest) (drop (length (spelled_head head)) rest) head b.fits (take-append-drop n rest ∙ b.whole) (omega (arith, low, few, length-take n rest))

begun_by : (ram : RamTerms) (ds : List DiskState) (digest : Summed) (b rest : List ℕ) (n count : ℕ) (i : Intake) → n ≤ count → NotFive rest → (1 < count → (head : RecordHead) × BeginsHead rest head × (count ≤ length (spelled_head head) + body_len head)) → i.ended ≡ false
    → IsTaken ram ds digest b [] (stages.Records i) → (1 < n) ⊎ (n ≤ 1) → IsClear digest ram (sizes_in ds) (b ++ take n rest)
begun_by ram ds digest b rest n count i low five head on t (inl many) =
    let h = head (omega (arith, low, many)) in
    clear_next ram ds digest b [] (take n rest) i (λ version none. within_head version n count rest h.0 low h.1 h.2) (not_five_take n rest five) on t
begun_by ram ds digest b rest n count i low five head on t (inr few) =
    clear_next ram ds digest b [] (take n rest) i (λ version none. none_in_one version [] (take n rest) (omega (arith, few, length-take n rest)) none) (not_five_take n rest five) on t

pub clear_begun : (ram : RamTerms) (ds : List DiskState) (digest : Summed) (b held rest : List ℕ) (n count : ℕ) (stage : Stage) → held ≡ [] → n ≤ count → NotFive rest → (1 < count → (head : RecordHead) × BeginsHead rest head × (count ≤ length (spelled_head head) + body_len head)) → reads_in stage ≡ true
    → has_ended stage ≡ false → IsTaken ram ds digest b held stage → IsClear digest ram (sizes_in ds) (b ++ take n rest)
clear_begun ram ds digest b held rest n count stages.Head none low five head reads on t = absurd cc
clear_begun ram ds digest b held rest n count (stages.Records i) none low five head reads on t = begun_by ram ds digest b rest n count i low five head on (rw none at t) (cases_lt 1 n)
clear_begun ram ds digest b held rest n count stages.Failed none low five head reads on t = absurd cc
