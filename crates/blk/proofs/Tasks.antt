-- What is taken is sound, and rests on the bytes that are read for it.
use Rattle.std.proofs.Common.{◌≡◌, ◌≢◌, sym, ◌∙◌, ℕ, zero, suc, ◌+◌, ◌-◌, ◌*◌, ◌/◌, ◌%◌, ◌^◌, ◌<◌, ◌≤◌, ◌==◌, nat_lt, not, ◌&&◌, ◌||◌, List, [], ◌∷◌, ◌++◌, Bool, true, false, refl, inl, inr, ap, arith, length}
use Rattle.std.specs.Bool.{if◌then◌else◌}
use Rattle.std.specs.List.{All}
use Rattle.std.proofs.lemmas.Bool.{and_parts, or_parts, cases_Bool, ltb-false, eqb-true, eq-eqb, true≢false}
use Rattle.std.proofs.lemmas.List.Elements.{All-append}
use Rattle.guestmem.specs.Number.{number_at}
use Rattle.chains.specs.State.{RingState}
use Rattle.chains.specs.Look.{fits}
use Rattle.chains.specs.Places.{places}
use Rattle.chains.specs.Ring.{IsBounded}
use Rattle.chains.specs.declared.chain.Chain.{Chain}
use Rattle.chains.specs.declared.looking.Wanted.TheVariants as wanted
use Rattle.blk.specs.declared.request.Kind.TheVariants.{In, Out, Flush, GetId, Zero}
use Rattle.blk.specs.declared.request.Verdict.TheVariants.{Good, IoError, Unsupported}
use Rattle.blk.specs.declared.request.Request.{Request}
use Rattle.blk.specs.declared.shape.Limits.{Limits}
use Rattle.blk.specs.declared.task.Task.{Task}
use Rattle.blk.specs.Task.{clear, task_of, transfer, refused}
use Rattle.blk.specs.declared.request.TheConstants.{HEADER_SIZE}
use Rattle.blk.specs.Take.{request_for}
use Rattle.blk.specs.Sound.{IsSoundWork, IsSoundRequest, AreSound}

-- A task on which nothing is done yet is sound.
abbrev pub IsSoundTask : ℕ → ℕ → Limits → Task → Type 0
IsSoundTask readable writable limits t = IsSoundWork t.kind readable writable limits t.verdict t.first t.units 0

either : (b : Bool) (P : Bool → Type 0) → (b ≡ true → P true) → (b ≡ false → P false) → P b
either b P when_true when_false = elim (cases_Bool b) as (λ _. P b) [ inl e ↦ rw e (when_true e) | inr e ↦ rw e (when_false e) ]

not-true : (b : Bool) → not b ≡ true → b ≡ false
not-true true e = sym e
not-true false e = refl

not-false : (b : Bool) → not b ≡ false → b ≡ true
not-false true e = refl
not-false false e = sym e

whole_units : (bytes : ℕ) → not (bytes % 512 == 0) ≡ false → 512 * (bytes / 512) ≡ bytes
whole_units bytes e =
    let h : bytes % 512 ≡ 0 = eqb-true (bytes % 512) 0 (not-false (bytes % 512 == 0) e) in
    omega (arith, h)

in_sound : (sector readable writable : ℕ) (limits : Limits) → 1 ≤ writable → IsSoundTask readable writable limits (transfer In sector (writable - 1) limits.sectors)
in_sound sector readable writable limits some =
    either (not ((writable - 1) % 512 == 0)) (λ b. IsSoundTask readable writable limits (if b then refused IoError else if nat_lt limits.sectors (sector + (writable - 1) / 512) then refused IoError else record { kind = In; verdict = Good; first = sector; units = (writable - 1) / 512 }))
    (λ e. (refl, refl, refl, refl))
    (λ e. either (nat_lt limits.sectors (sector + (writable - 1) / 512)) (λ b. IsSoundTask readable writable limits (if b then refused IoError else record { kind = In; verdict = Good; first = sector; units = (writable - 1) / 512 }))
    (λ f. (refl, refl, refl, refl))
    (λ f.
    let whole = whole_units (writable - 1) e in
    (omega arith, omega (arith, whole), ltb-false limits.sectors (sector + (writable - 1) / 512) f)))

out_sound : (sector readable writable : ℕ) (limits : Limits) → limits.read_only ≡ false → 16 ≤ readable → IsSoundTask readable writable limits (transfer Out sector (readable - 16) limits.sectors)
out_sound sector readable writable limits may some =
    either (not ((readable - 16) % 512 == 0)) (λ b. IsSoundTask readable writable limits (if b then refused IoError else if nat_lt limits.sectors (sector + (readable - 16) / 512) then refused IoError else record { kind = Out; verdict = Good; first = sector; units = (readable - 16) / 512 }))
    (λ e. (refl, refl, refl, refl))
    (λ e. either (nat_lt limits.sectors (sector + (readable - 16) / 512)) (λ b. IsSoundTask readable writable limits (if b then refused IoError else record { kind = Out; verdict = Good; first = sector; units = (readable - 16) / 512 }))
    (λ f. (refl, refl, refl, refl))
    (λ f.
    let whole = whole_units (readable - 16) e in
    (omega arith, omega (arith, whole), ltb-false limits.sectors (sector + (readable - 16) / 512) f, may)))

outs_sound : (sector readable writable : ℕ) (limits : Limits) → 16 ≤ readable → IsSoundTask readable writable limits (if limits.read_only then refused IoError else transfer Out sector (readable - 16) limits.sectors)
outs_sound sector readable writable limits some =
    either limits.read_only (λ b. IsSoundTask readable writable limits (if b then refused IoError else transfer Out sector (readable - 16) limits.sectors))
    (λ e. (refl, refl, refl, refl))
    (λ e. out_sound sector readable writable limits e some)

id_sound : (readable writable : ℕ) (limits : Limits) → IsSoundTask readable writable limits (if nat_lt (writable - 1) 20 then refused IoError else record { kind = GetId; verdict = Good; first = 0; units = 1 })
id_sound readable writable limits =
    either (nat_lt (writable - 1) 20) (λ b. IsSoundTask readable writable limits (if b then refused IoError else record { kind = GetId; verdict = Good; first = 0; units = 1 }))
    (λ e. (refl, refl, refl, refl))
    (λ e.
    let h = ltb-false (writable - 1) 20 e in
    (refl, omega arith, refl, refl, omega (arith, h)))

-- What is to be cleared, once the driver may ask for it and there is one segment.
abbrev range_of : ℕ → ℕ → ℕ → Limits → Task
range_of first count flags limits =
    if nat_lt 1 flags then refused Unsupported
    else if limits.read_only || nat_lt 4096 count || nat_lt limits.sectors (first + count) then refused IoError
    else record { kind = Zero; verdict = Good; first = first; units = count }

range_sound : (first count flags writable : ℕ) (limits : Limits) → limits.may_clear ≡ true → IsSoundTask 32 writable limits (range_of first count flags limits)
range_sound first count flags writable limits may =
    either (nat_lt 1 flags) (λ b. IsSoundTask 32 writable limits (if b then refused Unsupported else if limits.read_only || nat_lt 4096 count || nat_lt limits.sectors (first + count) then refused IoError else record { kind = Zero; verdict = Good; first = first; units = count }))
    (λ e. (refl, refl, refl, refl))
    (λ e. either (limits.read_only || nat_lt 4096 count || nat_lt limits.sectors (first + count)) (λ b. IsSoundTask 32 writable limits (if b then refused IoError else record { kind = Zero; verdict = Good; first = first; units = count }))
    (λ f. (refl, refl, refl, refl))
    (λ f.
    let past = or_parts (limits.read_only || nat_lt 4096 count) (nat_lt limits.sectors (first + count)) f in
    let most = or_parts limits.read_only (nat_lt 4096 count) past.0 in
    (omega arith, refl, ltb-false 4096 count most.1, ltb-false limits.sectors (first + count) past.1, most.0, may)))

clear_sound : (segment : List ℕ) (readable writable : ℕ) (limits : Limits) → IsSoundTask readable writable limits (clear segment readable limits)
clear_sound segment readable writable limits =
    let first = number_at segment 0 8 in
    let count = number_at segment 8 4 in
    let flags = number_at segment 12 4 in
    either (not limits.may_clear) (λ b. IsSoundTask readable writable limits (if b then refused Unsupported else if not (readable == 32) then refused IoError else range_of first count flags limits))
    (λ e. (refl, refl, refl, refl))
    (λ e. either (not (readable == 32)) (λ b. IsSoundTask readable writable limits (if b then refused IoError else range_of first count flags limits))
    (λ f. (refl, refl, refl, refl))
    (λ f.
    let one : readable ≡ 32 = eqb-true readable 32 (not-false (readable == 32) f) in
    rw one (range_sound first count flags writable limits (not-false limits.may_clear e))))

pub task_sound : (header segment : List ℕ) (readable writable : ℕ) (limits : Limits) → 16 ≤ readable → 1 ≤ writable → IsSoundTask readable writable limits (task_of header segment readable writable limits)
unfolding task_of
task_sound header segment readable writable limits enough some =
    let type = number_at header 0 4 in
    let sector = number_at header 8 8 in
    let P : Task → Type 0 = IsSoundTask readable writable limits in
    let unknown : Task = refused Unsupported in
    let a_clear : Task = clear segment readable limits in
    let an_id : Task = if nat_lt (writable - 1) 20 then refused IoError else record { kind = GetId; verdict = Good; first = 0; units = 1 } in
    let a_flush : Task = record { kind = Flush; verdict = Good; first = 0; units = 1 } in
    let an_out : Task = if limits.read_only then refused IoError else transfer Out sector (readable - 16) limits.sectors in
    either (type == 0) (λ b. P (if b then transfer In sector (writable - 1) limits.sectors else if type == 1 then an_out else if type == 4 then a_flush else if type == 8 then an_id else if type == 13 then a_clear else unknown))
    (λ e. in_sound sector readable writable limits some)
    (λ e. either (type == 1) (λ b. P (if b then an_out else if type == 4 then a_flush else if type == 8 then an_id else if type == 13 then a_clear else unknown))
    (λ f. outs_sound sector readable writable limits enough)
    (λ f. either (type == 4) (λ b. P (if b then a_flush else if type == 8 then an_id else if type == 13 then a_clear else unknown))
    (λ h. (omega arith, refl, refl))
    (λ h. either (type == 8) (λ b. P (if b then an_id else if type == 13 then a_clear else unknown))
    (λ i. id_sound readable writable limits)
    (λ i. either (type == 13) (λ b. P (if b then a_clear else unknown))
    (λ j. clear_sound segment readable writable limits)
    (λ j. (refl, refl, refl, refl))))))

same_clear : (segment other : List ℕ) (readable : ℕ) (limits : Limits) → (readable ≡ 32 → segment ≡ other) → clear segment readable limits ≡ clear other readable limits
same_clear segment other readable limits same =
    let rest : List ℕ → Task = λ s. range_of (number_at s 0 8) (number_at s 8 4) (number_at s 12 4) limits in
    either (readable == 32) (λ b. (if not limits.may_clear then refused Unsupported else if not b then refused IoError else rest segment) ≡ (if not limits.may_clear then refused Unsupported else if not b then refused IoError else rest other))
    (λ e. ap (λ s. if not limits.may_clear then refused Unsupported else rest s) (same (eqb-true readable 32 e)))
    (λ e. refl)

-- The segment counts only where the header asks for a range to be cleared, and where there is one segment.
pub same_task : (header segment other : List ℕ) (readable writable : ℕ) (limits : Limits) → (number_at header 0 4 ≡ 13 → readable ≡ 32 → segment ≡ other) → task_of header segment readable writable limits ≡ task_of header other readable writable limits
unfolding task_of
same_task header segment other readable writable limits same =
    let type = number_at header 0 4 in
    let sector = number_at header 8 8 in
    let an_id : Task = if nat_lt (writable - 1) 20 then refused IoError else record { kind = GetId; verdict = Good; first = 0; units = 1 } in
    let a_flush : Task = record { kind = Flush; verdict = Good; first = 0; units = 1 } in
    let an_out : Task = if limits.read_only then refused IoError else transfer Out sector (readable - 16) limits.sectors in
    let task : Task → Task = λ last. if type == 0 then transfer In sector (writable - 1) limits.sectors else if type == 1 then an_out else if type == 4 then a_flush else if type == 8 then an_id else last in
    either (type == 13) (λ b. task (if b then clear segment readable limits else refused Unsupported) ≡ task (if b then clear other readable limits else refused Unsupported))
    (λ e. ap task (same_clear segment other readable limits (same (eqb-true type 13 e))))
    (λ e. refl)

enough_bytes : (readable writable : ℕ) → (not (nat_lt readable 16) && not (writable == 0)) ≡ true → (16 ≤ readable) × (1 ≤ writable)
enough_bytes readable writable e =
    let both = and_parts (not (nat_lt readable 16)) (not (writable == 0)) e in
    let some : writable ≢ 0 = λ f. true≢false (sym (eq-eqb writable 0 f) ∙ not-true (writable == 0) both.1) in
    (ltb-false readable 16 (not-true (nat_lt readable 16) both.0), omega (arith, some))

all_one : {X : Type 0} (P : X → Type 0) (x : X) → P x → All P (x ∷ [])
all_one P x p zero d h = p
all_one P x p (suc k) d h = absurd (omega (arith, h))

-- A request that was just taken is sound.
pub taken_sound : (len : ℕ) (q : RingState) (limits : Limits) (requests : List Request) (header segment : List ℕ) (c : Chain) → c.id < 2 ^ 16 → IsBounded len q c → fits (wanted.Request HEADER_SIZE) c ≡ true → AreSound len q limits requests
    → AreSound len q limits (requests ++ request_for c (task_of header segment (length (places c.readable)) (length (places c.writable)) limits) ∷ [])
taken_sound len q limits requests header segment c below b test sound =
    let enough = enough_bytes (length (places c.readable)) (length (places c.writable)) test in
    let R : Request = request_for c (task_of header segment (length (places c.readable)) (length (places c.writable)) limits) in
    let one : IsSoundRequest q.base len q.is_packed q.size limits R = record {
      some = b.some;
      slots = b.slots;
      id_fits = below;
      id = b.id;
      few = b.few;
      readable = b.readable;
      writable = b.writable;
      total = b.total;
      header = enough.0;
      status = enough.1;
      work = task_sound header segment (length (places c.readable)) (length (places c.writable)) limits enough.0 enough.1;
    } in
    All-append (IsSoundRequest q.base len q.is_packed q.size limits) requests (R ∷ []) sound (all_one (IsSoundRequest q.base len q.is_packed q.size limits) R one)
