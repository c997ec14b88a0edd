-- The numbers of sound requests fit their fields.
use Rattle.std.proofs.Common.{◌≡◌, ℕ, ◌+◌, ◌^◌, ◌<◌, ◌≤◌, List, [], ◌∷◌, length, Bool, true, false, refl, sym, subst, arith}
use Rattle.std.proofs.lemmas.List.{length-append}
use Rattle.std.proofs.lemmas.List.Elements.{recursion_from_All}
use Rattle.std.specs.Bool.{MatchBool}
use Rattle.std.specs.List.{AllByRecursion}
use Rattle.guestmem.specs.Address.{IsWithin}
use Rattle.chains.specs.Places.{addresses, places}
use Rattle.chains.proofs.PlaceLaws.{length_addresses}
use Rattle.chains.specs.declared.segs.Seg.{Seg}
use Rattle.blk.specs.Request.{verdict_byte}
use Rattle.blk.specs.Sound.{IsSoundRequest, IsSoundWork, MayEnd}
use Rattle.blk.specs.declared.request.Kind.{Kind}
use Rattle.blk.specs.declared.request.Kind.TheVariants.{Refused, In, Out, Flush, GetId, Zero}
use Rattle.blk.specs.declared.request.Verdict.{Verdict}
use Rattle.blk.specs.declared.request.Verdict.TheVariants.{Good, IoError, Unsupported}
use Rattle.blk.specs.declared.request.Request.{Request}
use Rattle.blk.specs.declared.shape.Limits.{Limits}
use Rattle.mmio.specs.Sound.{IsSoundQueue}
use Rattle.mmio.specs.declared.common.Common.{Common}
use Rattle.mmio.specs.declared.queue.Queue.{Queue}
use Rattle.blk.specs.Sound.{AreRequestsOf}
use Rattle.wire.specs.RequestText.{kind_number}
use Rattle.wire.proofs.RequestLemmas.{FitsSeg, FitsRequest, few_kinds, few_verdicts}

segs_fit : (base len : ℕ) (ss : List Seg) → AllByRecursion (λ (s : Seg). IsWithin base len s.addr s.len) ss → length (places ss) < 2 ^ 32 → AllByRecursion FitsSeg ss
segs_fit base len [] low total = tt
segs_fit base len (s ∷ ss) low total =
    let size = length-append (addresses s.addr s.len) (places ss) in
    let first = length_addresses s.addr s.len in
    ((low.0.exists, (omega (arith, total, size, first), tt)), segs_fit base len ss low.1 (omega (arith, total, size, first)))

may_end : (v : Verdict) (done units : ℕ) → MayEnd v done units → done ≤ units
may_end Good done units h = h
may_end IoError done units h = omega (arith, h)
may_end Unsupported done units h = absurd h

-- What a request has to do is told by small numbers.
record FitsWork (first units done : ℕ) : Type 0 where
  pub first_fits : first < 2 ^ 64
  pub units_fit : units < 2 ^ 32
  pub done_fits : done < 2 ^ 32

small_work : (first units done : ℕ) → first + units ≤ 18014398509481984 → units < 2 ^ 32 → done ≤ units → FitsWork first units done
small_work first units done within few some = record { first_fits = omega (arith, within); units_fit = few; done_fits = omega (arith, few, some) }

-- A disk may have more sectors than a count of units can tell, but a request has the bytes of what it moves, fewer than 2^32 in all, and
-- one that clears has few units.
work_fits : (k : Kind) (readable writable : ℕ) (limits : Limits) (v : Verdict) (first units done : ℕ) → limits.sectors ≤ 18014398509481984 → readable + writable < 2 ^ 32 → IsSoundWork k readable writable limits v first units done → FitsWork first units done
work_fits Refused readable writable limits v first units done few total h = small_work first units done (omega (arith, h.1, h.2)) (omega (arith, h.2)) (omega (arith, h.2, h.3))
work_fits In readable writable limits v first units done few total h = small_work first units done (omega (arith, few, h.2)) (omega (arith, total, h.1)) (may_end v done units h.0)
work_fits Out readable writable limits v first units done few total h = small_work first units done (omega (arith, few, h.2)) (omega (arith, total, h.1)) (may_end v done units h.0)
work_fits Flush readable writable limits v first units done few total h = small_work first units done (omega (arith, h.1, h.2)) (omega (arith, h.1)) (may_end v done units h.0)
work_fits GetId readable writable limits v first units done few total h = small_work first units done (omega (arith, h.2, h.3)) (omega (arith, h.2)) h.1
work_fits Zero readable writable limits v first units done few total h = small_work first units done (omega (arith, few, h.3)) (omega (arith, h.2)) (may_end v done units h.0)

pub request_fits : (base len size : ℕ) (is_packed : Bool) (limits : Limits) (r : Request) → size ≤ 256 → limits.sectors ≤ 18014398509481984 → IsSoundRequest base len is_packed size limits r → FitsRequest r
request_fits base len size is_packed limits r few capacity h =
    let work = work_fits r.kind (length (places r.readable)) (length (places r.writable)) limits r.verdict r.first r.units r.done capacity h.total h.work in
    let kind : kind_number r.kind < 256 = omega (arith, few_kinds r.kind) in
    let verdict : verdict_byte r.verdict < 256 = omega (arith, few_verdicts r.verdict) in
    let readable : length r.readable < 2 ^ 16 = omega (arith, h.few, few) in
    let writable : length r.writable < 2 ^ 16 = omega (arith, h.few, few) in
    record {
      head = (h.id_fits, (omega (arith, h.slots, few), (kind, (verdict, (work.first_fits, (work.units_fit, (work.done_fits, (readable, (writable, tt)))))))));
      readable = segs_fit base len r.readable (recursion_from_All (λ (s : Seg). IsWithin base len s.addr s.len) r.readable h.readable) (omega (arith, h.total));
      writable = segs_fit base len r.writable (recursion_from_All (λ (s : Seg). IsWithin base len s.addr s.len) r.writable h.writable) (omega (arith, h.total));
    }

abbrev pub HasFewSegments : Request → Type 0
HasFewSegments r = length r.readable + length r.writable ≤ 256

-- What is known of requests that may be outstanding.
pub record RequestsFit (rs : List Request) : Type 0 where
  pub few : length rs ≤ 8
  pub each : AllByRecursion FitsRequest rs
  pub short : AllByRecursion HasFewSegments rs

each_fits : (base len size : ℕ) (is_packed : Bool) (limits : Limits) (rs : List Request) → size ≤ 256 → limits.sectors ≤ 18014398509481984 → AllByRecursion (IsSoundRequest base len is_packed size limits) rs → AllByRecursion FitsRequest rs
each_fits base len size is_packed limits [] few capacity h = tt
each_fits base len size is_packed limits (r ∷ rs) few capacity h = (request_fits base len size is_packed limits r few capacity h.0, each_fits base len size is_packed limits rs few capacity h.1)

each_short : (base len size : ℕ) (is_packed : Bool) (limits : Limits) (rs : List Request) → size ≤ 256 → AllByRecursion (IsSoundRequest base len is_packed size limits) rs → AllByRecursion HasFewSegments rs
each_short base len size is_packed limits [] few h = tt
each_short base len size is_packed limits (r ∷ rs) few h = (omega (arith, h.0.few, few), each_short base len size is_packed limits rs few h.1)

-- Where there are requests, the queue is ready, so it has at most 256 slots.
fit_by : {r_base r_len : ℕ} (base len : ℕ) (is_packed : Bool) (q : Queue) (c : Common) (limits : Limits) (rs : List Request) (is_ready : Bool) → q.is_ready ≡ is_ready → limits.sectors ≤ 18014398509481984 → IsSoundQueue r_base r_len c q
    → length rs ≤ 8 → AllByRecursion (IsSoundRequest base len is_packed q.size limits) rs → MatchBool is_ready (Unit {0}) (rs ≡ []) → RequestsFit rs
fit_by base len is_packed q c limits rs true ready capacity queue few sound where_ready =
    let size : q.size ≤ 256 = (queue.ready ready).few in
    record { few = few; each = each_fits base len q.size is_packed limits rs size capacity sound; short = each_short base len q.size is_packed limits rs size sound }
fit_by base len is_packed q c limits rs false ready capacity queue few sound where_ready =
    subst RequestsFit (sym where_ready) (record { few = omega arith; each = tt; short = tt })

pub requests_fit : {r_base r_len : ℕ} (base len : ℕ) (is_packed : Bool) (q : Queue) (c : Common) (limits : Limits) (rs : List Request) → limits.sectors ≤ 18014398509481984 → IsSoundQueue r_base r_len c q → AreRequestsOf base len is_packed q limits rs → RequestsFit rs
requests_fit base len is_packed q c limits rs capacity queue are =
    fit_by base len is_packed q c limits rs q.is_ready refl capacity queue are.few (recursion_from_All (IsSoundRequest base len is_packed q.size limits) rs are.sound) are.where_ready
