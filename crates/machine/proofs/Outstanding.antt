-- Outstanding requests of a block device as they go on: they stay sound, write inside RAM, and set sectors that are there.
use Rattle.std.proofs.Common.{◌≡◌, ℕ, zero, suc, ◌+◌, ◌-◌, ◌*◌, ◌<◌, ◌≤◌, Bool, true, false, cond, ltb, List, [], ◌∷◌, length, take, drop, replicate, set, get_or, Option, Some, None, refl, sym, ap, arith}
use Rattle.std.specs.Prelude.{◌&&◌, slice_get}
use Rattle.std.specs.List.{All, remove}
use Rattle.std.proofs.lemmas.List.{length-set, length-take, length-drop}
use Rattle.std.proofs.lemmas.Option.{get_or_from_slice_get, slice_get_within}
use Rattle.std.proofs.lemmas.Bool.{true≢false}
use borrow.Author.Tests.{ltb-true}
use Rattle.guestmem.specs.Address.{index_of}
use Rattle.guestmem.proofs.ByteLaws.{IsBytes-take, IsBytes-drop}
use Rattle.guestmem.specs.Number.{IsBytes}
use Rattle.chains.specs.Places.{places, place_writes, read_places, AreSegmentsInside}
use Rattle.chains.specs.Publish.{published}
use Rattle.chains.specs.State.{RingState}
use Rattle.blk.proofs.Units.{goes_on}
use Rattle.blk.proofs.Zeros.{zero_bytes}
use Rattle.blk.specs.Advance.{AdvanceStep, advance_one, advance_step, completed, after_move, end_writes, verdict_writes, used_len}
use Rattle.blk.specs.Move.{Move, SectorSet, move_of, move_out, move_zero, move_flush, write_unit, moved, disk_failed, bad_sector, unit_bytes, one_done, failed}
use Rattle.blk.specs.Request.{is_good, is_open, next_sector, verdict_byte}
use Rattle.blk.specs.Sectors.{Sector, sector_in, bytes_of, is_bad, IsWhole, AreWhole}
use Rattle.blk.specs.Sound.{AreSound, IsSoundRequest, IsSoundWork, HasSoundWork}
use Rattle.blk.specs.declared.advancing.Advanced.TheVariants as advanced
use Rattle.blk.specs.declared.request.Kind.{Kind}
use Rattle.blk.specs.declared.request.Kind.TheVariants.{Refused, In, Out, Flush, GetId, Zero}
use Rattle.blk.specs.declared.request.Request.{Request}
use Rattle.blk.specs.declared.request.Verdict.{Verdict}
use Rattle.blk.specs.declared.request.Verdict.TheVariants.{Good, IoError, Unsupported}
use Rattle.blk.specs.Block.{limits_of, with_requests}
use Rattle.blk.specs.declared.block.Block as blocks
use Rattle.blk.specs.declared.shape.Limits.{Limits}
use Rattle.machine.proofs.Inside.{AreInsideRam, MayPublish, AreAddresses, first_inside, inside_append, places_inside, placed_inside, published_inside, may_publish}
use Rattle.machine.proofs.Rings.{IsLookedRing, placed_published}
use Rattle.machine.proofs.Serving.{IsSameRing, same_ring}

-- An open request.
good_is : (v : Verdict) → is_good v ≡ true → v ≡ Good
good_is Good h = refl
good_is IoError h = cc
good_is Unsupported h = cc

left_true : (a b : Bool) → (a && b) ≡ true → a ≡ true
left_true true b h = refl
left_true false b h = cc

right_true : (a b : Bool) → (a && b) ≡ true → b ≡ true
right_true true b h = h
right_true false b h = cc

pub record IsOpen (r : Request) : Type 0 where
  pub good : r.verdict ≡ Good
  pub left : r.done < r.units

pub open_is : (r : Request) → is_open r ≡ true → IsOpen r
open_is r h = record { good = good_is r.verdict (left_true (is_good r.verdict) (ltb r.done r.units) h); left = ltb-true r.done r.units (right_true (is_good r.verdict) (ltb r.done r.units) h) }

-- The work of an open request after one more unit, and after a failure.
one_more : (k : Kind) (readable writable : ℕ) (limits : Limits) (first units done : ℕ) → done < units → IsSoundWork k readable writable limits Good first units done → IsSoundWork k readable writable limits Good first units (done + 1)
one_more Refused readable writable limits first units done left h = absurd (true≢false h.0)
one_more In readable writable limits first units done left h = (omega (arith, left), h.1, h.2)
one_more Out readable writable limits first units done left h = (omega (arith, left), h.1, h.2, h.3)
one_more Flush readable writable limits first units done left h = (omega (arith, left), h.1, h.2)
one_more GetId readable writable limits first units done left h = (h.0, omega (arith, left), h.2, h.3, h.4)
one_more Zero readable writable limits first units done left h = (omega (arith, left), h.1, h.2, h.3, h.4, h.5)

-- Whether a kind of request calls the disk.
abbrev Calls : Kind → Type 0
Calls Refused = ⊥
Calls In = Unit {0}
Calls Out = Unit {0}
Calls Flush = Unit {0}
Calls GetId = ⊥
Calls Zero = Unit {0}

gone_wrong : (k : Kind) (readable writable : ℕ) (limits : Limits) (first units done : ℕ) → Calls k → done < units → IsSoundWork k readable writable limits Good first units done → IsSoundWork k readable writable limits IoError first units done
gone_wrong Refused readable writable limits first units done calls left h = absurd calls
gone_wrong In readable writable limits first units done calls left h = (left, h.1, h.2)
gone_wrong Out readable writable limits first units done calls left h = (left, h.1, h.2, h.3)
gone_wrong Flush readable writable limits first units done calls left h = (left, h.1, h.2)
gone_wrong GetId readable writable limits first units done calls left h = absurd calls
gone_wrong Zero readable writable limits first units done calls left h = (left, h.1, h.2, h.3, h.4, h.5)

-- What one unit brings.
pub record IsGoodSet (count : ℕ) (s : SectorSet) : Type 0 where
  pub there : s.number < count
  pub whole : IsWhole s.content

abbrev pub AreGoodSets : ℕ → List SectorSet → Type 0
AreGoodSets count [] = Unit {0}
AreGoodSets count (s ∷ ss) = IsGoodSet count s × AreGoodSets count ss

record IsMove (len : ℕ) (limits : Limits) (r : Request) (m : Move) : Type 0 where
  goes : (k : ℕ) (q : RingState) (rs : List Request) → AreSound len q limits rs → k < length rs → r ≡ get_or rs k r → AreSound len q limits (set rs k m.request)
  inside : AreInsideRam len m.writes
  sets : AreGoodSets limits.sectors m.sets

moved_after : (len : ℕ) (limits : Limits) (r : Request) → IsOpen r → HasSoundWork limits r → (k : ℕ) (q : RingState) (rs : List Request) → AreSound len q limits rs → k < length rs → r ≡ get_or rs k r → AreSound len q limits (set rs k (one_done r))
moved_after len limits r at_work work k q rs sound below is =
    goes_on len q limits rs k r (one_done r) advanced.Moved sound below is refl
    (rw at_work.good (λ _. one_more r.kind (length (places r.readable)) (length (places r.writable)) limits r.first r.units r.done at_work.left (rw at_work.good at work)))

failed_after : (len : ℕ) (limits : Limits) (r : Request) → IsOpen r → Calls r.kind → HasSoundWork limits r → (k : ℕ) (q : RingState) (rs : List Request) → AreSound len q limits rs → k < length rs → r ≡ get_or rs k r → AreSound len q limits (set rs k (failed r))
failed_after len limits r at_work calls work k q rs sound below is =
    goes_on len q limits rs k r (failed r) advanced.DiskFailed sound below is refl
    (λ _. gone_wrong r.kind (length (places r.readable)) (length (places r.writable)) limits r.first r.units r.done calls at_work.left (rw at_work.good at work))

-- Places further on.
pub rest_inside : (base len n : ℕ) (at : List ℕ) → AreAddresses base len at → AreAddresses base len (drop n at)
rest_inside base len zero at h = h
rest_inside base len (suc n) [] h = tt
rest_inside base len (suc n) (a ∷ at) h = rest_inside base len n at h.1

some_inside : (base len n k : ℕ) (r : Request) (bytes : List ℕ) → AreSegmentsInside base len r.writable → IsBytes bytes → AreInsideRam len (place_writes base (take n (drop k (places r.writable))) bytes)
some_inside base len n k r bytes inside are = placed_inside base len (take n (drop k (places r.writable))) bytes (first_inside base len n (drop k (places r.writable)) (rest_inside base len k (places r.writable) (places_inside base len r.writable inside))) are

no_bytes : IsBytes []
no_bytes i = omega arith

whole_bytes : (s : Sector) → IsWhole s → IsBytes (bytes_of s)
whole_bytes None h = no_bytes
whole_bytes (Some bytes) h = h.bytes

in_by : (base len : ℕ) (limits : Limits) (content : List Sector) (r : Request) (bad is_fine : Bool) → IsOpen r → r.kind ≡ In → HasSoundWork limits r → AreSegmentsInside base len r.writable → IsWhole (sector_in content (next_sector r))
    → IsMove len limits r (cond bad (bad_sector r) (cond is_fine (moved r (place_writes base (take 512 (drop (512 * r.done) (places r.writable))) (bytes_of (sector_in content (next_sector r)))) []) (disk_failed r [])))
in_by base len limits content r true is_fine at_work kind work inside whole = record { goes = failed_after len limits r at_work (rw kind tt) work; inside = tt; sets = tt }
in_by base len limits content r false true at_work kind work inside whole = record {
  goes = moved_after len limits r at_work work;
  inside = some_inside base len 512 (512 * r.done) r (bytes_of (sector_in content (next_sector r))) inside (whole_bytes (sector_in content (next_sector r)) whole);
  sets = tt;
}
in_by base len limits content r false false at_work kind work inside whole = record { goes = failed_after len limits r at_work (rw kind tt) work; inside = tt; sets = tt }

-- The bytes of a unit.
read_bytes : (base : ℕ) (ram at : List ℕ) → IsBytes ram → IsBytes (read_places base ram at)
read_bytes base ram [] are i = omega arith
read_bytes base ram (a ∷ at) are zero = are (index_of base a)
read_bytes base ram (a ∷ at) are (suc i) = read_bytes base ram at are i

length-read_places : (base : ℕ) (ram at : List ℕ) → length (read_places base ram at) ≡ length at
length-read_places base ram [] = refl
length-read_places base ram (a ∷ at) = ap suc (length-read_places base ram at)

unit_whole : (base : ℕ) (ram : List ℕ) (r : Request) (units : ℕ) → IsBytes ram → r.done < units → 512 * units + 16 ≡ length (places r.readable) → IsWhole (Some (unit_bytes base ram r))
unit_whole base ram r units are left long =
    let all = read_places base ram (places r.readable) in
    let rest = drop (16 + 512 * r.done) all in
    record {
      size = omega (arith, length-take 512 rest, length-drop (16 + 512 * r.done) all, length-read_places base ram (places r.readable), left, long);
      bytes = IsBytes-take 512 rest (IsBytes-drop (16 + 512 * r.done) all (read_bytes base ram (places r.readable) are));
    }

-- A unit that writes bytes to its sector.
write_by : (len : ℕ) (limits : Limits) (bytes : List ℕ) (r : Request) (is_fine : Bool) → IsWhole (Some bytes) → next_sector r < limits.sectors → IsOpen r → Calls r.kind → HasSoundWork limits r → IsMove len limits r (write_unit bytes r is_fine)
write_by len limits bytes r true whole there at_work calls work = record {
  goes = moved_after len limits r at_work work;
  inside = tt;
  sets = (record { there = there; whole = whole }, tt);
}
write_by len limits bytes r false whole there at_work calls work = record {
  goes = failed_after len limits r at_work calls work;
  inside = tt;
  sets = (record { there = there; whole = tt }, tt);
}

out_by : (base len : ℕ) (limits : Limits) (ram : List ℕ) (r : Request) (is_fine : Bool) → IsBytes ram → IsOpen r → r.kind ≡ Out → HasSoundWork limits r → IsMove len limits r (move_out base ram r is_fine)
out_by base len limits ram r is_fine are at_work kind work =
    let w : IsSoundWork Out (length (places r.readable)) (length (places r.writable)) limits r.verdict r.first r.units r.done = rw kind at work in
    write_by len limits (unit_bytes base ram r) r is_fine (unit_whole base ram r r.units are at_work.left w.1) (omega (arith, at_work.left, w.2)) at_work (rw kind tt) work

zeros_whole : IsWhole (Some (replicate 512 0))
zeros_whole = record { size = refl; bytes = zero_bytes 512 }

zero_by : (len : ℕ) (limits : Limits) (r : Request) (is_fine : Bool) → IsOpen r → r.kind ≡ Zero → HasSoundWork limits r → IsMove len limits r (move_zero r is_fine)
zero_by len limits r is_fine at_work kind work =
    let w : IsSoundWork Zero (length (places r.readable)) (length (places r.writable)) limits r.verdict r.first r.units r.done = rw kind at work in
    write_by len limits (replicate 512 0) r is_fine zeros_whole (omega (arith, at_work.left, w.3)) at_work (rw kind tt) work

flush_by : (len : ℕ) (limits : Limits) (r : Request) (is_fine : Bool) → IsOpen r → r.kind ≡ Flush → HasSoundWork limits r → IsMove len limits r (move_flush r is_fine)
flush_by len limits r true at_work kind work = record { goes = moved_after len limits r at_work work; inside = tt; sets = tt }
flush_by len limits r false at_work kind work = record { goes = failed_after len limits r at_work (rw kind tt) work; inside = tt; sets = tt }

move_by : (base len : ℕ) (limits : Limits) (id ram : List ℕ) (content : List Sector) (r : Request) (is_fine : Bool) (k : Kind) → r.kind ≡ k → IsBytes ram → IsBytes id → length content ≡ limits.sectors → AreWhole content → IsOpen r → HasSoundWork limits r → AreSegmentsInside base len r.writable
    → IsMove len limits r (move_of k base id ram content r is_fine)
move_by base len limits id ram content r is_fine Refused kind are id_bytes long whole at_work work inside =
    let w : IsSoundWork Refused (length (places r.readable)) (length (places r.writable)) limits Good r.first r.units r.done = rw (kind, at_work.good) at work in
    absurd (true≢false w.0)
move_by base len limits id ram content r is_fine In kind are id_bytes long whole at_work work inside =
    let w : IsSoundWork In (length (places r.readable)) (length (places r.writable)) limits r.verdict r.first r.units r.done = rw kind at work in
    let there : next_sector r < length content = omega (arith, at_work.left, w.2, long) in
    in_by base len limits content r (is_bad (sector_in content (next_sector r))) is_fine at_work kind work inside (whole (next_sector r) None there)
move_by base len limits id ram content r is_fine Out kind are id_bytes long whole at_work work inside = out_by base len limits ram r is_fine are at_work kind work
move_by base len limits id ram content r is_fine Flush kind are id_bytes long whole at_work work inside = flush_by len limits r is_fine at_work kind work
move_by base len limits id ram content r is_fine Zero kind are id_bytes long whole at_work work inside = zero_by len limits r is_fine at_work kind work
move_by base len limits id ram content r is_fine GetId kind are id_bytes long whole at_work work inside = record {
  goes = moved_after len limits r at_work work;
  inside = some_inside base len 20 0 r id inside id_bytes;
  sets = tt;
}

-- A request that ends.
verdict_small : (v : Verdict) → verdict_byte v < 256
verdict_small Good = omega arith
verdict_small IoError = omega arith
verdict_small Unsupported = omega arith

one_byte : (b : ℕ) → b < 256 → IsBytes (b ∷ [])
one_byte b small zero = small
one_byte b small (suc i) = omega arith

end_inside : (len : ℕ) (q : RingState) (r : Request) → MayPublish len q → AreSegmentsInside q.base len r.writable → AreInsideRam len (end_writes q r)
unfolding end_writes
end_inside len q r may inside =
    inside_append len (verdict_writes q.base r) (published q r.id r.slots (used_len r) true)
    (some_inside q.base len 1 (length (places r.writable) - 1) r (verdict_byte r.verdict ∷ []) inside (one_byte (verdict_byte r.verdict) (verdict_small r.verdict)))
    (published_inside len q r.id r.slots (used_len r) true may)

All-remove : {A : Type 0} (P : A → Type 0) (xs : List A) (n : ℕ) → All P xs → All P (remove xs n)
All-remove P [] zero h k d below = h k d below
All-remove P [] (suc n) h k d below = h k d below
All-remove P (x ∷ xs) zero h k d below = h (suc k) d (omega (arith, below))
All-remove P (x ∷ xs) (suc n) h zero d below = h zero d (omega arith)
All-remove P (x ∷ xs) (suc n) h (suc k) d below = All-remove P xs n (λ i e lt. h (suc i) e (omega (arith, lt))) k d (omega (arith, below))

length-remove : {A : Type 0} (xs : List A) (n : ℕ) → length (remove xs n) ≤ length xs
length-remove [] zero = omega arith
length-remove [] (suc n) = omega arith
length-remove (x ∷ xs) zero = omega arith
length-remove (x ∷ xs) (suc n) = omega (arith, length-remove xs n)

-- What advancing brings.
pub record GoesOn (len : ℕ) (q : RingState) (features : ℕ) (b : blocks.Block) (s : AdvanceStep) : Type 0 where
  pub block : s.block ≡ with_requests b s.block.requests
  pub sound : AreSound len q (limits_of b features) s.block.requests
  pub ring : IsSameRing q s.ring
  pub few : length s.block.requests ≤ length b.requests
  pub inside : AreInsideRam len s.writes
  pub sets : AreGoodSets b.sectors s.sets

advanced_one : (len features : ℕ) (ram : List ℕ) (q : RingState) (content : List Sector) (b : blocks.Block) (k : ℕ) (is_fine : Bool) (r : Request) (at_work : Bool) → is_open r ≡ at_work → slice_get b.requests k ≡ Some r
    → IsLookedRing len q → IsBytes ram → IsBytes b.id → length content ≡ b.sectors → AreWhole content → AreSound len q (limits_of b features) b.requests
    → GoesOn len q features b (cond at_work (after_move q b k (move_of r.kind q.base b.id ram content r is_fine)) (completed ram q b k r))
advanced_one len features ram q content b k is_fine r true at_work at may are id long whole sound =
    let limits = limits_of b features in
    let below : k < length b.requests = slice_get_within b.requests k r at in
    let is : r ≡ get_or b.requests k r = sym (get_or_from_slice_get b.requests k r r at) in
    let one : IsSoundRequest q.base len q.is_packed q.size limits r = rw (← is) at (sound k r below) in
    let m = move_by q.base len limits b.id ram content r is_fine r.kind refl are id long whole (open_is r at_work) one.work one.writable in
    record {
      block = refl;
      sound = m.goes k q b.requests sound below is;
      ring = same_ring q may.placed;
      few = omega (arith, length-set b.requests k (move_of r.kind q.base b.id ram content r is_fine).request);
      inside = m.inside;
      sets = m.sets;
    }
advanced_one len features ram q content b k is_fine r false at_work at may are id long whole sound =
    let limits = limits_of b features in
    let below : k < length b.requests = slice_get_within b.requests k r at in
    let is : r ≡ get_or b.requests k r = sym (get_or_from_slice_get b.requests k r r at) in
    let one : IsSoundRequest q.base len q.is_packed q.size limits r = rw (← is) at (sound k r below) in
    record {
      block = refl;
      sound = All-remove (IsSoundRequest q.base len q.is_packed q.size limits) b.requests k sound;
      ring = record { base = refl; layout = refl; size = refl; placed = placed_published q r.slots q.is_packed refl may.may may.placed one.slots };
      few = length-remove b.requests k;
      inside = end_inside len q r (may_publish len q may) one.writable;
      sets = tt;
    }

advanced_by : (len features : ℕ) (ram : List ℕ) (q : RingState) (content : List Sector) (b : blocks.Block) (k : ℕ) (is_fine : Bool) (found : Option Request) → slice_get b.requests k ≡ found
    → IsLookedRing len q → IsBytes ram → IsBytes b.id → length content ≡ b.sectors → AreWhole content → AreSound len q (limits_of b features) b.requests
    → GoesOn len q features b (advance_one ram q content b k is_fine found)
advanced_by len features ram q content b k is_fine None at may are id long whole sound = record { block = refl; sound = sound; ring = same_ring q may.placed; few = omega arith; inside = tt; sets = tt }
advanced_by len features ram q content b k is_fine (Some r) at may are id long whole sound = advanced_one len features ram q content b k is_fine r (is_open r) refl at may are id long whole sound

pub goes_on_by : (len features : ℕ) (ram : List ℕ) (q : RingState) (content : List Sector) (b : blocks.Block) (k : ℕ) (is_fine : Bool)
    → IsLookedRing len q → IsBytes ram → IsBytes b.id → length content ≡ b.sectors → AreWhole content → AreSound len q (limits_of b features) b.requests
    → GoesOn len q features b (advance_step ram q content b k is_fine)
goes_on_by len features ram q content b k is_fine may are id long whole sound = advanced_by len features ram q content b k is_fine (slice_get b.requests k) refl may are id long whole sound
