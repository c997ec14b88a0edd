-- What the requests of a machine ask of its disks outside.
use Rattle.std.proofs.Common.{◌≡◌, ◌+◌, ◌-◌, ◌*◌, ◌<◌, ◌≤◌, ◌&&◌, ◌∙◌, ℕ, zero, suc, min, nat_lt, cond, Bool, true, false, List, [], ◌∷◌, ◌++◌, drop, get_or, length, length-take, map, replicate, slice_get, take, take-append-drop, Option, Some, None, option_map, IfSome, refl, sym, ap, arith, if◌then◌else◌}
use Rattle.std.specs.Prelude.{IsSomeAnd}
use Rattle.std.proofs.lemmas.Bool.Decides.{nat_tests}
use Rattle.std.proofs.lemmas.List.{append-nil, drop_all, length-replicate}
use Rattle.mmio.specs.State.{queue_at}
use Rattle.mmio.specs.Status.{is_running}
use Rattle.mmio.specs.declared.queue.Queue.{Queue}
use Rattle.blk.proofs.Zeros.{zero_bytes}
use Rattle.blk.specs.Block.{limits_of}
use Rattle.blk.specs.Outside.{disk_call, disk_call_in, units_left, written_bytes}
use Rattle.blk.specs.Request.{is_good, is_open}
use Rattle.blk.specs.Sound.{AreRequestsOf}
use Rattle.blk.specs.Writing.{count_to_write}
use Rattle.blk.specs.declared.block.Block.{Block}
use Rattle.blk.specs.declared.outside.DiskCall.{DiskCall}
use Rattle.blk.specs.declared.outside.What.{What}
use Rattle.blk.specs.declared.outside.What.TheVariants as to
use Rattle.blk.specs.declared.request.Kind.{Kind}
use Rattle.blk.specs.declared.request.Kind.TheVariants.{In, Out, Flush, Zero, GetId, Refused}
use Rattle.blk.specs.declared.request.Request.{Request}
use Rattle.disk_calls.specs.Calls.{AllCalls, CallsState, IsHandedOut, call_of}
use Rattle.disk_calls.specs.Handing.{asker, begins_as, cut, handed_out, may_hand_out}
use Rattle.disk_calls.specs.Machines.{asked_of}
use Rattle.disk_calls.specs.declared.calls.Handed.{Handed}
use Rattle.disk_calls.specs.declared.calls.Place.{Place}
use Rattle.machine.proofs.Within.{sound_at}
use Rattle.machine.specs.Outside.{IsFilled, MayAsk, asking_request, asking_requests, base_in, call_in, call_with, disk_call_of, outside_requests, request_in, request_of}
use Rattle.machine.specs.QueuePositions.{is_packed_by}
use Rattle.machine.specs.Shapes.{made_as}
use Rattle.machine.specs.Sound.{IsSound, IsSoundDevice, IsSoundKind}
use Rattle.machine.specs.State.{DeviceState, MachineState}
use Rattle.machine.specs.declared.kind.Kind as kinds
use Rattle.machine.specs.declared.kind.Kind.TheVariants as kind
use Rattle.machine.specs.declared.outside_call.OutsideCall.{OutsideCall}
use Rattle.machine.specs.declared.shape.Shape.{Shape}
use Rattle.machine.specs.declared.shape.Shape.TheVariants as shapes
use Rattle.guestmem.specs.Memory.{Memory}
use Rattle.guestmem.specs.declared.limits.TheConstants.{PAGES_GREATEST}
use Rattle.machine.specs.Parked.{ParkedSeen, WhateverRam, back_with}
use Rattle.machine.specs.Seen.{state_of}
use Rattle.c_handle.specs.DiskCalls.{IsAllowed, IsAskedFor, asker_lent, asker_of, bytes_of, filled_by, filled_with}

-- A device has 8 requests at most.
few_by : (found : Option Queue) (base len : ℕ) (packed : Bool) (block : Block) (features : ℕ) → IsSomeAnd found (λ (q : Queue). AreRequestsOf base len packed q (limits_of block features) block.requests) → length block.requests ≤ 8
few_by None base len packed block features are = absurd are
few_by (Some q) base len packed block features are = are.few

few_of : {base : ℕ} (len : ℕ) (d : DeviceState) (running : Bool) (k : kinds.Kind) → d.kind ≡ k → IsSoundDevice base len d → length (cond running (outside_requests k) []) ≤ 8
few_of len d false k is sound = omega arith
few_of len d true (kind.Outside block) is sound =
    let are : IsSoundKind len d.registers (kind.Outside block) = rw is at sound.kind in
    few_by (queue_at d.registers 0) d.registers.ram_base len (is_packed_by d.registers.common) block d.registers.common.features are
few_of len d true (kind.Network mac inbox) is sound = omega arith
few_of len d true (kind.Block block) is sound = omega arith
few_of len d true (kind.Console size held) is sound = omega arith
few_of len d true (kind.Entropy pool) is sound = omega arith

few_asking : {base : ℕ} (len : ℕ) (d : DeviceState) → IsSoundDevice base len d → length (asking_requests d) ≤ 8
few_asking len d sound = few_of len d (is_running d.registers.common) d.kind refl sound

abbrev requests_in : Option DeviceState → List Request
requests_in None = []
requests_in (Some d) = asking_requests d

none_at : (dev : ℕ) → get_or {A = List Request} [] dev [] ≡ []
none_at zero = refl
none_at (suc dev) = refl

requests_at : (ds : List DeviceState) (dev : ℕ) → get_or (map asking_requests ds) dev [] ≡ requests_in (slice_get ds dev)
requests_at [] dev = none_at dev
requests_at (d ∷ ds) zero = refl
requests_at (d ∷ ds) (suc dev) = requests_at ds dev

few_in : (m : MachineState) (dev : ℕ) (found : Option DeviceState) → slice_get m.devices dev ≡ found → IsSound m → length (requests_in found) ≤ 8
few_in m dev None is sound = omega arith
few_in m dev (Some d) is sound = few_asking (length m.ram) d (sound_at m dev d is sound)

pub few_requests : (m : MachineState) (dev : ℕ) → IsSound m → length (get_or (asked_of m) dev []) ≤ 8
few_requests m dev sound = rw (requests_at m.devices dev) (few_in m dev (slice_get m.devices dev) refl sound)

-- The request of a pick is that of its place, one less.
positive : (k : ℕ) → nat_lt 0 (k + 1) ≡ true
positive k = grind (arith, nat_tests)

request_at_in : (found : Option DeviceState) (k : ℕ) → request_in found (k + 1) ≡ slice_get (requests_in found) k
request_at_in None k = refl
request_at_in (Some d) k = let back : k + 1 - 1 ≡ k = omega arith in rw (positive k, back) refl

pub request_at : (m : MachineState) (dev k : ℕ) → request_of m dev (k + 1) ≡ slice_get (get_or (asked_of m) dev []) k
request_at m dev k = request_at_in (slice_get m.devices dev) k ∙ ap (λ (requests : List Request). slice_get requests k) (sym (requests_at m.devices dev))

within : {A : Type 0} (xs : List A) (k : ℕ) (x : A) → slice_get xs k ≡ Some x → k < length xs
within [] k x there = cc
within (y ∷ xs) zero x there = omega arith
within (y ∷ xs) (suc k) x there = let more = within xs k x there in omega (arith, more)

pub few_asked : (m : MachineState) (h : Handed) → IsSound m → IsAskedFor m h → h.k < 8
few_asked m h sound a =
    let below : h.k < length (get_or (asked_of m) h.dev []) = within (get_or (asked_of m) h.dev []) h.k a.request (sym (request_at m h.dev h.k) ∙ a.there) in
    omega (arith, below, few_requests m h.dev sound)

-- So is that of the request that asked for a call.
asker_within_by : (here : Bool) (found : Option ℕ) (requests : List Request) (k : ℕ) → ((j : ℕ) → found ≡ Some j → j < length requests) → (if here then Some 0 else option_map (λ (j : ℕ). j + 1) found) ≡ Some k → k < suc (length requests)
asker_within_by true found requests k more is = let same : 0 ≡ k = cc in omega (arith, same)
asker_within_by false None requests k more is = cc
asker_within_by false (Some j) requests k more is = let same : j + 1 ≡ k = cc in let below = more j refl in omega (arith, same, below)

asker_within : (requests : List Request) (call : DiskCall) (k : ℕ) → asker requests call ≡ Some k → k < length requests
asker_within [] call k is = cc
asker_within (r ∷ requests) call k is = asker_within_by (begins_as call (disk_call r)) (asker requests call) requests k (asker_within requests call) is

pub few_askers : (m : MachineState) (place : Place) (found : Option ℕ) (k : ℕ) → IsSound m → found ≡ asker_of m place → found ≡ Some k → k < 8
few_askers m place found k sound asks is =
    let below : k < length (get_or (asked_of m) place.dev []) = asker_within (get_or (asked_of m) place.dev []) place.call k (sym asks ∙ is) in
    omega (arith, below, few_requests m place.dev sound)

pub few_lent_askers : (p : ParkedSeen) (place : Place) (found : Option ℕ) (k : ℕ) → 1 ≤ length p.memory → length p.memory ≤ PAGES_GREATEST → WhateverRam p (λ m. IsSound (state_of (back_with p m))) → found ≡ asker_lent p place → found ≡ Some k → k < 8
few_lent_askers p place found k some few sound asks is =
    let m : Memory = record { bytes = replicate (4096 * length p.memory) 0; versions = p.memory; place = None } in
    few_askers (state_of (back_with p m)) place found k (sound m (record { pages = length-replicate (4096 * length p.memory) 0; some = some; few = few }) (zero_bytes (4096 * length p.memory)) refl) asks is

-- A call that is handed out is what a request asks for, or its first sectors.
record IsCut (requests : List Request) (k most : ℕ) (call : DiskCall) : Type 0 where
  request : Request
  there : slice_get requests k ≡ Some request
  asked : DiskCall
  asks : disk_call request ≡ Some asked
  is : call ≡ cut most asked

cut_if : (may : Bool) (call other : DiskCall) → (if may then Some call else None) ≡ Some other → other ≡ call
cut_if true call other is = cc
cut_if false call other is = cc

cut_asked : (size most : ℕ) (s : CallsState) (requests : List Request) (k : ℕ) (request : Request) (asks : Option DiskCall) (call : DiskCall) → slice_get requests k ≡ Some request → disk_call request ≡ asks → handed_out s.size most s.outs (take k requests) asks ≡ Some call
    → IsCut requests k most call
cut_asked size most s requests k request None call there is h = cc
cut_asked size most s requests k request (Some asked) call there is h = record {
  request = request;
  there = there;
  asked = asked;
  asks = is;
  is = cut_if (may_hand_out s.size s.outs (take k requests) (cut most asked)) (cut most asked) call h;
}

cut_at : (most : ℕ) (s : CallsState) (requests : List Request) (k : ℕ) (request : Option Request) (call : DiskCall) → slice_get requests k ≡ request → handed_out s.size most s.outs (take k requests) (disk_call_in request) ≡ Some call → IsCut requests k most call
cut_at most s requests k None call there h = cc
cut_at most s requests k (Some request) call there h = cut_asked s.size most s requests k request (disk_call request) call there refl h

cut_by : (most : ℕ) (found : Option CallsState) (requests : List Request) (k : ℕ) (call : DiskCall) → call_of most found requests k ≡ Some call → IsCut requests k most call
cut_by most None requests k call h = cc
cut_by most (Some s) requests k call h = cut_at most s requests k (slice_get requests k) call refl h

-- A request asks for one sector at least.
below_of : (a b : ℕ) → nat_lt a b ≡ true → a < b
below_of a b is = grind (arith, nat_tests)

second : (a b : Bool) → (a && b) ≡ true → b ≡ true
second true b is = is
second false b is = cc

asks_some_by : (open_ : Bool) (k : Kind) (first count : ℕ) (asked : DiskCall) → (open_ ≡ true → 1 ≤ count) → (if open_ then Rattle.blk.specs.Outside.call_of (Rattle.blk.specs.Outside.what_of k) first count else None) ≡ Some asked → 1 ≤ asked.count
asks_some_by false k first count asked some is = cc
asks_some_by true In first count asked some is = let same : count ≡ asked.count = cc in rw (← same) (some refl)
asks_some_by true Out first count asked some is = let same : count ≡ asked.count = cc in rw (← same) (some refl)
asks_some_by true Zero first count asked some is = let same : count ≡ asked.count = cc in rw (← same) (some refl)
asks_some_by true Flush first count asked some is = let same : count ≡ asked.count = cc in rw (← same) (some refl)
asks_some_by true GetId first count asked some is = cc
asks_some_by true Refused first count asked some is = cc

asks_some : (r : Request) (asked : DiskCall) → disk_call r ≡ Some asked → 1 ≤ asked.count
asks_some r asked is =
    asks_some_by (is_open r) r.kind (r.first + r.done) (units_left r) asked
    (λ open_. let less = below_of r.done r.units (second (is_good r.verdict) (nat_lt r.done r.units) open_) in omega (arith, less)) is

pub asked_for : (most : ℕ) (m : MachineState) (calls after : AllCalls) (h : Handed) → 1 ≤ most → IsHandedOut most calls (asked_of m) h after → IsAskedFor m h
asked_for most m calls after h some o =
    let c : IsCut (get_or (asked_of m) h.dev []) h.k most h.call = cut_by most (slice_get calls.devices h.dev) (get_or (asked_of m) h.dev []) h.k h.call o.next.may in
    let count : h.call.count ≡ min c.asked.count most = ap (λ (d : DiskCall). d.count) c.is in
    let least = asks_some c.request c.asked c.asks in
    record {
      request = c.request;
      there = request_at m h.dev h.k ∙ c.there;
      asked = c.asked;
      asks = c.asks;
      some = omega (arith, count, least, some);
      few = omega (arith, count);
      is = c.is ∙ ap (λ (n : ℕ). record c.asked { count = n }) (sym count);
    }

pub few_sectors : (most : ℕ) (m : MachineState) (calls after : AllCalls) (h : Handed) → IsHandedOut most calls (asked_of m) h after → h.call.count ≤ most
few_sectors most m calls after h o =
    let c = cut_by most (slice_get calls.devices h.dev) (get_or (asked_of m) h.dev []) h.k h.call o.next.may in
    let count : h.call.count ≡ min c.asked.count most = ap (λ (d : DiskCall). d.count) c.is in
    omega (arith, count)

-- The bytes of a write.
abbrev written_count : What → ℕ → ℕ
written_count to.Write size = size
written_count to.Read size = 0
written_count to.Clear size = 0
written_count to.Flush size = 0

count_by : (open_ : Bool) (k : Kind) (first left count : ℕ) (asked : DiskCall) → (if open_ then Rattle.blk.specs.Outside.call_of (Rattle.blk.specs.Outside.what_of k) first left else None) ≡ Some asked → count ≤ asked.count
    → (if open_ then min (512 * count) (Rattle.blk.specs.Writing.bytes_in k left) else 0) ≡ written_count asked.what (512 * count)
count_by false k first left count asked is few = cc
count_by true Out first left count asked is few =
    let what : to.Write ≡ asked.what = cc in
    let same : left ≡ asked.count = cc in
    let all : min (512 * count) (512 * left) ≡ 512 * count = omega (arith, same, few) in
    all ∙ ap (λ (w : What). written_count w (512 * count)) what
count_by true In first left count asked is few = let what : to.Read ≡ asked.what = cc in let none : min (512 * count) 0 ≡ 0 = omega arith in none ∙ ap (λ (w : What). written_count w (512 * count)) what
count_by true Zero first left count asked is few = let what : to.Clear ≡ asked.what = cc in let none : min (512 * count) 0 ≡ 0 = omega arith in none ∙ ap (λ (w : What). written_count w (512 * count)) what
count_by true Flush first left count asked is few = let what : to.Flush ≡ asked.what = cc in let none : min (512 * count) 0 ≡ 0 = omega arith in none ∙ ap (λ (w : What). written_count w (512 * count)) what
count_by true GetId first left count asked is few = cc
count_by true Refused first left count asked is few = cc

written_by : (what : What) (base : ℕ) (ram : List ℕ) (r : Request) (size n : ℕ) (buf front : List ℕ) → n ≡ written_count what size → front ≡ written_bytes base ram r n ++ drop n (take size buf) → front ++ drop size buf ≡ filled_by what (written_bytes base ram r size) size buf
written_by to.Write base ram r size n buf front count is =
    let none : drop size (take size buf) ≡ [] = drop_all size (take size buf) (let long = length-take size buf in omega (arith, long)) in
    let all : front ≡ written_bytes base ram r size = is ∙ rw (count, none) (append-nil (written_bytes base ram r size)) in
    ap (λ (l : List ℕ). l ++ drop size buf) all
written_by to.Read base ram r size n buf front count is = ap (λ (l : List ℕ). l ++ drop size buf) (is ∙ rw count refl) ∙ take-append-drop size buf
written_by to.Clear base ram r size n buf front count is = ap (λ (l : List ℕ). l ++ drop size buf) (is ∙ rw count refl) ∙ take-append-drop size buf
written_by to.Flush base ram r size n buf front count is = ap (λ (l : List ℕ). l ++ drop size buf) (is ∙ rw count refl) ∙ take-append-drop size buf

taken_long : (size : ℕ) (buf : List ℕ) → size ≤ length buf → length (take size buf) ≡ size
taken_long size buf room = let long = length-take size buf in omega (arith, long, room)

pub filled_is : (m : MachineState) (h : Handed) (buf front : List ℕ) (n : ℕ) → IsAskedFor m h → 512 * h.call.count ≤ length buf → IsFilled m h.dev (h.k + 1) (take (512 * h.call.count) buf) n front
    → front ++ drop (512 * h.call.count) buf ≡ filled_with m h buf
filled_is m h buf front n a room f =
    let r = a.request in
    let size = 512 * h.call.count in
    let base = base_in (slice_get m.devices h.dev) in
    let what : h.call.what ≡ a.asked.what = ap (λ (d : DiskCall). d.what) a.is in
    let written : count_to_write r size ≡ written_count a.asked.what size = count_by (is_open r) r.kind (r.first + r.done) (units_left r) h.call.count a.asked a.asks a.few in
    let told : n ≡ count_to_write r (length (take size buf)) = rw (a.there) at f.count_is in
    let count : n ≡ written_count h.call.what size = told ∙ ap (count_to_write r) (taken_long size buf room) ∙ written ∙ ap (λ (w : What). written_count w size) (sym what) in
    let bytes : bytes_of base m.ram (request_of m h.dev (h.k + 1)) size ≡ written_bytes base m.ram r size = rw (a.there) refl in
    written_by h.call.what base m.ram r size n buf front count (f.bytes_are r a.there) ∙ ap (λ (l : List ℕ). filled_by h.call.what l size buf) (sym bytes)

-- The device may ask for it.
asked_device : (found : Option DeviceState) (pick : ℕ) (r : Request) (asked : DiskCall) → request_in found pick ≡ Some r → disk_call r ≡ Some asked → (features : ℕ) × (call_in found pick ≡ Some (call_with features asked))
asked_device None pick r asked there asks = cc
asked_device (Some d) pick r asked there asks = (d.registers.common.features, rw (there, asks) refl)

allowed_part : (shape : Shape) (whole part : DiskCall) → part ≡ record whole { count = part.count } → 1 ≤ part.count → part.count ≤ whole.count → MayAsk shape whole → MayAsk shape part
allowed_part (shapes.Outside sectors read_only id) whole part is some few may =
    let first : part.first ≡ whole.first = ap (λ (d : DiskCall). d.first) is in
    let what : part.what ≡ whole.what = ap (λ (d : DiskCall). d.what) is in
    record { some = some; inside = omega (arith, first, few, may.inside); may = λ changes. may.may (ap Rattle.machine.specs.Outside.changes_sectors (sym what) ∙ changes) }
allowed_part (shapes.Net mac) whole part is some few may = absurd may
allowed_part (shapes.LongNet mac longest) whole part is some few may = absurd may
allowed_part (shapes.Block sectors read_only id) whole part is some few may = absurd may
allowed_part shapes.Console whole part is some few may = absurd may
allowed_part shapes.Entropy whole part is some few may = absurd may

allowed_by : (m : MachineState) (h : Handed) (found : Option OutsideCall) (asked : OutsideCall) → IsAskedFor m h → found ≡ Some asked
    → IfSome found (λ (x : OutsideCall). (shape : Shape) × (slice_get (map (λ (d : DeviceState). made_as d.kind) m.devices) h.dev ≡ Some shape) × MayAsk shape x.call) → (shape : Shape) × (slice_get (map (λ (d : DeviceState). made_as d.kind) m.devices) h.dev ≡ Some shape) × MayAsk shape asked.call
allowed_by m h None asked a is may = cc
allowed_by m h (Some x) asked a is may = let same : x ≡ asked = cc in rw same at may

pub is_allowed : (m : MachineState) (h : Handed) (found : Option OutsideCall) → IsAskedFor m h → found ≡ disk_call_of m h.dev (h.k + 1)
    → IfSome found (λ (x : OutsideCall). (shape : Shape) × (slice_get (map (λ (d : DeviceState). made_as d.kind) m.devices) h.dev ≡ Some shape) × MayAsk shape x.call) → IsAllowed m h
is_allowed m h found a is may =
    let asks = asked_device (slice_get m.devices h.dev) (h.k + 1) a.request a.asked a.there a.asks in
    let one = allowed_by m h found (call_with asks.0 a.asked) a (is ∙ asks.1) may in
    record { shape = one.0; there = one.1; may = allowed_part one.0 a.asked h.call a.is a.some a.few one.2 }
