-- One device: its outstanding requests and its calls that are out, whatever happens to it.
use Rattle.std.specs.Prelude.{◌≡◌, ◌≢◌, ℕ, ◌-◌, ◌≤◌, ◌<◌, nat_lt, true, false, List, [], ◌∷◌, ◌++◌, map, slice_get, slice_set, Option, Some, None, if◌then◌else◌}
use Rattle.std.specs.List.{remove}
use Rattle.blk.specs.Outside.{Answer, answer_step, answers, disk_call, disk_call_at, awaits_at}
use Rattle.blk.specs.declared.outside.DiskCall.{DiskCall}
use Rattle.blk.specs.declared.request.Request.{Request}
use Rattle.disk_calls.specs.Handing.{asker, call_at}
use Rattle.disk_calls.specs.Overlap.{overlap}
use Rattle.disk_calls.specs.declared.out.Out.{Out}

-- A call that is out, and which request it was handed out for: the number of that request, from 0, which is followed as those before it end. No
-- machine keeps this number. It is here to say whom an answer meets.
pub record Placed : Type 0 where
  pub out : Out
  pub at : ℕ

pub record Desk : Type 0 where
  pub requests : List Request
  pub placed : List Placed

abbrev pub outs_of : List Placed → List Out
outs_of placed = map (λ p. p.out) placed

-- When the k-th request ends, those behind it move up.
abbrev pub moved_up : ℕ → Placed → Placed
moved_up k p = record p { at = if nat_lt k p.at then p.at - 1 else p.at }

-- What happens to the requests of a device, and to its calls.
pub data Turn : Type 0 where
  -- it takes a request
  Take : Request → Turn
  -- the k-th request, which asks nothing of the disk, becomes this one, which asks nothing of it either
  Pass : ℕ → Request → Turn
  -- the k-th request, which asks nothing of the disk, ends
  End : ℕ → Turn
  -- the call of the k-th request is handed out, cut to a number of sectors, under a number
  Hand : ℕ → ℕ → ℕ → Turn
  -- the disk answers the i-th call that is out, whole or in part
  Reply : ℕ → Answer → Turn
  -- the i-th call that is out is answered while the device does not run: nobody is told
  Lose : ℕ → Turn
  -- all requests are dropped, by a reset or as the queue is not ready any more
  Drop : Turn

-- The answer goes to the first request that asks for what begins as the call does, whoever the call was handed out for.
abbrev pub reply_to : ℕ → Desk → ℕ → Answer → Placed → Option ℕ → Desk → Type 0
reply_to base d i answer p None new = new ≡ record { requests = d.requests; placed = remove d.placed i }
reply_to base d i answer p (Some k) new = new ≡ record { requests = (answer_step base d.requests k answer).requests; placed = remove d.placed i }

-- Such a turn goes from one desk to another, where blocks have `size` sectors. RAM, which has this base, is left out.
abbrev pub Goes : ℕ → ℕ → Desk → Turn → Desk → Type 0
Goes size base d (Take r) new = new ≡ record d { requests = d.requests ++ r ∷ [] }
Goes size base d (Pass k r) new = (disk_call_at d.requests k ≡ None) × (disk_call r ≡ None) × (new ≡ record d { requests = slice_set d.requests k r })
Goes size base d (End k) new = (disk_call_at d.requests k ≡ None) × (new ≡ record { requests = remove d.requests k; placed = map (moved_up k) d.placed })
Goes size base d (Hand k most number) new =
    (call : DiskCall) × (1 ≤ most) × (call_at size most (outs_of d.placed) d.requests k ≡ Some call) × (new ≡ record d { placed = d.placed ++ record { out = record { number = number; call = call }; at = k } ∷ [] })
Goes size base d (Reply i answer) new =
    (p : Placed) × (slice_get d.placed i ≡ Some p) × (answers p.out.call answer ≡ true) × reply_to base d i answer p (asker d.requests p.out.call) new
Goes size base d (Lose i) new = new ≡ record d { placed = remove d.placed i }
Goes size base d Drop new = (d.placed ≡ []) × (new ≡ record d { requests = [] })

abbrev pub Ran : ℕ → ℕ → Desk → List Turn → Desk → Type 0
Ran size base d [] new = new ≡ d
Ran size base d (turn ∷ turns) new = (next : Desk) × Goes size base d turn next × Ran size base next turns new

-- A call that is out is asked by one request: the one that it was handed out for still asks for it, from its first sector on, and for as much at least;
-- and nothing that an earlier request has left overlaps it.
pub record IsAsked (size : ℕ) (requests : List Request) (p : Placed) : Type 0 where
  pub asked : DiskCall
  pub is : disk_call_at requests p.at ≡ Some asked
  pub same_what : asked.what ≡ p.out.call.what
  pub same_first : asked.first ≡ p.out.call.first
  pub some : 1 ≤ p.out.call.count
  pub enough : p.out.call.count ≤ asked.count
  pub alone : (k : ℕ) (left : DiskCall) → k < p.at → disk_call_at requests k ≡ Some left → overlap size left p.out.call ≡ false

-- What the rules of handing out, of resets and of answers keep.
pub record IsKept (size : ℕ) (d : Desk) : Type 0 where
  pub asked : (i : ℕ) (p : Placed) → slice_get d.placed i ≡ Some p → IsAsked size d.requests p
  pub apart : (i j : ℕ) (p q : Placed) → slice_get d.placed i ≡ Some p → slice_get d.placed j ≡ Some q → i ≢ j → overlap size p.out.call q.out.call ≡ false

-- What the law below says of a device: no two of its calls that are out overlap; each is asked by one request, another for each; and its answer,
-- whole or in part, is for that request, which asks for it.
pub record AreMet (size : ℕ) (d : Desk) : Type 0 where
  pub apart : (i j : ℕ) (p q : Placed) → slice_get d.placed i ≡ Some p → slice_get d.placed j ≡ Some q → i ≢ j → (overlap size p.out.call q.out.call ≡ false) × (p.at ≢ q.at)
  pub asker_is : (i : ℕ) (p : Placed) → slice_get d.placed i ≡ Some p → asker d.requests p.out.call ≡ Some p.at
  pub meets : (i : ℕ) (p : Placed) (answer : Answer) → slice_get d.placed i ≡ Some p → answers p.out.call answer ≡ true → awaits_at d.requests p.at answer ≡ true

-- The law of calls that are out. A device begins with any requests and no call out, and then anything happens to it, turn by turn.
abbrev pub CallsAreMet : Type 0
CallsAreMet = (size base : ℕ) (requests : List Request) (turns : List Turn) (d : Desk) → 1 ≤ size → Ran size base (record { requests = requests; placed = [] }) turns d → AreMet size d
