-- Calls that are handed out in part.
use Rattle.std.specs.Prelude.{◌≡◌, ℕ, ◌≤◌, List, Some}
use Rattle.blk.specs.declared.outside.DiskCall.{DiskCall}
use Rattle.blk.specs.declared.request.Request.{Request}
use Rattle.disk_calls.specs.Calls.{AllCalls, call_of_device}
use Rattle.disk_calls.specs.Handing.{call_at}
use Rattle.disk_calls.specs.declared.out.Out.{Out}

-- What may be handed out for the k-th request of a device, cut to a number of sectors, may also be cut to fewer.
abbrev pub MayGoInPart : ℕ → AllCalls → List (List Request) → ℕ → ℕ → Type 0
MayGoInPart most calls asked dev k = (fewer : ℕ) → 1 ≤ fewer → fewer ≤ most → (part : DiskCall) × (call_of_device fewer calls asked dev k ≡ Some part)

-- Where the call of a request may be handed out, cut to a number of sectors, it may also be handed out cut to fewer.
abbrev pub WholeMayGoInPart : Type 0
WholeMayGoInPart = (size most fewer : ℕ) (outs : List Out) (requests : List Request) (k : ℕ) (call : DiskCall) → 1 ≤ size → 1 ≤ fewer → fewer ≤ most → call_at size most outs requests k ≡ Some call → (part : DiskCall) × (call_at size fewer outs requests k ≡ Some part)
