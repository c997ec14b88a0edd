-- Which calls may be handed out, and which request the answer of one is for.
use Rattle.std.specs.Prelude.{ℕ, ◌+◌, ◌==◌, ◌&&◌, nat_lt, not, min, Bool, false, List, [], ◌∷◌, length, take, Option, Some, None, if◌then◌else◌}
use Rattle.std.specs.List.{list_any}
use Rattle.std.specs.Option.{option_map}
use Rattle.blk.specs.Outside.{disk_call, disk_call_at}
use Rattle.blk.specs.declared.outside.What.{What}
use Rattle.blk.specs.declared.outside.What.TheVariants as to
use Rattle.blk.specs.declared.outside.DiskCall.{DiskCall}
use Rattle.blk.specs.declared.request.Request.{Request}
use Rattle.disk_calls.specs.Overlap.{overlap}
use Rattle.disk_calls.specs.declared.device_calls.TheConstants.{CALLS_MAX}
use Rattle.disk_calls.specs.declared.out.Out.{Out}

-- What a request has left overlaps a call.
abbrev pub left_overlaps : ℕ → DiskCall → Option DiskCall → Bool
left_overlaps size call None = false
left_overlaps size call (Some left) = overlap size left call

-- The rule of handing out, for the calls of one device that are out, and those of its requests that are earlier than the one that asks: fewer than 8
-- are out, and the call overlaps none of them, and nothing that an earlier request has left.
abbrev pub may_hand_out : ℕ → List Out → List Request → DiskCall → Bool
may_hand_out size outs earlier call =
    nat_lt (length outs) CALLS_MAX && not (list_any (λ out. overlap size out.call call) outs) && not (list_any (λ r. left_overlaps size call (disk_call r)) earlier)

-- The first sectors of a call, `most` at most.
abbrev pub cut : ℕ → DiskCall → DiskCall
cut most call = record call { count = min call.count most }

abbrev pub handed_out : ℕ → ℕ → List Out → List Request → Option DiskCall → Option DiskCall
handed_out size most outs earlier None = None
handed_out size most outs earlier (Some call) = if may_hand_out size outs earlier (cut most call) then Some (cut most call) else None

-- The call of the k-th request, from 0, cut to `most` sectors, if it may be handed out.
abbrev pub call_at : ℕ → ℕ → List Out → List Request → ℕ → Option DiskCall
call_at size most outs requests k = handed_out size most outs (take k requests) (disk_call_at requests k)

abbrev pub code_of : What → ℕ
code_of to.Read = 1
code_of to.Write = 2
code_of to.Clear = 3
code_of to.Flush = 4

-- What a request asks for begins as this call does: with the same thing to be done, from the same sector on.
abbrev pub begins_as : DiskCall → Option DiskCall → Bool
begins_as call None = false
begins_as call (Some asked) = (code_of asked.what == code_of call.what) && (asked.first == call.first)

-- The request that the answer of a call is for, by its place from 0: the first one whose call begins as that does.
abbrev pub asker : List Request → DiskCall → Option ℕ
asker [] call = None
asker (r ∷ requests) call = if begins_as call (disk_call r) then Some 0 else option_map (λ k. k + 1) (asker requests call)
