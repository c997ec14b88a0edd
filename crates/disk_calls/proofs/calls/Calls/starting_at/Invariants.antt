use Rattle.std.proofs.Common.{◌≡◌, ◌≤◌, [], replicate, vec_capacity}
use Rattle.disk_calls.proofs.calls.Calls.starting_at.Given as goal

abbrev pub invariant-loop : goal.invariant-loop
invariant-loop l = (l.list.items ≡ replicate l.counter (record { size = l.size; outs = [] })) × (l.devices ≤ vec_capacity l.list)
