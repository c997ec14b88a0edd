use Rattle.std.proofs.Common.{◌≡◌, ◌≤◌, length, take, vec_len}
use Rattle.std.specs.Vec.{vec_capacity}
use Rattle.machine.specs.Layout.{firsts_of, layout_of}
use Rattle.machine.specs.Seen.{state_of}
use Rattle.sender.proofs.Numbers.{IsAt}
use Rattle.sender.proofs.numbering.number_items.Given as goal

abbrev pub invariant-loop-dev : goal.invariant-loop-dev
invariant-loop-dev g l = record {
  end : l.count ≡ length (state_of l.machine).devices;
  few : l.count ≤ 16;
  room : l.count ≤ vec_capacity l.firsts;
  made : vec_len l.firsts ≡ l.dev;
  firsts : l.firsts.items ≡ take l.dev (firsts_of (layout_of (state_of l.machine)));
  at : IsAt (state_of l.machine) l.dev l.first;
}
