use Rattle.std.proofs.Common.{◌≡◌, drop}
use Rattle.c_machine.specs.Mapping.{counts}
use Rattle.c_machine.specs.Named.{are_zeros}
use Rattle.c_handle.proofs.unmapping.are_none.Given as goal

abbrev pub invariant-loop-at : goal.invariant-loop-at
invariant-loop-at l = record {
  same : l.images ≡ l.fn.images;
  rest : are_zeros (counts (drop l.at l.fn.images)) ≡ are_zeros (counts l.fn.images);
}
