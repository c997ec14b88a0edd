use Rattle.std.proofs.Common.{◌≤◌, ◌+◌, ◌*◌, length}
use Rattle.wire.specs.HeaderParts.{ShapesRead}
use Rattle.wire.proofs.header.read_shapes.Given as goal

abbrev pub invariant-loop : goal.invariant-loop
invariant-loop l = record {
  read : ShapesRead l.limits l.counter l.bytes l.shapes.items l.rest;
  few : length l.bytes ≤ length l.rest + 30 * l.counter;
}
