use Rattle.std.proofs.Common.{flat_map, take}
use Rattle.std.specs.Io.KnownBytes.{Appends}
use Rattle.vmig.proofs.output.write_each.Given as goal

abbrev pub invariant-loop-line : goal.invariant-loop-line
invariant-loop-line g l = Appends (g.O.Write.contents l.fn.out) (g.O.Write.contents l.out) (flat_map g.L.Line.line (take l.line-index l.lines))
