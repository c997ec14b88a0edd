use Rattle.std.proofs.Common.{rules}
use Rattle.std.proofs.lemmas.List.Edits.{map_over_more}
use Rattle.guestmem.specs.Write.{raised}
use Rattle.machine.proofs.serials.raise_all.Goals as goal

pub loop-count-preserved : goal.loop-count-preserved
loop-count-preserved c = search (rules, map_over_more raised)
