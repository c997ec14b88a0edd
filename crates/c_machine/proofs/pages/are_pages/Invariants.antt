use Rattle.std.proofs.Common.{◌≡◌, drop}
use Rattle.c_machine.specs.Named.{are_pages}
use Rattle.c_machine.proofs.pages.are_pages.Given as goal

abbrev pub invariant-loop-n : goal.invariant-loop-n
invariant-loop-n l = are_pages l.count (drop l.n-index l.pages) ≡ are_pages l.count l.pages
