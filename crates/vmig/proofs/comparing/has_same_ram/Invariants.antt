use Rattle.std.proofs.Common.{◌≡◌, ◌*◌, take}
use Rattle.vmig.proofs.comparing.has_same_ram.Given as goal

abbrev pub invariant-loop-page : goal.invariant-loop-page
invariant-loop-page l = take (4096 * l.page) l.a.bytes ≡ take (4096 * l.page) l.b.bytes
