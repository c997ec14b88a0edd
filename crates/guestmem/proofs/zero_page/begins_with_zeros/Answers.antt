use Rattle.std.proofs.Common.{take, arith}
use Rattle.std.proofs.lemmas.List.{length-take}
use Rattle.guestmem.proofs.ZeroLemmas.{block_zeros}
use Rattle.guestmem.proofs.zero_page.begins_with_zeros.Goals as goal

-- src/zero_page.rt:27:1
pub returns : goal.returns
returns c = block_zeros (take 64 c.args.bytes.now) (omega (arith, c.requires, length-take 64 c.args.bytes.now))
