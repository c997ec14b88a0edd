use Rattle.std.proofs.Common.{◌∙◌, sym}
use Rattle.chains.specs.declared.segs.Seg.{Seg}
use Rattle.chains.proofs.Copies.{first_bytes}
use Rattle.chains.proofs.copy.copy_out_with_base.Goals as goal

pub returns-then-holds : goal.returns-then-holds
returns-then-holds c =
    let none : Seg = record { addr = 0; len = 0 } in
    let some = c.holds.ensures.some c.if-holds.true in
    c.get.ensures ∙ sym (first_bytes c.args.base c.args.ram.now.bytes c.args.segs.now c.args.at none _ some (c.holds.ensures.fits c.if-holds.true none) (c.requires.inside 0 none some))
