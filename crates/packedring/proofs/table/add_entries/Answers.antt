use Rattle.std.proofs.Common.{sym, refl, ◌∙◌, zero-add, arith}
use Rattle.std.proofs.lemmas.Result.{err_from_is_err_and}
use Rattle.chains.specs.PackedChain.{entries_from}
use Rattle.chains.proofs.DecoderLaws.{decoded_none, decoded_more}
use Rattle.chains.proofs.HeldLaws.{held_none}
use Rattle.packedring.proofs.Lists.{entries_more, entries_stopped}
use Rattle.packedring.proofs.table.add_entries.Goals as goal

pub loop-index-init : goal.loop-index-init
loop-index-init c = record {
  held = held_none _ _ c.args.chain.now c.requires.none_readable c.requires.none_writable;
  count = rw (c.requires.none_readable, c.requires.none_writable) refl;
  decoded = decoded_none _ _ c.requires.fits;
  apart = refl;
}

pub returns-in_err-add-clause-gives : goal.returns-in_err-add-clause-gives
returns-in_err-add-clause-gives c =
    let why = err_from_is_err_and c.from_residual.result c.from_residual.ensures.1 in
    rw (why.1, why.2)
    (entries_stopped _ _ _ _ _ _ c.read-descriptor.result c.loop-index.chain c.add.new.chain _ c.loop-index-test.true c.len-len.ensures c.read-descriptor.ensures.descriptor c.loop-index.invariant.held c.in_err-add.ensures.gives)

pub loop-index-preserved : goal.loop-index-preserved
loop-index-preserved c =
    let i = c.loop-index.invariant in
    let held = rw (c.len-len.ensures, c.read-descriptor.ensures.descriptor) at (c.in_ok-add.ensures.gives (entries_from c.args.ram.now.bytes c.args.table 0 c.loop-index.index) (rw c.len-len.ensures i.held)) in
    let more = sym (rw zero-add at (entries_more c.args.ram.now.bytes c.args.table 0 c.loop-index.index)) in
    record {
      held = rw more at held;
      count = omega (arith, i.count, c.in_ok-add.ensures.count);
      decoded = decoded_more _ _ _ _ _ _ _ (omega arith) i.decoded c.read-descriptor.ensures.decoded;
      apart = c.read-descriptor.ensures.apart refl ∙ i.apart;
    }
