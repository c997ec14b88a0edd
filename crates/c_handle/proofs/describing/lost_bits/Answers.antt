use Rattle.std.proofs.Common.{arith}
use Rattle.c_handle.proofs.ToldStates.{bit_few, bits_fit}
use Rattle.c_handle.proofs.describing.lost_bits.Goals as goal

pub overflow_mul-bits : goal.overflow_mul-bits
overflow_mul-bits c = let few = bits_fit c.args.lost.now c.loop-at.at c.loop-at.bits c.requires c.loop-at.invariant.sum in omega (arith, few)

pub overflow_add-bits : goal.overflow_add-bits
overflow_add-bits c =
    let few = bits_fit c.args.lost.now c.loop-at.at c.loop-at.bits c.requires c.loop-at.invariant.sum in
    let one = bit_few _ c.number_of.result c.number_of.ensures in
    omega (arith, few, one)
