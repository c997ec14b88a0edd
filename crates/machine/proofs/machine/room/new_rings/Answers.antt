use Rattle.std.proofs.Common.{arith, length-append}
use Rattle.std.proofs.lemmas.List.Elements.{All-push}
use Rattle.chains.specs.Decoder.{Fits}
use Rattle.machine.specs.AnyRing.{decoder_in}
use Rattle.machine.specs.declared.any_ring.AnyRing.{AnyRing}
use Rattle.machine.proofs.machine.room.new_rings.Goals as goal

pub loop-device-preserved : goal.loop-device-preserved
loop-device-preserved c =
    let i = c.loop-device.invariant in
    rw (c.in_ok-push-2.ensures.items, c.in_ok-push.ensures.items) (record {
      each = rw (length-append, length-append) (omega (arith, i.each));
      fit = λ ram.
          All-push (λ (r : AnyRing). Fits (decoder_in r) ram) _ _
          (All-push (λ (r : AnyRing). Fits (decoder_in r) ram) _ _ (i.fit ram) (c.new.ensures ram)) (c.new-in-loop-device.ensures ram);
    })
