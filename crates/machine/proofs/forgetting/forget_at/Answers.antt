use Rattle.std.proofs.lemmas.List.Elements.{All-set}
use Rattle.chains.specs.Decoder.{Fits}
use Rattle.machine.specs.AnyRing.{decoder_in}
use Rattle.machine.specs.declared.any_ring.AnyRing.{AnyRing}
use Rattle.machine.proofs.forgetting.forget_at.Goals as goal

pub returns-then-does-clause-fit : goal.returns-then-does-clause-fit
returns-then-does-clause-fit c = λ ram fit. All-set (λ (r : AnyRing). Fits (decoder_in r) ram) c.args.rings.now.items c.args.place c.forget.new.self (c.forget.ensures.fits ram) fit
