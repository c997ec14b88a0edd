use Rattle.std.proofs.Common.{length, true, refl, sym, ◌∙◌}
use Rattle.chains.specs.RingCore.{core_state}
use Rattle.chains.proofs.Known.{known_slots, known_waiting, read_packed}
use Rattle.chains.proofs.LackLaws.{lacks_then}
use Rattle.chains.proofs.lacking.lacks_packed.Goals as goal

pub returns-then-not-is_available_at : goal.returns-then-not-is_available_at
returns-then-not-is_available_at c =
    let core = c.args.core.now in
    let d = read_packed c.args.ram.now.bytes core.descriptors core.taking.place c.words_at.result c.decode-first.result c.words_at.ensures c.decode-first.ensures in
    known_waiting c.args.held.now c.args.ram.now.bytes (core_state true core) c.decode-first.result d (c.if-not-is_held.ensures.known refl) (sym c.is_available_at.ensures ∙ c.if-not-is_available_at.true)

pub returns : goal.returns
returns c =
    lacks_then (length c.args.ram.now.bytes) c.args.held.now c.lacks_slots.result (known_slots c.args.held.now c.args.ram.now.bytes (core_state true c.args.core.now) (c.if-not-is_held.ensures.known refl)) c.lacks_slots.ensures
