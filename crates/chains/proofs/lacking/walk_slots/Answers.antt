use Rattle.std.proofs.Common.{◌≡◌, ◌+◌, ℕ, ◌-◌, true, false, subst, refl, arith}
use Rattle.std.proofs.lemmas.Bool.{not-true, not-false}
use Rattle.chains.specs.declared.lacking.Walked.TheVariants.{Ends, Breaks}
use Rattle.chains.specs.Descriptor.{descriptor_at}
use Rattle.chains.specs.Lacking.{SlotsKnow}
use Rattle.chains.proofs.Known.{read_packed, slots_end, slots_none, slots_walk}
use Rattle.chains.proofs.lacking.walk_slots.Goals as goal

pub loop-step-init : goal.loop-step-init
loop-step-init c =
    let core = c.args.core.now in
    let same : core.size - 0 ≡ core.size = omega arith in
    (c.requires.slot, λ w h. subst (λ (n : ℕ). SlotsKnow c.args.held.now c.args.ram.now.bytes core.descriptors core.size n core.taking.place w) same h)

pub returns-then-not-descriptor : goal.returns-then-not-descriptor
returns-then-not-descriptor c =
    let core = c.args.core.now in
    let d = read_packed c.args.ram.now.bytes core.descriptors c.loop-step.slot c.words_at.result c.decode-descriptor.result c.words_at.ensures c.decode-descriptor.ensures in
    let ends : c.decode-descriptor.result.has_next ≡ false = not-true c.decode-descriptor.result.has_next c.if-not-descriptor.true in
    c.loop-step.invariant.1 (Ends c.decode-descriptor.result) (λ behind known. slots_end behind c.args.held.now c.args.ram.now.bytes core.descriptors core.size (core.size - c.loop-step._step) c.loop-step.slot c.decode-descriptor.result d (c.if-not-is_held.ensures.known refl) ends known)

pub loop-step-preserved : goal.loop-step-preserved
loop-step-preserved c =
    let core = c.args.core.now in
    let d : c.decode-descriptor.result ≡ descriptor_at true c.args.ram.now.bytes core.descriptors c.loop-step.slot = read_packed c.args.ram.now.bytes core.descriptors c.loop-step.slot c.words_at.result c.decode-descriptor.result c.words_at.ensures c.decode-descriptor.ensures in
    let less : core.size - (c.loop-step._step + 1) ≡ core.size - c.loop-step._step - 1 = omega arith in
    let goes : c.decode-descriptor.result.has_next ≡ true = not-false c.decode-descriptor.result.has_next c.if-not-descriptor.false in
    (omega (arith, c.requires.slot), λ w rest. c.loop-step.invariant.1 w (slots_walk c.args.held.now c.args.ram.now.bytes core.descriptors core.size (core.size - c.loop-step._step) (core.size - (c.loop-step._step + 1)) c.loop-step.slot c.decode-descriptor.result w less d (c.if-not-is_held.ensures.known refl) goes rest))

pub returns : goal.returns
returns c =
    let core = c.args.core.now in
    c.loop-step.invariant.1 Breaks (λ behind. slots_none behind c.args.held.now c.args.ram.now.bytes core.descriptors core.size (core.size - c.loop-step._step) c.loop-step.slot (omega (arith, c.loop-step-test.false)))
