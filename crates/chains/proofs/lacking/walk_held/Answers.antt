use Rattle.std.proofs.Common.{◌≡◌, ◌+◌, ℕ, ◌-◌, true, false, subst, refl, arith}
use Rattle.std.proofs.lemmas.Bool.{not-true, not-false}
use Rattle.chains.specs.declared.lacking.Walked.TheVariants.{Ends, Breaks}
use Rattle.chains.specs.Descriptor.{descriptor_at}
use Rattle.chains.specs.Lacking.{WalkKnows}
use Rattle.chains.proofs.Known.{known_past, known_end, known_none, read_is, walk_more}
use Rattle.chains.proofs.lacking.walk_held.Goals as goal

pub loop-step-init : goal.loop-step-init
loop-step-init c = λ w h.
    let same : c.args.room - 0 ≡ c.args.room = omega arith in
    subst (λ (n : ℕ). WalkKnows c.args.held.now c.args.ram.now.bytes c.args.table c.args.entries n c.args.first w) same h

pub returns-then-index-entries : goal.returns-then-index-entries
returns-then-index-entries c = c.loop-step.invariant Breaks (λ behind. known_past behind c.args.held.now c.args.ram.now.bytes c.args.table c.args.entries (c.args.room - c.loop-step._step) c.loop-step.index (omega (arith, c.if-index-entries.true)))

pub returns-then-not-descriptor : goal.returns-then-not-descriptor
returns-then-not-descriptor c =
    let d = read_is c.args.ram.now.bytes c.args.table c.loop-step.index c.words_at.result c.decode-descriptor.result c.words_at.ensures c.decode-descriptor.ensures in
    let ends : c.decode-descriptor.result.has_next ≡ false = not-true c.decode-descriptor.result.has_next c.if-not-descriptor.true in
    c.loop-step.invariant (Ends c.decode-descriptor.result) (λ behind known. known_end behind c.args.held.now c.args.ram.now.bytes c.args.table c.args.entries (c.args.room - c.loop-step._step) c.loop-step.index c.decode-descriptor.result d (c.if-not-is_held.ensures.known refl) ends known)

pub loop-step-preserved : goal.loop-step-preserved
loop-step-preserved c = λ w rest.
    let d : c.decode-descriptor.result ≡ descriptor_at false c.args.ram.now.bytes c.args.table c.loop-step.index = read_is c.args.ram.now.bytes c.args.table c.loop-step.index c.words_at.result c.decode-descriptor.result c.words_at.ensures c.decode-descriptor.ensures in
    let less : c.args.room - (c.loop-step._step + 1) ≡ c.args.room - c.loop-step._step - 1 = omega arith in
    let goes : c.decode-descriptor.result.has_next ≡ true = not-false c.decode-descriptor.result.has_next c.if-not-descriptor.false in
    c.loop-step.invariant w (walk_more c.args.held.now c.args.ram.now.bytes c.args.table c.args.entries (c.args.room - c.loop-step._step) (c.args.room - (c.loop-step._step + 1)) c.loop-step.index c.decode-descriptor.result w less d (c.if-not-is_held.ensures.known refl) goes rest)

pub returns : goal.returns
returns c = c.loop-step.invariant Breaks (λ behind. known_none behind c.args.held.now c.args.ram.now.bytes c.args.table c.args.entries (c.args.room - c.loop-step._step) c.loop-step.index (omega (arith, c.loop-step-test.false)))
