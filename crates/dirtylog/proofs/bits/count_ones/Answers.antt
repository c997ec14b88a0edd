use Rattle.std.proofs.Common.{◌≡◌, ◌≤◌, ◌+◌, ◌*◌, ◌/◌, ◌%◌, refl, ◌∙◌, arith}
use Rattle.dirtylog.proofs.WordCounts.{all_counted, count_in_word, few_counted}
use Rattle.dirtylog.proofs.bits.count_ones.Goals as goal

pub loop-at-init : goal.loop-at-init
loop-at-init c = refl

pub overflow_add-count : goal.overflow_add-count
overflow_add-count c =
    let words = c.args.words.now in
    let n = c.args.n in
    let at = c.loop-at.at in
    let within : 64 * at + 64 ≤ n = omega (arith, c.loop-at-test.true) in
    omega (arith, c.loop-at.invariant, c.ones_below-count.ensures, count_in_word words n at 64 (omega arith) within, few_counted words n (64 * at + 64) within, c.ranges.n.fits)

pub loop-at-preserved : goal.loop-at-preserved
loop-at-preserved c =
    let words = c.args.words.now in
    let n = c.args.n in
    let at = c.loop-at.at in
    let next : 64 * (at + 1) ≡ 64 * at + 64 = omega arith in
    rw next (omega (arith, c.loop-at.invariant, c.ones_below-count.ensures, count_in_word words n at 64 (omega arith) (omega (arith, c.loop-at-test.true))))

pub overflow_add-count-then-rest-ne0 : goal.overflow_add-count-then-rest-ne0
overflow_add-count-then-rest-ne0 c =
    let words = c.args.words.now in
    let n = c.args.n in
    let end : c.loop-at.at ≡ n / 64 = omega (arith, c.loop-at-test.false, c.loop-at.auto.at-end) in
    let parts : 64 * (n / 64) + n % 64 ≡ n = omega arith in
    let whole = rw parts at (count_in_word words n (n / 64) (n % 64) (omega arith) (omega arith)) in
    omega (arith, rw end at c.loop-at.invariant, c.ones_below-count-then-rest-ne0.ensures, whole, few_counted words n n (omega arith), c.ranges.n.fits)

pub returns-then-rest-ne0 : goal.returns-then-rest-ne0
returns-then-rest-ne0 c =
    let words = c.args.words.now in
    let n = c.args.n in
    let end : c.loop-at.at ≡ n / 64 = omega (arith, c.loop-at-test.false, c.loop-at.auto.at-end) in
    let parts : 64 * (n / 64) + n % 64 ≡ n = omega arith in
    let whole = rw parts at (count_in_word words n (n / 64) (n % 64) (omega arith) (omega arith)) in
    omega (arith, rw end at c.loop-at.invariant, c.ones_below-count-then-rest-ne0.ensures, whole, all_counted words n)

pub returns-else-rest-ne0 : goal.returns-else-rest-ne0
returns-else-rest-ne0 c =
    let words = c.args.words.now in
    let n = c.args.n in
    let end : 64 * c.loop-at.at ≡ n = omega (arith, c.loop-at-test.false, c.loop-at.auto.at-end, c.if-rest-ne0.false) in
    (rw end at c.loop-at.invariant) ∙ all_counted words n
