use Rattle.std.proofs.Common.{arith, rules, refl, ◌≡◌, ◌∷◌, length}
use Rattle.wire.proofs.HeaderLemmas.{spelled-shape_of}
use Rattle.wire.proofs.HeaderParts.{beyond_shape, few_length, few_spelled, no_shape_yet, not_both_ways, over_shape, shape_cut, some_length, unknown_shape}
use Rattle.wire.proofs.header.first_shape.Goals as goal

pub returns-in-Some-clause-first : goal.returns-in-Some-clause-first
returns-in-Some-clause-first c =
    let read = spelled-shape_of c.args.bytes.now (c.in-Some.shape, c.in-Some.rest.now) (λ i. omega (arith, c.type_inv.bytes i)) c.in-Some.ensures in
    (record { sound = read.good; within = c.allow.ensures.0 (search rules) }, read.whole)

pub returns-then-not-allow-clause-first : goal.returns-then-not-allow-clause-first
returns-then-not-allow-clause-first c =
    let read = spelled-shape_of c.args.bytes.now (c.in-Some.shape, c.in-Some.rest.now) (λ i. omega (arith, c.type_inv.bytes i)) c.in-Some.ensures in
    (refl, over_shape c.args.limits c.args.bytes.now c.in-Some.rest.now c.in-Some.shape read.good read.whole (λ within. not_both_ways c.allow.result (c.allow.ensures.1 within) c.if-not-allow.true))

pub returns-in_default-split_first-clause-first : goal.returns-in_default-split_first-clause-first
returns-in_default-split_first-clause-first c =
    let none : length c.args.bytes.now ≡ 0 = search rules in
    no_shape_yet c.args.limits c.args.bytes.now c.in_default.ensures none

pub returns-in_default-shape_len-clause-first : goal.returns-in_default-shape_len-clause-first
returns-in_default-shape_len-clause-first c =
    let e : c.args.bytes.now ≡ c.in-Some-split_first.number.now ∷ c.in-Some-split_first.field-0-1.now = search rules in
    (refl, unknown_shape c.args.limits c.in-Some-split_first.number.now c.args.bytes.now c.in-Some-split_first.field-0-1.now e c.in_default-shape_len.ensures)

pub returns-then-bytes-len-clause-first : goal.returns-then-bytes-len-clause-first
returns-then-bytes-len-clause-first c =
    let e : c.args.bytes.now ≡ c.in-Some-split_first.number.now ∷ c.in-Some-split_first.field-0-1.now = search rules in
    shape_cut c.args.limits c.args.bytes.now c.in-Some-split_first.field-0-1.now c.in-Some-split_first.number.now c.in-Some-shape_len.len c.in_default.ensures e c.in-Some-shape_len.ensures (omega arith)

pub returns-clause-first : goal.returns-clause-first
returns-clause-first c =
    let e : c.args.bytes.now ≡ c.in-Some-split_first.number.now ∷ c.in-Some-split_first.field-0-1.now = search rules in
    let some = some_length c.args.limits c.in-Some-split_first.number.now c.in-Some-shape_len.len c.in-Some-shape_len.ensures in
    (refl, beyond_shape c.args.limits c.in-Some-split_first.number.now c.in-Some-shape_len.len c.args.bytes.now c.in-Some-split_first.field-0-1.now c.in_default.ensures e c.in-Some-shape_len.ensures some (omega arith))

pub returns-in-Some-clause-few : goal.returns-in-Some-clause-few
returns-in-Some-clause-few c =
    let read = spelled-shape_of c.args.bytes.now (c.in-Some.shape, c.in-Some.rest.now) (λ i. omega (arith, c.type_inv.bytes i)) c.in-Some.ensures in
    few_spelled c.args.bytes.now c.in-Some.rest.now c.in-Some.shape read.good read.whole

pub returns-then-bytes-len-clause-few : goal.returns-then-bytes-len-clause-few
returns-then-bytes-len-clause-few c =
    let few = few_length c.args.limits c.in-Some-split_first.number.now c.in-Some-shape_len.len c.in-Some-shape_len.ensures in
    omega (arith, few)
