use Rattle.std.proofs.Common.{arith, rules, refl, subst, sym, ap, ◌∙◌, ◌≡◌, ℕ, inl, drop, true, false}
use Rattle.std.specs.List.{list_any}
use Rattle.std.proofs.lemmas.Result.{err_from_is_err_and}
use Rattle.guestmem.specs.Number.{number_at}
use Rattle.wire.specs.Header.{is_late}
use Rattle.wire.specs.HeaderFaults.{IsRead, Says, limits_in}
use Rattle.wire.proofs.HeaderLemmas.{behind}
use Rattle.wire.proofs.HeaderParts.{begins_so, bad_count, head_part, head_short, not_both_ways, plain_third, told_shapes, within_so}
use Rattle.wire.proofs.header.read_header.Goals as goal

pub returns-then-bytes-lt4-clause-read : goal.returns-then-bytes-lt4-clause-read
returns-then-bytes-lt4-clause-read c = head_short c.args.limits c.args.bytes.now (omega arith) (λ at h. omega (arith, h.long)) (λ at h. omega (arith, h.long))

pub returns-then-bytes-lt8-clause-read : goal.returns-then-bytes-lt8-clause-read
returns-then-bytes-lt8-clause-read c =
    let magic : number_at c.args.bytes.now 0 4 ≡ 0x47494d56 = search rules in
    head_short c.args.limits c.args.bytes.now (omega arith) (λ at h. h.never magic) (λ at h. omega (arith, h.long))

pub returns-then-not-is_version-clause-refused : goal.returns-then-not-is_version-clause-refused
returns-then-not-is_version-clause-refused c =
    let never : ¬ (IsRead c.args.limits (number_at c.args.bytes.now 4 4)) = λ read.
    not_both_ways c.is_version.result (c.is_version.ensures.known.1 (subst (IsRead c.args.limits) (sym c.u32_at-version.ensures) read)) c.if-not-is_version.true in
    (8, inl (record { long = omega arith; magic = search rules; never = never; there = refl }))

pub returns-then-bytes-lt-FRONT_LEN-clause-read : goal.returns-then-bytes-lt-FRONT_LEN-clause-read
returns-then-bytes-lt-FRONT_LEN-clause-read c =
    let magic : number_at c.args.bytes.now 0 4 ≡ 0x47494d56 = search rules in
    let version : IsRead c.args.limits (number_at c.args.bytes.now 4 4) = subst (IsRead c.args.limits) c.u32_at-version.ensures (c.is_version.ensures.known.0 (search rules)) in
    head_short c.args.limits c.args.bytes.now (omega arith) (λ at h. h.never magic) (λ at h. h.never version)

pub returns-then-not-may_count-clause-refused : goal.returns-then-not-may_count-clause-refused
returns-then-not-may_count-clause-refused c =
    let says : Says c.args.limits c.args.bytes.now c.u32_at-pages.result c.u32_at-count.result = record { long = omega arith; magic = search rules; known = subst (IsRead c.args.limits) c.u32_at-version.ensures (c.is_version.ensures.known.0 (search rules)); pages_are = search rules; count_is = search rules } in
    bad_count c.args.limits c.args.bytes.now c.u32_at-pages.result c.u32_at-count.result says (λ may. not_both_ways c.may_count.result (c.may_count.ensures.1 may) c.if-not-may_count.true)

pub returns-in_err-shapes-clause-refused : goal.returns-in_err-shapes-clause-refused
returns-in_err-shapes-clause-refused c =
    let says : Says c.args.limits c.args.bytes.now c.u32_at-pages.result c.u32_at-count.result = record { long = omega arith; magic = search rules; known = subst (IsRead c.args.limits) c.u32_at-version.ensures (c.is_version.ensures.known.0 (search rules)); pages_are = search rules; count_is = search rules } in
    let may = c.may_count.ensures.0 (search rules) in
    let rest : c.split_at.result.1.now ≡ drop 16 c.args.bytes.now = search rules in
    let told = err_from_is_err_and c.from_residual.result c.from_residual.ensures.1 in
    let lims : c.limits_in.result ≡ limits_in (number_at c.args.bytes.now 4 4) c.args.limits = c.limits_in.ensures ∙ ap (λ (v : ℕ). limits_in v c.args.limits) c.u32_at-version.ensures in
    rw (told.1, told.2) (told_shapes c.args.limits c.args.bytes.now c.u32_at-pages.result c.u32_at-count.result c.in_err-shapes.field-0.0 says may (rw (lims, rest) at c.in_err-shapes.ensures.read))

pub returns-in_default-clause-read : goal.returns-in_default-clause-read
returns-in_default-clause-read c =
    let says : Says c.args.limits c.args.bytes.now c.u32_at-pages.result c.u32_at-count.result = record { long = omega arith; magic = search rules; known = subst (IsRead c.args.limits) c.u32_at-version.ensures (c.is_version.ensures.known.0 (search rules)); pages_are = search rules; count_is = search rules } in
    let may = c.may_count.ensures.0 (search rules) in
    let rest : c.split_at.result.1.now ≡ drop 16 c.args.bytes.now = search rules in
    let lims : c.limits_in.result ≡ limits_in (number_at c.args.bytes.now 4 4) c.args.limits = c.limits_in.ensures ∙ ap (λ (v : ℕ). limits_in v c.args.limits) c.u32_at-version.ensures in
    head_part c.args.limits c.args.bytes.now c.u32_at-pages.result c.u32_at-count.result says may (rw (c.in_default.is, lims, rest) at c.in_ok-shapes.ensures.read)

pub returns-then-not-has_late-clause-refused : goal.returns-then-not-has_late-clause-refused
returns-then-not-has_late-clause-refused c =
    let says : Says c.args.limits c.args.bytes.now c.u32_at-pages.result c.u32_at-count.result = record { long = omega arith; magic = search rules; known = subst (IsRead c.args.limits) c.u32_at-version.ensures (c.is_version.ensures.known.0 (search rules)); pages_are = search rules; count_is = search rules } in
    let may = c.may_count.ensures.0 (search rules) in
    let rest : c.split_at.result.1.now ≡ drop 16 c.args.bytes.now = search rules in
    let lims : c.limits_in.result ≡ limits_in (number_at c.args.bytes.now 4 4) c.args.limits = c.limits_in.ensures ∙ ap (λ (v : ℕ). limits_in v c.args.limits) c.u32_at-version.ensures in
    let late : number_at c.args.bytes.now 4 4 ≡ 3 = search rules in
    let none : list_any is_late c.in-Some.shapes.items ≡ false = search rules in
    plain_third c.args.limits c.args.bytes.now c.u32_at-pages.result c.u32_at-count.result c.in-Some.shapes.items c.in-Some.rest.now says may (rw (c.in-Some.is, lims, rest) at c.in_ok-shapes.ensures.read) late none

pub returns-clause-read : goal.returns-clause-read
returns-clause-read c =
    let says : Says c.args.limits c.args.bytes.now c.u32_at-pages.result c.u32_at-count.result = record { long = omega arith; magic = search rules; known = subst (IsRead c.args.limits) c.u32_at-version.ensures (c.is_version.ensures.known.0 (search rules)); pages_are = search rules; count_is = search rules } in
    let may = c.may_count.ensures.0 (search rules) in
    let rest : c.split_at.result.1.now ≡ drop 16 c.args.bytes.now = search rules in
    let late : c.u32_at-version.result ≡ 3 → list_any is_late c.in-Some.shapes.items ≡ true = λ third. search rules in
    let begins = begins_so c.args.limits c.args.bytes.now c.u32_at-version.result c.u32_at-pages.result c.u32_at-count.result _ _ (omega arith) (λ i. omega (arith, c.type_inv.bytes i)) c.u32_at-version.ensures says may (rw (c.in-Some.is, c.limits_in.ensures, rest) at c.in_ok-shapes.ensures.read) late in
    let after = behind _ c.in-Some.rest.now c.args.bytes.now begins.whole in
    (omega (arith, after.shorter), rw after.dropped begins)

pub returns-clause-within : goal.returns-clause-within
returns-clause-within c =
    let may = c.may_count.ensures.0 (search rules) in
    within_so c.args.limits c.u32_at-version.result c.u32_at-pages.result c.u32_at-count.result _ _ _ may (rw (c.in-Some.is, c.limits_in.ensures) at c.in_ok-shapes.ensures.read)
