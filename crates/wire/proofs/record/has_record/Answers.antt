use Rattle.std.proofs.Common.{arith, rules, false, ◌≡◌, ◌==◌, length, take, ◌∙◌, ap}
use Rattle.std.proofs.lemmas.List.{take_all}
use Rattle.std.proofs.lemmas.Bool.{ne_eqb}
use Rattle.guestmem.specs.Zeros.{are_zeros}
use Rattle.wire.proofs.PageRecords.{page_is_of}
use Rattle.wire.proofs.record.has_record.Goals as goal

pub returns-else-version-eq-FIRST_VERSION : goal.returns-else-version-eq-FIRST_VERSION
returns-else-version-eq-FIRST_VERSION c =
    let later : (c.args.version == 1) ≡ false = ne_eqb c.args.version 1 (search rules) in
    let long : length c.args.body.now ≡ 4096 = rw c.in-Page.is at c.requires in
    let bytes : c.in-Some.page.now ≡ take 4096 c.args.body.now = search rules in
    let all : c.in-Some.page.now ≡ c.args.body.now = bytes ∙ take_all 4096 c.args.body.now (omega (arith, long)) in
    rw c.in-Page.is (page_is_of c.args.version c.in-Page.number c.args.body.now c.is_zero.result later (c.is_zero.ensures ∙ ap are_zeros all))
