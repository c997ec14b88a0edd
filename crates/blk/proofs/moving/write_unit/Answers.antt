use Rattle.std.proofs.Common.{◌≡◌, ◌∙◌, sym, true, false}
use Rattle.std.specs.Prelude.{Result, Ok, Err, OnErr, OnOk, is_err}
use Rattle.std.proofs.lemmas.Bool.{true≢false}
use Rattle.guestmem.proofs.RisesLaws.{rises_sector}
use Rattle.blk.proofs.Given.{wrote, wrote_none}
use Rattle.blk.proofs.moving.write_unit.Goals as goal

on_ok : {T E : Type 0} (result : Result T E) (P : Type 0) → is_err result ≡ false → OnOk result P → P
on_ok (Ok x) P fine h = h
on_ok (Err e) P fine h = absurd (true≢false fine)

on_err : {T E : Type 0} (result : Result T E) (P : Type 0) → is_err result ≡ true → OnErr result P → P
on_err (Ok x) P failed h = absurd (true≢false (sym failed))
on_err (Err e) P failed h = h

pub returns-then-is_err-clause-moved : goal.returns-then-is_err-clause-moved
returns-then-is_err-clause-moved g c =
    let failed : is_err c.write-written.result ≡ true = sym c.is_err.ensures.value ∙ c.if-is_err.true in
    λ ram. wrote_none _ c.args.sectors.now.honest c.args.device ram.bytes c.args.bytes.now c.args.sectors.now.content c.args.request.now c.write-written.new.self.content c.requires.whole
    (rw (← c.next_sector-n.ensures) (on_err c.write-written.result _ failed c.write-written.ensures.err)) (rw (← c.next_sector-n.ensures) (record { log_is = cc; rises = rises_sector c.args.device c.next_sector-n.result ram }))

pub returns-clause-moved : goal.returns-clause-moved
returns-clause-moved g c =
    let fine : is_err c.write-written.result ≡ false = sym c.is_err.ensures.value ∙ c.if-is_err.false in
    λ ram. wrote _ c.args.sectors.now.honest c.args.device ram.bytes c.args.bytes.now c.args.sectors.now.content c.args.request.now c.write-written.new.self.content c.requires.whole
    (rw (← c.next_sector-n.ensures) (on_ok c.write-written.result _ fine c.write-written.ensures.good)) (rw (← c.next_sector-n.ensures) (on_ok c.write-written.result _ fine c.write-written.ensures.ok)) (rw (← c.next_sector-n.ensures) (record { log_is = cc; rises = rises_sector c.args.device c.next_sector-n.result ram }))
