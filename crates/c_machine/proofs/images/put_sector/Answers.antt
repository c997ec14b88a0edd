use Rattle.std.proofs.Common.{◌≡◌, ℕ, ◌+◌, ◌-◌, ◌*◌, List, Result, Ok, Err, true, refl, ap, ◌∙◌, arith, take, drop}
use Rattle.std.proofs.lemmas.Bool.{false≢true}
use Rattle.std.specs.Prelude.{slice_set}
use Rattle.blk.specs.Disk.{Writes}
use Rattle.blk.specs.declared.disk.DiskFault.{DiskFault}
use Rattle.c_machine.proofs.images.put_sector.Goals as goal

written : (old new : List (List ℕ)) (n : ℕ) (bytes : List ℕ) (result : Result Unit DiskFault)
    → Writes (record { sectors = old; failures = 0; honest = true; steady = true; is_flushed = true }) n bytes result (record { sectors = new; failures = 0; honest = true; steady = true; is_flushed = true })
    → new ≡ slice_set old n bytes
written old new n bytes (Ok done) is = is.set refl
written old new n bytes (Err fault) is = absurd (false≢true (is.keeps.never_fails refl))

pub returns : goal.returns
returns c =
    let size : 512 * c.args.n + 512 - 512 * c.args.n ≡ 512 = omega arith in
    written c.args.disk.now c.write-done.new.self c.args.n c.in-Ok.bytes.now c.write-done.result c.write-done.ensures.written
    ∙ ap (slice_set c.args.disk.now c.args.n) c.in-Ok.ensures.1.same
    ∙ ap (λ (k : ℕ). slice_set c.args.disk.now c.args.n (take k (drop (512 * c.args.n) c.args.image.now))) size
