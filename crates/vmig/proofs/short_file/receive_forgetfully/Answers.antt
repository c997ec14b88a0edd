use Rattle.std.proofs.Common.{◌≡◌, take, rules}
use Rattle.std.proofs.lemmas.Result.{IfErr-weaker}
use Rattle.wire.specs.Header.{said}
use Rattle.vmig.proofs.ForgetfulDisks.{short_told}
use Rattle.vmig.specs.Allowing.{program_terms}
use Rattle.vmig.specs.Checking.{TellsOfChecked}
use Rattle.vmig.proofs.short_file.receive_forgetfully.Goals as goal

pub returns : goal.returns
returns g c =
    let front = take c.args.front.count c.args.front.piece.items in
    let terms = program_terms c.args.outside in
    let shapes : c.as_slice.result.now ≡ c.args.header.shapes.items = search rules in
    let disks = rw shapes at c.in_ok-disks.ensures in
    IfErr-weaker c.receive_rest.result _ (TellsOfChecked c.args.outside c.args.name.now)
    (λ fault told. short_told c.args.outside c.args.name.now front (said c.args.header) _ c.in_ok-disks.disks.items fault c.requires.begins c.requires.limits disks (rw (c.with_terms-receiver.ensures.sizes, c.with_terms-receiver.ensures.marks) at (told terms (search rules)))) c.receive_rest.ensures.failed
