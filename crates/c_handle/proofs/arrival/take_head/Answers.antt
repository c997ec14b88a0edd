use Rattle.std.proofs.Common.{◌≡◌, ◌∙◌, ◌++◌, ◌-◌, ◌≤◌, List, ap, length, min, take, ℕ, refl, rules, subst}
use Rattle.machine.specs.Limits.{AreWithin}
use Rattle.machine.specs.Shapes.{disk_sizes}
use Rattle.wire.specs.Header.{said}
use Rattle.receiver.specs.Faults.{WaitsHead}
use Rattle.receiver.specs.Opened.{told_by}
use Rattle.receiver.specs.Receiving.{place_aside}
use Rattle.c_handle.specs.Awaited.{IsFedTo, TellsWhy}
use Rattle.c_handle.specs.Headed.{HasHeader}
use Rattle.c_handle.proofs.Awaited.{begun_coming, cut_piece, fits_header, head_waits, rest_refused, rest_taken, told_head, told_longer, within_terms}
use Rattle.c_handle.proofs.arrival.take_head.Goals as goal

pub returns-in-Ok-clause-goes_on : goal.returns-in-Ok-clause-goes_on
returns-in-Ok-clause-goes_on c =
    let ram = told_by c.args.terms c.args.ram in
    let bytes = c.extend_from_slice.new.self.items in
    let opening = said c.in-Ok-Some.header in
    let held : bytes ≡ c.args.held.items ++ c.split_at.result.0.now = search rules in
    let all = cut_piece c.args.held.items bytes c.args.piece.now _ _ c.min-few.result held (search rules) (search rules) in
    let found = rw (c.in-Ok-Some.field-0-is, c.deref.ensures.value) at c.in-Ok-Some.ensures.read in
    let within = within_terms c.args.terms c.args.ram opening (rw c.in-Ok-Some.field-0-is at c.in-Ok-Some.ensures.within) in
    let fed : IsFedTo ram (place_aside c.args.ram) (disk_sizes c.in-Ok-Some.header.shapes.items) bytes c.in-Ok.receiver = rw (c.deref-in-Ok-Some.ensures.value, c.deref-in-Ok-Some-2.ensures.value) at c.in-Ok.ensures.begun in
    rest_taken c.take_body.result c.in-Ok.receiver bytes c.split_at.result.1.now _ (begun_coming ram (place_aside c.args.ram) c.in-Ok.receiver bytes opening _ found.1 within fed) all c.take_body.ensures.fed

pub returns-in-Ok-clause-refused : goal.returns-in-Ok-clause-refused
returns-in-Ok-clause-refused c =
    let ram = told_by c.args.terms c.args.ram in
    let bytes = c.extend_from_slice.new.self.items in
    let opening = said c.in-Ok-Some.header in
    let held : bytes ≡ c.args.held.items ++ c.split_at.result.0.now = search rules in
    let all = cut_piece c.args.held.items bytes c.args.piece.now _ _ c.min-few.result held (search rules) (search rules) in
    let found = rw (c.in-Ok-Some.field-0-is, c.deref.ensures.value) at c.in-Ok-Some.ensures.read in
    let within = within_terms c.args.terms c.args.ram opening (rw c.in-Ok-Some.field-0-is at c.in-Ok-Some.ensures.within) in
    let fed : IsFedTo ram (place_aside c.args.ram) (disk_sizes c.in-Ok-Some.header.shapes.items) bytes c.in-Ok.receiver = rw (c.deref-in-Ok-Some.ensures.value, c.deref-in-Ok-Some-2.ensures.value) at c.in-Ok.ensures.begun in
    rest_refused c.take_body.result ram c.in-Ok.receiver bytes c.split_at.result.1.now _ fed.ram_is (begun_coming ram (place_aside c.args.ram) c.in-Ok.receiver bytes opening _ found.1 within fed) all c.take_body.ensures.refused

pub returns-in-Ok-Some-clause-refused : goal.returns-in-Ok-Some-clause-refused
returns-in-Ok-Some-clause-refused c =
    let ram = told_by c.args.terms c.args.ram in
    let bytes = c.extend_from_slice.new.self.items in
    let opening = said c.in-Ok-Some.header in
    let shapes = c.in-Ok-Some.header.shapes.items in
    let held : bytes ≡ c.args.held.items ++ c.split_at.result.0.now = search rules in
    let all = cut_piece c.args.held.items bytes c.args.piece.now _ _ c.min-few.result held (search rules) (search rules) in
    let found = rw (c.in-Ok-Some.field-0-is, c.deref.ensures.value) at c.in-Ok-Some.ensures.read in
    let within : AreWithin c.args.terms.limits opening.pages opening.shapes = rw c.in-Ok-Some.field-0-is at c.in-Ok-Some.ensures.within in
    let header : HasHeader ram.limits bytes (disk_sizes shapes) = record { opening = opening; rest = _; begins = found.1; within = within_terms c.args.terms c.args.ram opening within; sizes_are = refl } in
    let refused = rw (c.deref-in-Ok-Some.ensures.value, c.deref-in-Ok-Some-2.ensures.value) at c.in-Err-begun.ensures.refused in
    subst (λ (b : List ℕ). TellsWhy ram b c.in-Err-begun.error) all
    (told_longer ram bytes c.split_at.result.1.now (disk_sizes shapes) c.in-Err-begun.error header (refused (fits_header c.args.terms.limits bytes opening _ found.1 within)))

pub returns-in-Ok-None-clause-goes_on : goal.returns-in-Ok-None-clause-goes_on
returns-in-Ok-None-clause-goes_on c =
    let bytes = c.extend_from_slice.new.self.items in
    let held : bytes ≡ c.args.held.items ++ c.split_at.result.0.now = search rules in
    let front : c.split_at.result.0.now ≡ take c.min-few.result c.args.piece.now = search rules in
    let size : c.min-few.result ≡ min (length c.args.piece.now) (496 - length c.args.held.items) = search rules in
    let short : length bytes ≤ 495 = rw (c.in-Ok-None.field-0-is, c.deref.ensures.value) at c.in-Ok-None.ensures.few refl in
    let waits : WaitsHead c.args.terms.limits bytes = rw (c.in-Ok-None.field-0-is, c.deref.ensures.value) at c.in-Ok-None.ensures.read in
    head_waits c.args.terms c.args.ram c.args.held.items bytes c.args.piece.now c.min-few.result (held ∙ ap (λ (l : List ℕ). c.args.held.items ++ l) front) size short waits

pub returns-clause-refused : goal.returns-clause-refused
returns-clause-refused c =
    let bytes = c.extend_from_slice.new.self.items in
    let held : bytes ≡ c.args.held.items ++ c.split_at.result.0.now = search rules in
    let all = cut_piece c.args.held.items bytes c.args.piece.now _ _ c.min-few.result held (search rules) (search rules) in
    told_head c.args.terms c.args.ram bytes c.split_at.result.1.now _ c.in-Err.error all (rw (c.in-Err.error-is, c.deref.ensures.value) at c.in-Err.ensures.refused)
