use Rattle.std.proofs.Common.{◌≡◌, ◌∙◌, ◌++◌, [], List, ℕ, rules, subst}
use Rattle.std.proofs.lemmas.List.{append-nil}
use Rattle.machine.specs.Shapes.{disk_sizes}
use Rattle.wire.specs.Header.{said}
use Rattle.receiver.specs.Faults.{WaitsHead}
use Rattle.receiver.specs.Opened.{told_by}
use Rattle.receiver.specs.Receiving.{place_aside}
use Rattle.c_handle.specs.ArrivalSeen.{AtBody}
use Rattle.c_handle.specs.Awaited.{GoesOnWith, IsFedTo}
use Rattle.c_handle.proofs.Awaited.{begun_coming, told_head, waits_on, within_terms}
use Rattle.c_handle.proofs.ToldArrival.{ends_header}
use Rattle.c_handle.proofs.told_arrival.take_byte.Goals as goal

pub begun-requires : goal.begun-requires
begun-requires c =
    let all : c.extend_from_slice.new.self.items ≡ c.args.held.items ++ c.args.byte.now = search rules in
    rw c.deref-in-Ok-Some-2.ensures.value (ends_header c.args.held.items c.extend_from_slice.new.self.items c.args.byte.now all c.requires.one c.requires.none)

pub returns-in-Ok-clause-goes_on : goal.returns-in-Ok-clause-goes_on
returns-in-Ok-clause-goes_on c =
    let ram = told_by c.args.terms c.args.ram in
    let bytes = c.extend_from_slice.new.self.items in
    let opening = said c.in-Ok-Some.header in
    let all : bytes ≡ c.args.held.items ++ c.args.byte.now = search rules in
    let found = rw (c.in-Ok-Some.field-0-is, c.deref.ensures.value) at c.in-Ok-Some.ensures.read in
    let within = within_terms c.args.terms c.args.ram opening (rw c.in-Ok-Some.field-0-is at c.in-Ok-Some.ensures.within) in
    let fed : IsFedTo ram (place_aside c.args.ram) (disk_sizes c.in-Ok-Some.header.shapes.items) bytes c.in-Ok.receiver = rw (c.deref-in-Ok-Some.ensures.value, c.deref-in-Ok-Some-2.ensures.value) at c.in-Ok.ensures.begun in
    subst (λ (b : List ℕ). GoesOnWith b (AtBody c.in-Ok.receiver)) all (begun_coming ram (place_aside c.args.ram) c.in-Ok.receiver bytes opening _ found.1 within fed)

pub returns-in-Ok-None-clause-goes_on : goal.returns-in-Ok-None-clause-goes_on
returns-in-Ok-None-clause-goes_on c =
    let bytes = c.extend_from_slice.new.self.items in
    let all : bytes ≡ c.args.held.items ++ c.args.byte.now = search rules in
    let waits : WaitsHead c.args.terms.limits bytes = rw (c.in-Ok-None.field-0-is, c.deref.ensures.value) at c.in-Ok-None.ensures.read in
    waits_on c.args.terms c.args.ram bytes (c.args.held.items ++ c.args.byte.now) all waits

pub returns-clause-refused : goal.returns-clause-refused
returns-clause-refused c =
    let bytes = c.extend_from_slice.new.self.items in
    let all : bytes ≡ c.args.held.items ++ c.args.byte.now = search rules in
    told_head c.args.terms c.args.ram bytes [] _ c.in-Err.error (append-nil bytes ∙ all) (rw (c.in-Err.error-is, c.deref.ensures.value) at c.in-Err.ensures.refused)
