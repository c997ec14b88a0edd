use Rattle.std.proofs.Common.{◌≡◌, ◌++◌, rules}
use Rattle.wire.specs.Header.{said}
use Rattle.c_handle.proofs.Admissions.{admitted, faulty, full, unfit}
use Rattle.c_handle.proofs.Awaited.{cut_piece}
use Rattle.c_handle.proofs.admission.compared.Goals as goal

pub returns-then-is_err-clause-refused : goal.returns-then-is_err-clause-refused
returns-then-is_err-clause-refused c = full c.args.allowed c.args.expected.items _ _ c.stream_status.ensures

pub returns-in-Ok-Some-clause-let_in : goal.returns-in-Ok-Some-clause-let_in
returns-in-Ok-Some-clause-let_in c =
    let held : c.deref.result.now ≡ c.args.held.items ++ c.split_at.result.0.now = search rules in
    let found = rw c.in-Ok-Some.field-0-is at c.in-Ok-Some.ensures.read in
    admitted c.args.allowed c.args.expected.items _ c.deref.result.now c.split_at.result.1.now (said c.in-Ok-Some.header) _
    (cut_piece c.args.held.items c.deref.result.now c.args.piece.now _ _ c.min-few.result held (search rules) (search rules)) found.1 (rw c.in-Ok-Some.field-0-is at c.in-Ok-Some.ensures.within) (search rules)

pub returns-in-Some-clause-refused : goal.returns-in-Some-clause-refused
returns-in-Some-clause-refused c =
    let held : c.deref.result.now ≡ c.args.held.items ++ c.split_at.result.0.now = search rules in
    let found = rw c.in-Ok-Some.field-0-is at c.in-Ok-Some.ensures.read in
    unfit c.args.allowed c.args.expected.items _ c.deref.result.now c.split_at.result.1.now (said c.in-Ok-Some.header) _ _
    (cut_piece c.args.held.items c.deref.result.now c.args.piece.now _ _ c.min-few.result held (search rules) (search rules)) found.1 (rw c.in-Ok-Some.field-0-is at c.in-Ok-Some.ensures.within) (search rules)

pub returns-clause-refused : goal.returns-clause-refused
returns-clause-refused c =
    let held : c.deref.result.now ≡ c.args.held.items ++ c.split_at.result.0.now = search rules in
    faulty c.args.allowed c.args.expected.items _ c.deref.result.now c.split_at.result.1.now c.in-Err.error _
    (cut_piece c.args.held.items c.deref.result.now c.args.piece.now _ _ c.min-few.result held (search rules) (search rules)) c.in-Err.ensures.refused c.stream_status-in-Err.ensures
