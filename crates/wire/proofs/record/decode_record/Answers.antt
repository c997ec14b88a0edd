use Rattle.std.proofs.Common.{arith, rules, ◌≡◌, ◌≤◌, true, length, take, drop}
use Rattle.wire.specs.RecordHeads.{body_len, spelled_head}
use Rattle.wire.proofs.Heads.{begins_with, no_body, not_of_version, nothing_found}
use Rattle.wire.proofs.record.decode_record.Goals as goal

pub returns-in_default : goal.returns-in_default
returns-in_default c = record { «record» = nothing_found c.args.version c.args.bytes.now c.read_head.result c.read_head.ensures c.in_default.not-Whole; within = tt }

pub returns-then-behind-body_len-clause-record : goal.returns-then-behind-body_len-clause-record
returns-then-behind-body_len-clause-record c =
    let begins = c.in-Whole.ensures in
    let behind : c.split_at.result.1.now ≡ drop (length (spelled_head c.in-Whole.head)) c.args.bytes.now = search rules in
    no_body c.args.version c.args.bytes.now c.split_at.result.1.now c.in-Whole.head begins.fits (rw behind begins.whole) (omega arith)

pub returns-then-not-has_record-clause-record : goal.returns-then-not-has_record-clause-record
returns-then-not-has_record-clause-record c =
    let head = c.in-Whole.head in
    let front = length (spelled_head head) in
    let behind : c.split_at.result.1.now ≡ drop front c.args.bytes.now = search rules in
    let body : c.split_at-2.result.0.now ≡ take (body_len head) (drop front c.args.bytes.now) = search rules in
    let room : body_len head ≤ length (drop front c.args.bytes.now) = rw (← behind) (omega arith) in
    not_of_version c.args.version c.args.bytes.now c.split_at-2.result.0.now head (λ i. omega (arith, c.type_inv.bytes i)) c.in-Whole.ensures body room
    (λ has. let is : c.has_record.result ≡ true = c.has_record.ensures.1 has in cc)

pub returns-clause-record : goal.returns-clause-record
returns-clause-record c =
    let head = c.in-Whole.head in
    let front = length (spelled_head head) in
    let behind : c.split_at.result.1.now ≡ drop front c.args.bytes.now = search rules in
    let body : c.split_at-2.result.0.now ≡ take (body_len head) (drop front c.args.bytes.now) = search rules in
    let room : body_len head ≤ length (drop front c.args.bytes.now) = rw (← behind) (omega arith) in
    rw (c.record_of.ensures, c.head_len-2.ensures.len)
    (begins_with c.args.version c.args.bytes.now c.split_at-2.result.0.now head (λ i. omega (arith, c.type_inv.bytes i)) c.in-Whole.ensures body room (c.has_record.ensures.0 (search rules)))
