use Rattle.std.proofs.Common.{arith, rules, ◌≤◌, ◌+◌, length}
use Rattle.wire.specs.RecordHeads.{body_len, spelled_head}
use Rattle.receiver.specs.Waiting.{ReadsRecords}
use Rattle.receiver.proofs.waiting.lacking_of.Goals as goal

pub returns-clause-lacks : goal.returns-clause-lacks
returns-clause-lacks c = λ some.
    let reads : ReadsRecords c.args.stage.now = rw c.in-Records.is tt in
    let long : 7 ≤ length c.args.held.now = search rules in
    let short : length c.args.held.now + c.saturating_sub.result ≤ length (spelled_head c.in-Whole.head) + body_len c.in-Whole.head = search rules in
    let few : length c.args.held.now + c.saturating_sub.result ≤ 131078 = search rules in
    record {
      reads = reads;
      bytes = λ i. omega (arith, c.type_inv.held i);
      head = c.in-Whole.head;
      begins = c.in-Whole.ensures;
      long = long;
      short = short;
      few = few;
    }
