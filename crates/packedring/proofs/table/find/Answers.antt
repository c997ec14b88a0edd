use Rattle.std.proofs.Common.{true, rules}
use Rattle.std.proofs.lemmas.Result.{err_from_is_err_and}
use Rattle.chains.specs.RingCore.{core_state}
use Rattle.packedring.proofs.Finding.{named_chain, none_few, named_none, table_made}
use Rattle.packedring.proofs.table.find.Goals.{then-first-via-then-first, then-first-via-else-first+then-not-has_indirect, then-first-via-else-first+else-not-has_indirect+then-not-is_table}
use Rattle.packedring.proofs.table.find.Goals as goal

pub returns-then-first-clause-gives : goal.returns-then-first-clause-gives
returns-then-first-clause-gives c = λ chain is.
    let n = named_chain c.args.ram.now.bytes (core_state true c.args.core.now) c.args.first c.requires.first (search rules) chain is in
    elim c.then-first.branch as (λ _. ⊥) [
      | then-first-via-then-first w ↦ absurd (search (rules, n.alone, w.if-first))
      | then-first-via-else-first+then-not-has_indirect w ↦ absurd (search (rules, n.feature, w.if-not-has_indirect))
      | then-first-via-else-first+else-not-has_indirect+then-not-is_table w ↦ absurd (search (rules, n.table, w.is_table.ensures, w.if-not-is_table))
    ]

pub returns-then-count-core-clause-gives : goal.returns-then-count-core-clause-gives
returns-then-count-core-clause-gives c = none_few _ (core_state true c.args.core.now) c.args.first c.requires.first (search rules) c.if-count-core.true

pub returns-in_err-add_entries-clause-gives : goal.returns-in_err-add_entries-clause-gives
returns-in_err-add_entries-clause-gives c =
    let why = err_from_is_err_and c.from_residual.result c.from_residual.ensures.1 in
    rw (why.1, why.2)
    (named_none _ c.args.core.now c.args.first c.add_entries.new.chain _ c.requires.first (search rules) (search rules) (search rules) (search rules) c.if-count-core.false c.in_err-add_entries.ensures.gives)

pub returns-clause-gives : goal.returns-clause-gives
returns-clause-gives c =
    table_made _ c.args.core.now c.args.first c.add_entries.new.chain c.ended.result c.requires.first (search rules) (search rules) (search rules) (search rules) c.if-count-core.false
    c.in_ok-add_entries.ensures.gives c.ended.ensures
