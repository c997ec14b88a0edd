use Rattle.std.proofs.Common.{false, length, refl, subst, ◌≡◌, ℕ}
use Rattle.chains.specs.Footprint.{Knows, list_pieces, table_pieces}
use Rattle.chains.specs.RingCore.{core_state}
use Rattle.chains.specs.SplitChain.{head}
use Rattle.chains.proofs.LackLaws.{lacks_then}
use Rattle.chains.proofs.lacking.lacks_chain.Goals as goal

pub returns-in-Breaks : goal.returns-in-Breaks
returns-in-Breaks c = λ b h.
    let q = core_state false c.args.core.now in
    let ram = c.args.ram.now.bytes in
    let first : c.u16_at-first.result ≡ head ram q = c.u16_at-first.ensures in
    let known = subst (λ (index : ℕ). Knows c.args.held.now ram (list_pieces (table_pieces ram q) ram q.descriptors q.size q.size index)) first (c.in-Breaks.ensures (table_pieces ram q)) in
    (c.if-not-is_held.ensures.known refl ram b h, known b h)

pub returns-in-Ends : goal.returns-in-Ends
returns-in-Ends c =
    let q = core_state false c.args.core.now in
    let ram = c.args.ram.now.bytes in
    let held = c.args.held.now in
    let first : c.u16_at-first.result ≡ head ram q = c.u16_at-first.ensures in
    let Walks : ℕ → Type 0 = λ index. Knows held ram (list_pieces (table_pieces ram q) ram q.descriptors q.size q.size index) in
    lacks_then (length ram) held c.lacks_table.result
    (λ table b h. (c.if-not-is_held.ensures.known refl ram b h, subst Walks first (c.in-Ends.ensures (table_pieces ram q) table) b h))
    c.lacks_table.ensures
