use Rattle.std.proofs.Common.{◌≡◌, ◌-◌, ◌^◌, ℕ, length, ap, arith}
use Rattle.std.proofs.lemmas.List.{length-replicate}
use Rattle.dirtylog.proofs.All.{all_full, all_cut}
use Rattle.dirtylog.proofs.bits.set_all.Goals as goal

pub returns-then-used-ne0-clause-all : goal.returns-then-used-ne0-clause-all
returns-then-used-ne0-clause-all c =
    let count : c.len-last.result ≡ length c.args.words.now.items = omega (arith, c.len-last.ensures, ap length c.fill.ensures, length-replicate {A = ℕ} (length c.args.words.now.items) (2 ^ 64 - 1)) in
    rw (c.fill.ensures, count) (all_cut (length c.args.words.now.items) c.args.len c.requires c.if-used-ne0.true)

pub returns-else-used-ne0-clause-all : goal.returns-else-used-ne0-clause-all
returns-else-used-ne0-clause-all c = rw c.fill.ensures (all_full (length c.args.words.now.items) c.args.len c.requires c.if-used-ne0.false)
