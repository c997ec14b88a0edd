use Rattle.std.proofs.Common.{rules, ◌≡◌, replicate}
use Rattle.std.proofs.lemmas.List.Elements.{same_from_all_zip}
use Rattle.blk.proofs.Zeros.{zero_sectors}
use Rattle.blk.proofs.mem_disk.MemDisk.new.Goals as goal

pub returns : goal.returns
returns c = c.in_ok-sectors.ensures.items_if_clones_equal (λ y h. search (rules, same_from_all_zip))

pub invariant_of-result : goal.invariant_of-result
invariant_of-result c =
    let zeros : c.in_ok-sectors.sectors.items ≡ replicate c.args.sectors (replicate 512 0) = c.in_ok-sectors.ensures.items_if_clones_equal (λ y h. search (rules, same_from_all_zip)) in
    rw zeros (zero_sectors c.args.sectors)
