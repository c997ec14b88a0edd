use Rattle.std.proofs.Common.{◌≡◌, ◌<◌, length, ap, arith, ◌∙◌}
use Rattle.blk.specs.FaultDisk.{FaultState}
use Rattle.blk.proofs.fault_disk.FaultDiskDisk.write.Goals as goal

pub write-requires : goal.write-requires
write-requires g c =
    let same : length (g.D.Disk.state c.self.inside.disk).sectors ≡ length c.args.self.now.disk.sectors = ap (λ (f : FaultState). length f.disk.sectors) (c.self.view_is ∙ c.is_next_to_fail.ensures.calls) in
    let within : c.args.n < length c.args.self.now.disk.sectors = c.requires in
    omega (arith, same, within)
