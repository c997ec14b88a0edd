use Rattle.std.proofs.Common.{ℕ, List, ◌≡◌, ◌≤◌, ◌++◌, ◌-◌, map, take, length}
use Rattle.receiver.specs.Disks.{sizes_of}
use Rattle.receiver.specs.Fed.{IsUpTo}
use Rattle.receiver.specs.Standing.{IsSized}
use Rattle.receiver.specs.Sums.{IsClear, SaysOn}
use Rattle.receiver.specs.declared.ram_terms.RamTerms.{RamTerms}
use Rattle.receiver.proofs.Working.{SoFar}
use Rattle.receiver.proofs.intake.work_off.Given as goal

abbrev pub invariant-loop-at : goal.invariant-loop-at
invariant-loop-at g l = record {
  within : l.at ≤ length l.bytes;
  sized : IsSized l.intake;
  sizes : sizes_of g.D.Disk.state l.disks ≡ sizes_of g.D.Disk.state l.fn.disks;
  shapes : l.intake.shapes.items ≡ l.fn.intake.shapes.items;
  place : l.intake.ram.place ≡ l.fn.intake.ram.place;
  says : SaysOn (g.S.Summing.seen l.fn.taken) (g.S.Summing.seen l.taken);
  read : (ram : RamTerms) (front : List ℕ) → IsUpTo l.fn.intake.ended ram (map g.D.Disk.state l.fn.disks) (g.S.Summing.seen l.fn.taken) front l.fn.intake
      → IsClear (g.S.Summing.seen l.fn.taken) ram (sizes_of g.D.Disk.state l.fn.disks) (front ++ l.bytes) → SoFar ram (map g.D.Disk.state l.fn.disks) (map g.D.Disk.state l.disks) l.intake (g.S.Summing.seen l.taken) (front ++ take l.at l.bytes);
}

abbrev pub decreases-loop-at : goal.decreases-loop-at
decreases-loop-at g l = length l.bytes - l.at
