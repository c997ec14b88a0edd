use Rattle.std.proofs.Common.{◌≡◌, ◌≤◌, length}
use Rattle.machine.specs.State.{MachineState}
use Rattle.sender.specs.Items.{AreShapesOf}
use Rattle.sender.proofs.Numbers.{Seeks}
use Rattle.sender.proofs.numbering.item_in.Given as goal

abbrev pub invariant-loop-dev : goal.invariant-loop-dev
invariant-loop-dev l = record {
  end : l.dev-end ≡ length l.shapes;
  few : l.dev-end ≤ 16;
  seeks : (m : MachineState) → AreShapesOf l.pages l.shapes m → Seeks m l.number l.dev l.first;
}
