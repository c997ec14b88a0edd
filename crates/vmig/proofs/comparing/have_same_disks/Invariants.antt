use Rattle.std.proofs.Common.{◌≡◌, ◌<◌, ◌≤◌, ℕ, length}
use Rattle.machine.specs.EffectLaws.{sectors_on}
use Rattle.machine.specs.Seen.{all_marks, state_of}
use Rattle.machine.specs.Sound.{IsSound}
use Rattle.vmig.specs.Comparing.{AreSteady}
use Rattle.vmig.proofs.comparing.have_same_disks.Given as goal

abbrev pub invariant-loop-dev : goal.invariant-loop-dev
invariant-loop-dev g l = record {
  few : l.devices ≤ 16;
  a_sound : IsSound (state_of l.fn.a);
  b_sound : IsSound (state_of l.fn.b);
  a_many : l.devices ≡ length (state_of l.fn.a).devices;
  b_many : l.devices ≡ length (state_of l.fn.b).devices;
  a_state : state_of l.a ≡ state_of l.fn.a;
  b_state : state_of l.b ≡ state_of l.fn.b;
  a_marks : all_marks l.a ≡ all_marks l.fn.a;
  b_marks : all_marks l.b ≡ all_marks l.fn.b;
  same : AreSteady (all_marks l.fn.a) → AreSteady (all_marks l.fn.b) → (k : ℕ) → k < l.dev → sectors_on (state_of l.fn.a) k ≡ sectors_on (state_of l.fn.b) k;
}
