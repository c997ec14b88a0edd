use Rattle.std.proofs.Common.{◌≡◌, ◌<◌, ℕ}
use Rattle.machine.specs.EffectLaws.{sector_on, sectors_on}
use Rattle.machine.specs.Seen.{all_marks, state_of}
use Rattle.machine.specs.Sound.{IsSound}
use Rattle.sender.specs.Items.{size_on}
use Rattle.vmig.specs.Comparing.{AreSteady}
use Rattle.vmig.proofs.comparing.have_same_disk.Given as goal

abbrev pub invariant-loop-n : goal.invariant-loop-n
invariant-loop-n g l = record {
  a_sound : IsSound (state_of l.fn.a);
  b_sound : IsSound (state_of l.fn.b);
  a_size : l.size ≡ size_on (state_of l.fn.a) l.dev;
  b_size : l.size ≡ size_on (state_of l.fn.b) l.dev;
  a_state : state_of l.a ≡ state_of l.fn.a;
  b_state : state_of l.b ≡ state_of l.fn.b;
  a_marks : all_marks l.a ≡ all_marks l.fn.a;
  b_marks : all_marks l.b ≡ all_marks l.fn.b;
  same : AreSteady (all_marks l.fn.a) → AreSteady (all_marks l.fn.b) → (k : ℕ) → k < l.n → sector_on (sectors_on (state_of l.fn.a) l.dev) k ≡ sector_on (sectors_on (state_of l.fn.b) l.dev) k;
}
