use Rattle.std.proofs.Common.{◌≡◌}
use Rattle.std.specs.Prelude.{None}
use Rattle.c_handle.specs.Resetting.{HasPages, state_refusal, shapes_in}
use Rattle.c_handle.proofs.Resets.{IsOnWay}
use Rattle.c_handle.proofs.resetting.reset.Given as goal

abbrev pub invariant-loop-dev : goal.invariant-loop-dev
invariant-loop-dev l = record {
  way : IsOnWay l.fn.kept.state (shapes_in l.fn.kept.state) l.kept.state l.dev;
  shapes : shapes_in l.kept.state ≡ shapes_in l.fn.kept.state;
  going : state_refusal l.kept.state ≡ None;
  pages : HasPages l.kept.state;
  kind : l.kept ≡ record l.fn.kept { state = l.kept.state };
}
