use Rattle.std.specs.Prelude.{◌≡◌, List, map}
use Rattle.machine.specs.Seen.{Seen, state_of}
use Rattle.machine.specs.Sound.{IsSound}
use Rattle.machine.specs.declared.shape.Shape.{Shape}
use Rattle.machine.specs.Shapes.{made_as}

-- A machine as the code holds it: sound, together with the list of its devices' shapes.
pub record IsHeld (shapes : List Shape) (s : Seen) : Type 0 where
  pub sound : IsSound (state_of s)
  pub shapes_are : shapes ≡ map (λ d. made_as d.state.kind) s.devices
