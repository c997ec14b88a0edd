-- The largest disk outside.
use Rattle.std.proofs.Common.{◌≡◌, ◌≤◌, ◌<◌, ◌+◌, ℕ, List, ap, arith, drop, get_or, length}
use Rattle.std.specs.Prelude.{max}
use Rattle.std.proofs.lemmas.List.{drop_all, drop_more}
use Rattle.machine.specs.declared.shape.Shape.{Shape}
use Rattle.c_machine.specs.Making.{shape_of, shapes_of}
use Rattle.c_machine.specs.Outside.{largest_outside, sectors_outside}
use Rattle.c_machine.specs.declared.device_shape.DeviceShape.{DeviceShape}

pub more_largest : (shapes : List Shape) (i most size next all : ℕ) (d : Shape) → i < length shapes → size ≡ sectors_outside (get_or shapes i d) → next ≡ max most size → max most (largest_outside (drop i shapes)) ≡ all
    → max next (largest_outside (drop (i + 1) shapes)) ≡ all
more_largest shapes i most size next all d below is made so_far =
    let at : largest_outside (drop i shapes) ≡ max (sectors_outside (get_or shapes i d)) (largest_outside (drop (i + 1) shapes)) = ap largest_outside (drop_more shapes i d below) in
    omega (arith, at, is, made, so_far)

pub all_largest : (shapes : List Shape) (i most all : ℕ) → length shapes ≤ i → max most (largest_outside (drop i shapes)) ≡ all → most ≡ all
all_largest shapes i most all past so_far =
    let none : largest_outside (drop i shapes) ≡ 0 = ap largest_outside (drop_all i shapes past) in
    omega (arith, none, so_far)

-- Of devices as C names them.
pub more_named : (shapes : List DeviceShape) (i most size next all : ℕ) (d : DeviceShape) → i < length shapes → size ≡ sectors_outside (shape_of (get_or shapes i d)) → next ≡ max most size → max most (largest_outside (shapes_of (drop i shapes))) ≡ all
    → max next (largest_outside (shapes_of (drop (i + 1) shapes))) ≡ all
more_named shapes i most size next all d below is made so_far =
    let at : largest_outside (shapes_of (drop i shapes)) ≡ max (sectors_outside (shape_of (get_or shapes i d))) (largest_outside (shapes_of (drop (i + 1) shapes))) = ap (λ (l : List DeviceShape). largest_outside (shapes_of l)) (drop_more shapes i d below) in
    omega (arith, at, is, made, so_far)

pub all_named : (shapes : List DeviceShape) (i most all : ℕ) → length shapes ≤ i → max most (largest_outside (shapes_of (drop i shapes))) ≡ all → most ≡ all
all_named shapes i most all past so_far =
    let none : largest_outside (shapes_of (drop i shapes)) ≡ 0 = ap (λ (l : List DeviceShape). largest_outside (shapes_of l)) (drop_all i shapes past) in
    omega (arith, none, so_far)
