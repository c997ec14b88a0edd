-- The longest frame of devices as C names them.
use Rattle.std.proofs.Common.{◌≡◌, ◌≤◌, ◌<◌, ◌+◌, ℕ, List, ap, arith, drop, get_or, length}
use Rattle.std.specs.Prelude.{max}
use Rattle.std.proofs.lemmas.List.{drop_all, drop_more}
use Rattle.c_machine.specs.Frames.{long_frame, longest_frame}
use Rattle.c_machine.specs.Making.{shape_of, shapes_of}
use Rattle.c_machine.specs.declared.device_shape.DeviceShape.{DeviceShape}

pub more_named : (shapes : List DeviceShape) (i most size next all : ℕ) (d : DeviceShape) → i < length shapes → size ≡ long_frame (shape_of (get_or shapes i d)) → next ≡ max most size → max most (longest_frame (shapes_of (drop i shapes))) ≡ all
    → max next (longest_frame (shapes_of (drop (i + 1) shapes))) ≡ all
more_named shapes i most size next all d below is made so_far =
    let at : longest_frame (shapes_of (drop i shapes)) ≡ max (long_frame (shape_of (get_or shapes i d))) (longest_frame (shapes_of (drop (i + 1) shapes))) = ap (λ (l : List DeviceShape). longest_frame (shapes_of l)) (drop_more shapes i d below) in
    omega (arith, at, is, made, so_far)

pub all_named : (shapes : List DeviceShape) (i most all : ℕ) → length shapes ≤ i → max most (longest_frame (shapes_of (drop i shapes))) ≡ all → most ≡ all
all_named shapes i most all past so_far =
    let none : longest_frame (shapes_of (drop i shapes)) ≡ 0 = ap (λ (l : List DeviceShape). longest_frame (shapes_of l)) (drop_all i shapes past) in
    omega (arith, none, so_far)
