-- What is told of devices.
use Rattle.std.proofs.Common.{◌≡◌, ◌≤◌, ◌<◌, ◌+◌, ◌++◌, ℕ, List, [], ◌∷◌, sym, ap, ◌∙◌, arith, drop, get_or, length, map, take}
use Rattle.std.specs.Prelude.{max, slice_set}
use Rattle.std.proofs.lemmas.List.{append_assoc, drop_all, drop_more, length-map, length-take-le, map-append, set_at, take_more}
use Rattle.machine.specs.declared.shape.Shape.{Shape}
use Rattle.c_machine.specs.Description.{described, message_for, message_of}
use Rattle.c_machine.specs.declared.device_shape.DeviceShape.{DeviceShape}

-- The most of all messages.
pub more_most : (shapes : List Shape) (i most size next all : ℕ) (d : Shape) → i < length shapes → size ≡ message_for (get_or shapes i d) → next ≡ max most size → max most (message_of (drop i shapes)) ≡ all → max next (message_of (drop (i + 1) shapes)) ≡ all
more_most shapes i most size next all d below is made so_far =
    let at : message_of (drop i shapes) ≡ max (message_for (get_or shapes i d)) (message_of (drop (i + 1) shapes)) = ap message_of (drop_more shapes i d below) in
    omega (arith, at, is, made, so_far)

pub all_most : (shapes : List Shape) (i most all : ℕ) → length shapes ≤ i → max most (message_of (drop i shapes)) ≡ all → most ≡ all
all_most shapes i most all past so_far =
    let none : message_of (drop i shapes) ≡ 0 = ap message_of (drop_all i shapes past) in
    omega (arith, none, so_far)

-- One more shape is told.
pub told_more : (shapes : List Shape) (old now : List DeviceShape) (i : ℕ) (s : Shape) → i < length shapes → length shapes ≤ length old → now ≡ map described (take i shapes) ++ drop i old
    → slice_set now i (described (get_or shapes i s)) ≡ map described (take (i + 1) shapes) ++ drop (i + 1) old
told_more shapes old now i s below room so_far =
    let new = described (get_or shapes i s) in
    let front = map described (take i shapes) in
    let rest = drop (i + 1) old in
    let long : length front ≡ i = length-map (take i shapes) described ∙ length-take-le i shapes (omega (arith, below)) in
    let here : drop i old ≡ get_or old i new ∷ rest = drop_more old i new (omega (arith, below, room)) in
    let more : map described (take (i + 1) shapes) ≡ front ++ new ∷ [] = ap (map described) (take_more shapes i s below) ∙ map-append described (take i shapes) (get_or shapes i s ∷ []) in
    ap (λ (l : List DeviceShape). slice_set l i new) (so_far ∙ ap (λ (l : List DeviceShape). front ++ l) here)
    ∙ set_at front (get_or old i new) rest new i long
    ∙ sym (ap (λ (l : List DeviceShape). l ++ rest) more ∙ append_assoc front (new ∷ []) rest)
