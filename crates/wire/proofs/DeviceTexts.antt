-- Devices of a stream, and one more.
use Rattle.std.proofs.Common.{◌≡◌, ℕ, ◌+◌, List, [], ◌∷◌, ◌++◌, length, refl, sym, ap, append_assoc, append-nil, arith}
use Rattle.std.specs.List.{AllByRecursion}
use Rattle.wire.specs.DeviceBody.{body}
use Rattle.wire.specs.Records.{device, spelled_record}
use Rattle.wire.specs.Stream.{device_texts, shapes_in}
use Rattle.machine.specs.Shapes.{made_as}
use Rattle.machine.specs.Sound.{IsSoundDevice}
use Rattle.machine.specs.State.{DeviceState}
use Rattle.machine.specs.declared.shape.Shape.{Shape}

pub device_texts-snoc : (number : ℕ) (ds : List DeviceState) (d : DeviceState) → device_texts number (ds ++ d ∷ []) ≡ device_texts number ds ++ spelled_record (device (number + length ds) (body d))
unfolding device_texts
device_texts-snoc number [] d = let n : number + 0 ≡ number = omega arith in rw n (append-nil (spelled_record (device number (body d))))
device_texts-snoc number (t ∷ ds) d =
    let n : number + length (t ∷ ds) ≡ number + 1 + length ds = omega arith in
    rw (n, device_texts-snoc (number + 1) ds d) (sym (append_assoc (spelled_record (device number (body t))) (device_texts (number + 1) ds) (spelled_record (device (number + 1 + length ds) (body d)))))

pub sound-snoc : {base : ℕ} (ram_len : ℕ) (ds : List DeviceState) (d : DeviceState) → AllByRecursion (IsSoundDevice base ram_len) ds → IsSoundDevice base ram_len d → AllByRecursion (IsSoundDevice base ram_len) (ds ++ d ∷ [])
sound-snoc ram_len [] d h k = (k, tt)
sound-snoc ram_len (t ∷ ds) d h k = (h.0, sound-snoc ram_len ds d h.1 k)

pub shapes-snoc : (ds : List DeviceState) (d : DeviceState) → shapes_in (ds ++ d ∷ []) ≡ shapes_in ds ++ made_as d.kind ∷ []
shapes-snoc [] d = refl
shapes-snoc (t ∷ ds) d = ap (λ (x : List Shape). made_as t.kind ∷ x) (shapes-snoc ds d)
