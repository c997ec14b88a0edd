use Rattle.std.proofs.Common.{◌∙◌, ◌∷◌, ℕ, List, ap, length}
use Rattle.wire.specs.DeviceBody.{body}
use Rattle.wire.specs.Numbers.{digits}
use Rattle.wire.proofs.HeaderLemmas.{low_digits}
use Rattle.wire.proofs.writing.device_head.Goals as goal

pub returns : goal.returns
returns c =
    c.head_bytes.ensures
    ∙ ap (λ (n : ℕ). 4 ∷ (c.args.number ∷ digits 4 n)) c.body_len-len.ensures
    ∙ ap (λ (x : List ℕ). 4 ∷ (c.args.number ∷ x)) (low_digits (length (body c.args.state.now)))
