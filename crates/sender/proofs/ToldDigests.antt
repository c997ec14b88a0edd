-- Which digest is told.
use Rattle.std.proofs.Common.{ℕ, List, ◌++◌, ◌∙◌, ap}
use Rattle.wire.proofs.ToldSinks.{closed_by}
use Rattle.wire.specs.Stream.{before_commit}
use Rattle.machine.specs.Layout.{pages_of}
use Rattle.sender.specs.LiveState.{now}
use Rattle.sender.specs.Telling.{TakenIsDigested}
use Rattle.sender.proofs.Taking.{taken_are_whole}

pub taken_is_digested : TakenIsDigested
taken_is_digested m h out taken s g sound is honest empty short =
    let w = taken_are_whole m h out taken s g sound is in
    let by = w.is_stream.by in
    let text : List ℕ = before_commit w.is_stream.version (pages_of (now s)) w.is_stream.entries (now s).devices in
    closed_by taken s.out.held text short (w.whole honest ∙ ap (λ (x : List ℕ). x ++ w.stream) empty ∙ by.whole)
