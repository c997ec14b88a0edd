use Rattle.std.proofs.Common.{rules, ◌≡◌, List, ℕ, [], ◌++◌, ap, subst, ◌∙◌, append-nil}
use Rattle.std.proofs.lemmas.List.{nil_from_length}
use Rattle.sha2.specs.Sha256.{sha256}
use Rattle.receiver.specs.Sums.{past_of}
use Rattle.streams.proofs.told.closed.Goals as goal

pub close-requires-clause-due : goal.close-requires-clause-due
close-requires-clause-due c =
    let none : c.args.receiver.held ≡ [] = nil_from_length c.args.receiver.held (search rules) in
    let front = c.is_closing.ensures (search rules) in
    record { reads = c.requires.reads; goes_on = c.requires.goes_on; more = front.0; begins = rw none front.1 }

pub close-requires-clause-digest : goal.close-requires-clause-digest
close-requires-clause-digest c =
    let s = c.requires.summed in
    let none : c.args.receiver.held ≡ [] = nil_from_length c.args.receiver.held (search rules) in
    let past = past_of c.args.receiver.digest in
    let all : s.0 ≡ past = c.recall_bytes.ensures c.requires.goes_on s.0 s.1 ∙ ap (λ (x : List ℕ). past ++ x) none ∙ append-nil past in
    subst (λ (x : List ℕ). c.finalize-digest.result ≡ sha256 x) all (c.finalize-digest.ensures s.0 s.2)
