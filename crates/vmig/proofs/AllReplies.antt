-- The lines of replies, one after another.
use Rattle.std.proofs.Common.{◌≡◌, ◌<◌, ℕ, suc, List, ◌∷◌, ◌++◌, length, get_or, take, drop, flat_map, Option, sym, ap, ◌∙◌, append_assoc}
use Rattle.std.proofs.lemmas.List.{take-append-drop}
use Rattle.std.proofs.lemmas.Grind.{flat_map-append}
use Rattle.std.proofs.Math.Seq.{drop-cons}
use Rattle.std.specs.Io.KnownBytes.{Appends}
use Rattle.traces.specs.Replies.{AppendsBeginning}
use Rattle.traces.proofs.Known.{begins_first, begins_later}

parted : {X : Type 0} (line : X → List ℕ) (replies : List X) (i : ℕ) (reply : X) → i < length replies → get_or replies i reply ≡ reply
    → flat_map line (take i replies) ++ line reply ++ flat_map line (drop (suc i) replies) ≡ flat_map line replies
parted {X} line replies i reply h is =
    let cons : drop i replies ≡ get_or replies i reply ∷ drop (suc i) replies = drop-cons replies i reply h in
    let whole : take i replies ++ (reply ∷ drop (suc i) replies) ≡ replies = rw (← is, ← cons) (take-append-drop i replies) in
    append_assoc (flat_map line (take i replies)) (line reply) (flat_map line (drop (suc i) replies)) ∙ sym (flat_map-append line (take i replies) (reply ∷ drop (suc i) replies)) ∙ ap (λ (xs : List X). flat_map line xs) whole

-- a beginning of one of the lines, behind those before it
pub begun_at : {X : Type 0} (line : X → List ℕ) (a b c : Option (List ℕ)) (replies : List X) (i : ℕ) (reply : X) → i < length replies → get_or replies i reply ≡ reply
    → Appends a b (flat_map line (take i replies)) → AppendsBeginning b c (line reply) → AppendsBeginning a c (flat_map line replies)
begun_at line a b c replies i reply h is before now =
    rw (← parted line replies i reply h is) (begins_first a c _ (flat_map line (drop (suc i) replies)) (begins_later a b c _ _ before now))
