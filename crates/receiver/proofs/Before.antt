-- Before the record of the digest: none of its bytes is held.
use Rattle.std.proofs.Common.{◌≡◌, ◌<◌, ◌+◌, ℕ, List, [], ◌∷◌, ◌++◌, true, false, take, drop, ap, sym, subst, true≢false, ◌∙◌, append_assoc, arith}
use Rattle.std.proofs.Math.Seq.{take-add}
use Rattle.std.proofs.lemmas.List.{append-nil}
use Rattle.blk.specs.Disk.{DiskState}
use Rattle.receiver.specs.Calls.{IsDue}
use Rattle.receiver.specs.Disks.{sizes_in}
use Rattle.receiver.specs.Faults.{IsFront}
use Rattle.receiver.specs.Receiving.{HasBeenFed, IsTaken, ReaderSeen, Received, has_ended, reads_in, received_with}
use Rattle.receiver.specs.Sums.{CanSay, IsClear, IsTold, SaysOn, Summed, own, told}
use Rattle.receiver.specs.declared.ram_terms.RamTerms.{RamTerms}
use Rattle.receiver.specs.declared.stage.Stage.{Stage}
use Rattle.receiver.specs.declared.stage.Stage.TheVariants as stages
use Rattle.receiver.proofs.Clearing.{clear_on}
use Rattle.receiver.proofs.Working.{front_at, front_of}

pub positive : (n : ℕ) → ¬ (n ≡ 0) → 0 < n
positive n some = omega (arith, some)

-- The next bytes are clear too.
pub clear_next : (old new : Received) (b : List ℕ) (used count : ℕ) (piece : List ℕ) → new.ram ≡ old.ram → new.sizes ≡ old.sizes → SaysOn old.digest new.digest → IsClear old.digest old.ram old.sizes ((b ++ take used piece) ++ take count (drop used piece))
    → IsClear new.digest new.ram new.sizes (b ++ take (used + count) piece)
clear_next old new b used count piece ram sizes says clear =
    let all : (b ++ take used piece) ++ take count (drop used piece) ≡ b ++ take (used + count) piece = append_assoc b (take used piece) (take count (drop used piece)) ∙ ap (λ (x : List ℕ). b ++ x) (sym (take-add used count piece)) in
    rw (ram, sizes) (clear_on old.digest new.digest old.ram old.sizes (b ++ take (used + count) piece) says (subst (λ (x : List ℕ). IsClear old.digest old.ram old.sizes x) all clear))

-- A digest that is told cannot be compared before.
never : (digest : Summed) (front : List ℕ) → IsTold digest → ¬ (CanSay digest front)
unfolding CanSay
never (own digest) front is says = is
never (told past) front is says = says

none_held : (was : Summed) (ram : RamTerms) (ds : List DiskState) (digest : Summed) (b held more : List ℕ) (stage : Stage) → IsTold was → IsClear was ram (sizes_in ds) b → IsTaken ram ds digest b held stage → reads_in stage ≡ true → has_ended stage ≡ false
    → ¬ (held ≡ 5 ∷ more)
none_held was ram ds digest b held more stages.Head is clear t reads goes_on five = true≢false (sym reads)
none_held was ram ds digest b held more stages.Failed is clear t reads goes_on five = true≢false (sym reads)
none_held was ram ds digest b held more (stages.Records i) is clear t reads goes_on five =
    let known = rw goes_on at t.known in
    let o = known.1.open_at in
    let front : IsFront ram (sizes_in ds) b known.1.opening o.before held = front_at known.1.based (front_of b held o.read t.whole) in
    never was _ is (clear.closes known.1.opening o.before held front more five)

pub not_due : (was : Summed) (r : ReaderSeen) (held b : List ℕ) → IsTold was → IsClear was r.ram (sizes_in r.disks) b → HasBeenFed (received_with r held) b → ¬ (IsDue (received_with r held) [])
not_due was r held b is clear fed due = none_held was r.ram r.disks r.digest b held due.more r.stage is clear fed.taken due.reads due.goes_on (sym (append-nil held) ∙ due.begins)
