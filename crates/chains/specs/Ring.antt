use Rattle.std.specs.Prelude.{◌≡◌, ℕ, ◌+◌, ◌<◌, ◌≤◌, ◌^◌, List, length}
use Rattle.std.specs.Bool.{MatchBool}
use Rattle.chains.specs.declared.chain.Chain.{Chain}
use Rattle.chains.specs.declared.next.Next.{Next}
use Rattle.chains.specs.declared.next.Next.TheVariants.{Empty, Malformed, Chain as Found}
use Rattle.chains.specs.State.{RingState}
use Rattle.chains.specs.Places.{places, AreSegmentsInside}
use Rattle.chains.specs.SplitChain.{IsSplitChain, IsSplitEmpty}
use Rattle.chains.specs.PackedChain.{IsPackedChain, IsPackedEmpty}

-- The driver has made nothing available at the taking position (VIRTIO 1.2, 2.7.6 and 2.8.2).
abbrev pub IsEmptyQueue : List ℕ → RingState → Type 0
IsEmptyQueue ram q = MatchBool q.is_packed (IsPackedEmpty ram q) (IsSplitEmpty ram q)

-- This is the chain at the taking position of a queue that is not empty (VIRTIO 1.2, 2.7.5 and 2.8.5).
abbrev pub IsChain : List ℕ → RingState → Chain → Type 0
IsChain ram q c = MatchBool q.is_packed (IsPackedChain ram q c) (IsSplitChain ram q c)

-- What a queue answers about the taking position: that it is empty; that it is not empty and has no chain there, which is
-- malformed; or its chain.
abbrev pub Answers : List ℕ → RingState → Next → Type 0
Answers ram q Empty = IsEmptyQueue ram q
Answers ram q Malformed = ¬ (IsEmptyQueue ram q) × ((c : Chain) → ¬ (IsChain ram q c))
Answers ram q (Found c) = ¬ (IsEmptyQueue ram q) × IsChain ram q c

-- The bounds of every chain of a queue, in a RAM of `len` bytes: it takes at least one slot and no more than there are (in
-- a split ring exactly one, and its id is the number of a slot), has no more segments than there are slots, each inside
-- RAM, and fewer than 2^32 bytes in all.
pub record IsBounded (len : ℕ) (q : RingState) (c : Chain) : Type 0 where
  pub some : 1 ≤ c.slots
  pub slots : c.slots ≤ q.size
  pub id : MatchBool q.is_packed (Unit {0}) ((c.slots ≡ 1) × (c.id < q.size))
  pub few : length c.readable + length c.writable ≤ q.size
  pub readable : AreSegmentsInside q.base len c.readable
  pub writable : AreSegmentsInside q.base len c.writable
  pub total : length (places c.readable) + length (places c.writable) < 2 ^ 32

-- If this is a chain, it keeps these bounds.
abbrev pub IsBoundedNext : ℕ → RingState → Next → Type 0
IsBoundedNext len q (Found c) = IsBounded len q c
IsBoundedNext len q _ = Unit {0}
