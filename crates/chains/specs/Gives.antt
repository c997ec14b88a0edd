use Rattle.std.specs.Prelude.{ℕ, List, Result, Ok, Err}
use Rattle.std.specs.Bool.{MatchBool}
use Rattle.chains.specs.declared.chain.Chain.{Chain}
use Rattle.chains.specs.declared.next.Next.TheVariants as next
use Rattle.chains.specs.declared.next_kind.NextKind.{NextKind}
use Rattle.chains.specs.declared.next_kind.NextKind.TheVariants as kinds
use Rattle.chains.specs.declared.no_chain.NoChain.{NoChain}
use Rattle.chains.specs.declared.no_chain.NoChain.TheVariants as why
use Rattle.chains.specs.State.{RingState}
use Rattle.chains.specs.Ring.{IsChain, Answers, IsBounded}
use Rattle.chains.specs.LongQueue.{IsLongSplit, IsLongPacked, IsLongQueue}

-- What a ring may return of a queue that it has filled in a chain for: the kind of its answer, and where that is a chain, this
-- one. Memory is refused only at a long queue. Where there is no chain, nothing is said of what was filled in.
abbrev pub Gives : List ℕ → RingState → NextKind → Chain → Type 0
Gives ram q kinds.Empty c = Answers ram q next.Empty
Gives ram q kinds.Malformed c = Answers ram q next.Malformed
Gives ram q kinds.Chain c = Answers ram q (next.Chain c)
Gives ram q kinds.NoMemory c = IsLongQueue ram q

-- A chain that was filled in keeps the bounds.
abbrev pub GivesBounded : ℕ → RingState → NextKind → Chain → Type 0
GivesBounded len q kinds.Chain c = IsBounded len q c
GivesBounded len q _ c = Unit {0}

-- What a search for the chain of a queue that is not empty gives, by the chain that it has filled in.
abbrev pub ChainGives : List ℕ → RingState → Chain → Result (Unit {0}) NoChain → Type 0
ChainGives ram q c (Ok done) = IsChain ram q c
ChainGives ram q c (Err why.Malformed) = (d : Chain) → ¬ (IsChain ram q d)
ChainGives ram q c (Err why.NoMemory) = MatchBool q.is_packed (IsLongPacked ram q) (IsLongSplit ram q)

-- The kind of the answer that this is.
abbrev pub kind_of : Result (Unit {0}) NoChain → NextKind
kind_of (Ok done) = kinds.Chain
kind_of (Err why.Malformed) = kinds.Malformed
kind_of (Err why.NoMemory) = kinds.NoMemory
