-- What follows from what a device sees.
use Rattle.std.specs.Prelude.{◌≡◌, ℕ, Bool, true, false, List, length, refl}
use Rattle.std.proofs.Common.{ap, sym, ◌∙◌, cond}
use Rattle.chains.specs.declared.chain.Chain.{Chain}
use Rattle.chains.specs.declared.next.Next.{Next}
use Rattle.chains.specs.declared.next.Next.TheVariants.{Empty, Malformed, Chain as Found}
use Rattle.chains.specs.declared.looking.Wanted.{Wanted}
use Rattle.chains.specs.State.{RingState}
use Rattle.chains.specs.Ring.{Answers, IsBoundedNext}
use Rattle.chains.proofs.ChainLaws.{answer_same, next_bounded}
use Rattle.chains.specs.Look.{fits, seen_as, Sees}

-- A device sees one thing in a queue.
pub sight_same : (wanted : Wanted) (ram : List ℕ) (q : RingState) (a b : Next) → Sees wanted ram q a → Sees wanted ram q b → a ≡ b
sight_same wanted ram q a b s t = s.is ∙ ap (seen_as wanted) (answer_same ram q s.answer t.answer s.answers t.answers) ∙ sym t.is

-- The queue has a chain that is seen, and the device can use it.
pub record IsUsable (wanted : Wanted) (ram : List ℕ) (q : RingState) (c : Chain) : Type 0 where
  pub answers : Answers ram q (Found c)
  pub fit : fits wanted c ≡ true

usable_by : (wanted : Wanted) (ram : List ℕ) (q : RingState) (c d : Chain) (b : Bool) → fits wanted d ≡ b → Answers ram q (Found d) → Found c ≡ cond b (Found d) Malformed → IsUsable wanted ram q c
usable_by wanted ram q c d true fit answers is =
    let same : d ≡ c = cc in
    record { answers = rw same at answers; fit = rw same at fit }
usable_by wanted ram q c d false fit answers is = cc

usable_as : (wanted : Wanted) (ram : List ℕ) (q : RingState) (c : Chain) (answer : Next) → Answers ram q answer → Found c ≡ seen_as wanted answer → IsUsable wanted ram q c
usable_as wanted ram q c Empty answers is = cc
usable_as wanted ram q c Malformed answers is = cc
usable_as wanted ram q c (Found d) answers is = usable_by wanted ram q c d (fits wanted d) refl answers is

pub usable : (wanted : Wanted) (ram : List ℕ) (q : RingState) (c : Chain) → Sees wanted ram q (Found c) → IsUsable wanted ram q c
usable wanted ram q c s = usable_as wanted ram q c s.answer s.answers s.is

-- Every chain that is seen keeps the bounds.
pub sight_bounded : (wanted : Wanted) (ram : List ℕ) (q : RingState) (seen : Next) → Sees wanted ram q seen → IsBoundedNext (length ram) q seen
sight_bounded wanted ram q Empty s = tt
sight_bounded wanted ram q Malformed s = tt
sight_bounded wanted ram q (Found c) s = next_bounded ram q (Found c) (usable wanted ram q c s).answers
