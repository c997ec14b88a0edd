use Rattle.std.specs.Prelude.{◌≡◌, ℕ, zero, suc, ◌+◌, ◌/◌, ◌<◌, ◌≤◌, ◌^◌, List, [], ◌∷◌, ◌++◌, length, Bool, true, false, not, filter, map, sum_by, All, refl}
use Rattle.std.proofs.Common.{ap, sym, ◌∙◌, arith, length-append, inl, inr}
use Rattle.std.specs.Bool.{MatchBool}
use Rattle.std.proofs.lemmas.List.Elements.{All-filter, All-map}
use Rattle.std.proofs.lemmas.List.Filters.{length-filter_both}
use Rattle.std.proofs.lemmas.List.Sums.{sum_by-cons, sum-map}
use Rattle.std.proofs.lemmas.List.{length-map}
use Rattle.guestmem.specs.Address.{IsWithin, index_of}
use Rattle.chains.specs.declared.descriptor.Descriptor.{Descriptor}
use Rattle.chains.specs.declared.chain.Chain.{Chain}
use Rattle.chains.specs.declared.next.Next.{Next}
use Rattle.chains.specs.declared.next.Next.TheVariants.{Empty, Malformed, Chain as Found}
use Rattle.chains.specs.declared.next_kind.NextKind.{NextKind}
use Rattle.chains.specs.declared.next_kind.NextKind.TheVariants as kinds
use Rattle.chains.specs.declared.segs.Seg.{Seg}
use Rattle.chains.specs.State.{RingState}
use Rattle.chains.specs.Whole.{IsWhole, segment, readable_of, writable_of}
use Rattle.chains.specs.Places.{addresses, places, AreSegmentsInside}
use Rattle.chains.proofs.PlaceLaws.{length_addresses}
use Rattle.chains.specs.SplitChain.{AreLinked, IsSplitChain, head}
use Rattle.chains.proofs.SplitLaws.{split_chain_same}
use Rattle.chains.specs.PackedChain.{IsPackedChain, IsPackedTable, entries_from}
use Rattle.chains.proofs.PackedLaws.{packed_chain_same}
use Rattle.chains.specs.Ring.{IsEmptyQueue, IsChain, Answers, IsBounded, IsBoundedNext}
use Rattle.chains.specs.Gives.{Gives, GivesBounded}
use Rattle.chains.specs.Transmit.{MayWantMemory}
use Rattle.chains.specs.declared.transmitting.MessageForm.{MessageForm}

by_layout : {A : Type 0} (packed : Bool) (P S P' S' : Type 0) → (P → P' → A) → (S → S' → A) → MatchBool packed P S → MatchBool packed P' S' → A
by_layout true P S P' S' f g x y = f x y
by_layout false P S P' S' f g x y = g x y

-- A queue has at most one chain at its taking position.
pub chain_same : (ram : List ℕ) (q : RingState) (a b : Chain) → IsChain ram q a → IsChain ram q b → a ≡ b
chain_same ram q a b = by_layout q.is_packed (IsPackedChain ram q a) (IsSplitChain ram q a) (IsPackedChain ram q b) (IsSplitChain ram q b) (packed_chain_same ram q a b) (split_chain_same ram q a b)

-- A queue has at most one answer: empty, malformed and a chain exclude one another.
pub answer_same : (ram : List ℕ) (q : RingState) (a b : Next) → Answers ram q a → Answers ram q b → a ≡ b
answer_same ram q Empty Empty h k = refl
answer_same ram q Empty Malformed h k = absurd (k.0 h)
answer_same ram q Empty (Found d) h k = absurd (k.0 h)
answer_same ram q Malformed Empty h k = absurd (h.0 k)
answer_same ram q Malformed Malformed h k = refl
answer_same ram q Malformed (Found d) h k = absurd (h.1 d k.1)
answer_same ram q (Found c) Empty h k = absurd (h.0 k)
answer_same ram q (Found c) Malformed h k = absurd (k.1 c h.1)
answer_same ram q (Found c) (Found d) h k = ap Found (chain_same ram q c d h.1 k.1)

total_by : (wants : Bool) (d : Descriptor) (ds : List Descriptor) → d.is_writable ≡ wants
    → length (places (readable_of ds)) + length (places (writable_of ds)) ≡ sum_by (λ (d : Descriptor). d.len) ds
    → length (places (readable_of (d ∷ ds))) + length (places (writable_of (d ∷ ds))) ≡ d.len + sum_by (λ (d : Descriptor). d.len) ds
total_by true d ds is h =
    let e = length-append (addresses d.addr d.len) (places (writable_of ds)) in
    let f = length_addresses d.addr d.len in
    rw is (omega (arith, h))
total_by false d ds is h =
    let e = length-append (addresses d.addr d.len) (places (readable_of ds)) in
    let f = length_addresses d.addr d.len in
    rw is (omega (arith, h))

total_of : (ds : List Descriptor) → length (places (readable_of ds)) + length (places (writable_of ds)) ≡ sum_by (λ (d : Descriptor). d.len) ds
total_of [] = refl
total_of (d ∷ ds) = total_by d.is_writable d ds refl (total_of ds) ∙ sym (sum_by-cons (λ (d : Descriptor). d.len) d ds)

head_below : (ram : List ℕ) (table entries index : ℕ) (ds : List Descriptor) → AreLinked ram table entries index ds → index < entries
head_below ram table entries index [] h = absurd h
head_below ram table entries index (d ∷ []) h = h.0
head_below ram table entries index (d ∷ e ∷ ds) h = h.0

-- `entries_from` gives as many entries as its count says.
pub length_entries : (ram : List ℕ) (table index count : ℕ) → length (entries_from ram table index count) ≡ count
length_entries ram table index zero = refl
length_entries ram table index (suc count) = ap suc (length_entries ram table (index + 1) count)

inside_of : (base len : ℕ) (p : Descriptor → Bool) (ds : List Descriptor) → All (λ d. IsWithin base len d.addr d.len) ds → AreSegmentsInside base len (map segment (filter p ds))
inside_of base len p ds h = All-map (λ (s : Seg). IsWithin base len s.addr s.len) segment (filter p ds) (All-filter p (λ (d : Descriptor). IsWithin base len d.addr d.len) ds h)

few_of : (ds : List Descriptor) → length (readable_of ds) + length (writable_of ds) ≡ length ds
few_of ds =
    let r = length-map (filter (λ (d : Descriptor). not d.is_writable) ds) segment in
    let w = length-map (filter (λ (d : Descriptor). d.is_writable) ds) segment in
    let b = length-filter_both (λ (d : Descriptor). d.is_writable) (λ (d : Descriptor). not d.is_writable) (λ d. refl) ds in
    omega arith

-- The segments of descriptors that keep the rules.
record AreBounded (base : ℕ) (ram : List ℕ) (size : ℕ) (ds : List Descriptor) : Type 0 where
  few : length (readable_of ds) + length (writable_of ds) ≤ size
  readable : AreSegmentsInside base (length ram) (readable_of ds)
  writable : AreSegmentsInside base (length ram) (writable_of ds)
  total : length (places (readable_of ds)) + length (places (writable_of ds)) < 2 ^ 32

bounded_of : (base : ℕ) (ram : List ℕ) (size : ℕ) (ds : List Descriptor) → IsWhole base ram size ds → AreBounded base ram size ds
bounded_of base ram size ds w = record {
  few = omega (arith, few_of ds, w.few);
  readable = inside_of base (length ram) (λ d. not d.is_writable) ds w.inside;
  writable = inside_of base (length ram) (λ d. d.is_writable) ds w.inside;
  total = let e = sum-map (λ (d : Descriptor). d.len) ds in omega (arith, total_of ds, w.total);
}

-- Every chain of a split queue keeps the bounds.
pub split_bounded : (ram : List ℕ) (q : RingState) (c : Chain) → q.is_packed ≡ false → IsSplitChain ram q c → IsBounded (length ram) q c
split_bounded ram q c layout s =
    let b = bounded_of q.base ram q.size s.all s.whole in
    let first : head ram q < q.size = head_below ram q.descriptors q.size (head ram q) s.direct s.linked in
    rw s.is (record {
      some = omega arith;
      slots = omega arith;
      id = rw layout (refl, first);
      few = b.few;
      readable = b.readable;
      writable = b.writable;
      total = b.total;
    })

slots_by : (base : ℕ) (ram : List ℕ) (size : ℕ) (has_indirect named : Bool) (front : List Descriptor) (last : Descriptor) (all : List Descriptor)
    → MatchBool named ((has_indirect ≡ true) × IsPackedTable base ram front last all) (all ≡ front ++ last ∷ []) → length all ≤ size → length front + 1 ≤ size
slots_by base ram size has_indirect true front last all (p, t) few =
    let some : 1 ≤ last.len / 16 = omega (arith, t.table.some, t.table.whole) in
    let many : length all ≡ last.len / 16 = rw t.entries (length_entries ram (index_of base last.addr) 0 (last.len / 16)) in
    let alone : length front ≡ 0 = ap length t.alone in
    omega arith
slots_by base ram size has_indirect false front last all e few = omega (arith, ap length e, length-append front (last ∷ []))

-- Every chain of a packed queue keeps the bounds.
pub packed_bounded : (ram : List ℕ) (q : RingState) (c : Chain) → q.is_packed ≡ true → IsPackedChain ram q c → IsBounded (length ram) q c
packed_bounded ram q c layout s =
    let b = bounded_of q.base ram q.size s.all s.whole in
    let slots = slots_by q.base ram q.size q.has_indirect s.last.is_indirect s.front s.last s.all s.list.replaced s.whole.few in
    rw s.is (record {
      some = omega arith;
      slots = slots;
      id = rw layout tt;
      few = b.few;
      readable = b.readable;
      writable = b.writable;
      total = b.total;
    })

bounded_by : (ram : List ℕ) (q : RingState) (c : Chain) (packed : Bool) → q.is_packed ≡ packed → MatchBool packed (IsPackedChain ram q c) (IsSplitChain ram q c) → IsBounded (length ram) q c
bounded_by ram q c true layout s = packed_bounded ram q c layout s
bounded_by ram q c false layout s = split_bounded ram q c layout s

-- Every chain of a queue keeps the bounds.
pub chain_bounded : (ram : List ℕ) (q : RingState) (c : Chain) → IsChain ram q c → IsBounded (length ram) q c
chain_bounded ram q c s = bounded_by ram q c q.is_packed refl s

-- A queue at which a step may need to allocate memory is not empty.
pub wanting_waits : (ram : List ℕ) (q : RingState) (form : MessageForm) → MayWantMemory ram q form → ¬ (IsEmptyQueue ram q)
wanting_waits ram q form (inl long) = long.waiting
wanting_waits ram q form (inr message) = message.answers.0

pub next_bounded : (ram : List ℕ) (q : RingState) (next : Next) → Answers ram q next → IsBoundedNext (length ram) q next
next_bounded ram q Empty h = tt
next_bounded ram q Malformed h = tt
next_bounded ram q (Found c) h = chain_bounded ram q c h.1

-- The chain that a ring returns keeps the bounds.
pub gives_bounded : (ram : List ℕ) (q : RingState) (kind : NextKind) (c : Chain) → Gives ram q kind c → GivesBounded (length ram) q kind c
gives_bounded ram q kinds.Empty c gives = tt
gives_bounded ram q kinds.Malformed c gives = tt
gives_bounded ram q kinds.Chain c gives = next_bounded ram q (Found c) gives
gives_bounded ram q kinds.NoMemory c gives = tt
