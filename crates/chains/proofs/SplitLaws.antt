use Rattle.std.specs.Prelude.{◌≡◌, ℕ, ◌≤◌, ◌/◌, List, [], ◌∷◌, ◌++◌, length, Bool, true, false, refl}
use Rattle.std.proofs.Common.{ap, sym, ◌∙◌, arith}
use Rattle.std.specs.Bool.{MatchBool}
use Rattle.std.proofs.lemmas.List.{same_from_push}
use Rattle.guestmem.specs.Address.{index_of}
use Rattle.chains.specs.declared.descriptor.Descriptor.{Descriptor}
use Rattle.chains.specs.declared.chain.Chain.{Chain}
use Rattle.chains.specs.State.{RingState}
use Rattle.chains.specs.Whole.{readable_of, writable_of}
use Rattle.chains.specs.SplitChain.{AreLinked, IsFromTable, IsReplaced, IsSplitChain, head}

-- At most one list of descriptors begins at an entry.
pub linked_same : (ram : List ℕ) (table entries index : ℕ) (ds es : List Descriptor) → AreLinked ram table entries index ds → AreLinked ram table entries index es → ds ≡ es
linked_same ram table entries index [] es h k = absurd h
linked_same ram table entries index (d ∷ ds) [] h k = absurd k
linked_same ram table entries index (d ∷ []) (e ∷ []) h k = let x : d ≡ e = h.1 ∙ sym k.1 in cc
linked_same ram table entries index (d ∷ []) (e ∷ e' ∷ es) h k =
    let x : d ≡ e = h.1 ∙ sym k.1 in
    let bad : true ≡ false = sym k.2 ∙ sym (ap (λ (y : Descriptor). y.has_next) x) ∙ h.2 in
    absurd (cc)
linked_same ram table entries index (d ∷ d' ∷ ds) (e ∷ []) h k =
    let x : e ≡ d = k.1 ∙ sym h.1 in
    let bad : true ≡ false = sym h.2 ∙ sym (ap (λ (y : Descriptor). y.has_next) x) ∙ k.2 in
    absurd (cc)
linked_same ram table entries index (d ∷ d' ∷ ds) (e ∷ e' ∷ es) h k =
    let x : d ≡ e = h.1 ∙ sym k.1 in
    let next : d.next ≡ e.next = ap (λ (y : Descriptor). y.next) x in
    let rest : d' ∷ ds ≡ e' ∷ es = linked_same ram table entries e.next (d' ∷ ds) (e' ∷ es) (rw next at h.3) k.3 in
    rw (x, rest) refl

-- A list of descriptors has at least one.
pub linked_some : (ram : List ℕ) (table entries index : ℕ) (ds : List Descriptor) → AreLinked ram table entries index ds → 1 ≤ length ds
linked_some ram table entries index [] h = absurd h
linked_some ram table entries index (d ∷ ds) h = omega arith

replaced_by : (base : ℕ) (ram : List ℕ) (has_indirect named : Bool) (direct all more front : List Descriptor) (last : Descriptor)
    → MatchBool named ((has_indirect ≡ true) × IsFromTable base ram front last all) (all ≡ direct)
    → MatchBool named ((has_indirect ≡ true) × IsFromTable base ram front last more) (more ≡ direct) → all ≡ more
replaced_by base ram has_indirect true direct all more front last (p, t) (p', u) =
    let e : t.inner ≡ u.inner = linked_same ram (index_of base last.addr) (last.len / 16) 0 t.inner u.inner t.linked u.linked in
    t.parts ∙ ap (λ (xs : List Descriptor). front ++ xs) e ∙ sym u.parts
replaced_by base ram has_indirect false direct all more front last t u = t ∙ sym u

-- A list becomes at most one list when its indirect descriptor is replaced by the table.
pub replaced_same : (base : ℕ) (ram : List ℕ) (has_indirect : Bool) (direct all more : List Descriptor) → IsReplaced base ram has_indirect direct all → IsReplaced base ram has_indirect direct more → all ≡ more
replaced_same base ram has_indirect direct all more r s =
    let joined : s.front ++ s.last ∷ [] ≡ r.front ++ r.last ∷ [] = sym s.parts ∙ r.parts in
    let (front, last) = same_from_push s.front r.front s.last r.last joined in
    replaced_by base ram has_indirect r.last.is_indirect direct all more r.front r.last r.whole (rw (last, front) at s.whole)

-- A split queue has at most one chain at its taking position.
pub split_chain_same : (ram : List ℕ) (q : RingState) (c d : Chain) → IsSplitChain ram q c → IsSplitChain ram q d → c ≡ d
split_chain_same ram q c d s t =
    let direct : t.direct ≡ s.direct = linked_same ram q.descriptors q.size (head ram q) t.direct s.direct t.linked s.linked in
    let e : s.all ≡ t.all = replaced_same q.base ram q.has_indirect s.direct s.all t.all s.replaced (rw direct at t.replaced) in
    s.is ∙ ap (λ (all : List Descriptor). let c' : Chain = record { id = head ram q; slots = 1; readable = readable_of all; writable = writable_of all } in c') e ∙ sym t.is
