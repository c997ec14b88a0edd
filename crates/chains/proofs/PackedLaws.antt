use Rattle.std.specs.Prelude.{◌≡◌, ℕ, ◌+◌, ◌%◌, List, [], ◌∷◌, ◌++◌, length, Bool, true, false, refl}
use Rattle.std.proofs.Common.{ap, sym, ◌∙◌}
use Rattle.std.specs.Bool.{MatchBool}
use Rattle.std.proofs.lemmas.List.{same_from_push}
use Rattle.chains.specs.declared.descriptor.Descriptor.{Descriptor}
use Rattle.chains.specs.declared.chain.Chain.{Chain}
use Rattle.chains.specs.State.{RingState}
use Rattle.chains.specs.Whole.{readable_of, writable_of}
use Rattle.chains.specs.PackedChain.{AreConsecutive, IsPackedTable, IsPackedList, IsPackedChain}

-- At most one list of descriptors begins at a slot.
pub consecutive_same : (ram : List ℕ) (table size slot : ℕ) (ds es : List Descriptor) → AreConsecutive ram table size slot ds → AreConsecutive ram table size slot es → ds ≡ es
consecutive_same ram table size slot [] es h k = absurd h
consecutive_same ram table size slot (d ∷ ds) [] h k = absurd k
consecutive_same ram table size slot (d ∷ []) (e ∷ []) h k = let x : d ≡ e = h.0 ∙ sym k.0 in cc
consecutive_same ram table size slot (d ∷ []) (e ∷ e' ∷ es) h k =
    let x : d ≡ e = h.0 ∙ sym k.0 in
    let bad : true ≡ false = sym k.1 ∙ sym (ap (λ (y : Descriptor). y.has_next) x) ∙ h.1 in
    absurd (cc)
consecutive_same ram table size slot (d ∷ d' ∷ ds) (e ∷ []) h k =
    let x : e ≡ d = k.0 ∙ sym h.0 in
    let bad : true ≡ false = sym h.1 ∙ sym (ap (λ (y : Descriptor). y.has_next) x) ∙ k.1 in
    absurd (cc)
consecutive_same ram table size slot (d ∷ d' ∷ ds) (e ∷ e' ∷ es) h k =
    let x : d ≡ e = h.0 ∙ sym k.0 in
    let rest : d' ∷ ds ≡ e' ∷ es = consecutive_same ram table size ((slot + 1) % size) (d' ∷ ds) (e' ∷ es) h.2 k.2 in
    rw (x, rest) refl

replaced_by : (base : ℕ) (ram : List ℕ) (has_indirect named : Bool) (front : List Descriptor) (last : Descriptor) (all more : List Descriptor)
    → MatchBool named ((has_indirect ≡ true) × IsPackedTable base ram front last all) (all ≡ front ++ last ∷ [])
    → MatchBool named ((has_indirect ≡ true) × IsPackedTable base ram front last more) (more ≡ front ++ last ∷ []) → all ≡ more
replaced_by base ram has_indirect true front last all more (p, t) (p', u) = t.entries ∙ sym u.entries
replaced_by base ram has_indirect false front last all more t u = t ∙ sym u

-- At most one list of descriptors is at the taking position.
pub packed_list_same : (ram : List ℕ) (q : RingState) (front front' : List Descriptor) (last last' : Descriptor) (all all' : List Descriptor)
    → IsPackedList ram q front last all → IsPackedList ram q front' last' all' → (front ≡ front') × (last ≡ last') × (all ≡ all')
packed_list_same ram q front front' last last' all all' l k =
    let joined : front ++ last ∷ [] ≡ front' ++ last' ∷ [] =
    consecutive_same ram q.descriptors q.size q.taking.place (front ++ last ∷ []) (front' ++ last' ∷ []) l.consecutive k.consecutive in
    let (fronts, lasts) = same_from_push front front' last last' joined in
    (fronts, lasts, replaced_by q.base ram q.has_indirect last'.is_indirect front' last' all all' (rw (lasts, fronts) at l.replaced) k.replaced)

chain_of : List Descriptor → Descriptor → List Descriptor → Chain
chain_of front last all = record { id = last.id; slots = length front + 1; readable = readable_of all; writable = writable_of all }

-- A packed queue has at most one chain at its taking position.
pub packed_chain_same : (ram : List ℕ) (q : RingState) (c d : Chain) → IsPackedChain ram q c → IsPackedChain ram q d → c ≡ d
unfolding chain_of
packed_chain_same ram q c d s t =
    let same = packed_list_same ram q s.front t.front s.last t.last s.all t.all s.list t.list in
    let is : c ≡ chain_of s.front s.last s.all = s.is in
    let also : d ≡ chain_of t.front t.last t.all = t.is in
    is ∙ rw (same.0, same.1, same.2) (sym also)
