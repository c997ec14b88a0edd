use Rattle.std.proofs.Common.{true, false, ◌≡◌, ℕ, ◌+◌, ◌%◌, List, [], ◌∷◌, ◌++◌, ap, sym, ◌∙◌, append_assoc, refl}
use Rattle.chains.specs.declared.descriptor.Descriptor.{Descriptor}
use Rattle.chains.specs.Descriptor.{descriptor_at}
use Rattle.chains.specs.PackedChain.{AreConsecutive}
use Rattle.chains.specs.LongQueue.{AreInSlots}

-- The descriptors from a slot on begin with these, and go on from another slot: what completes the rest completes the
-- whole, and nothing else does. A row from there on goes on from these, too.
pub record Leads (ram : List ℕ) (table size slot : ℕ) (front : List Descriptor) (next : ℕ) : Type 0 where
  pub completes : (rest : List Descriptor) → AreConsecutive ram table size next rest → AreConsecutive ram table size slot (front ++ rest)
  pub only : (whole : List Descriptor) → AreConsecutive ram table size slot whole → (rest : List Descriptor) × (whole ≡ front ++ rest) × AreConsecutive ram table size next rest
  pub rows : (rest : List Descriptor) → AreInSlots ram table size next rest → AreInSlots ram table size slot (front ++ rest)

-- Nothing leads to the slot itself.
pub leads_start : (ram : List ℕ) (table size slot : ℕ) → Leads ram table size slot [] slot
leads_start ram table size slot = record { completes = λ rest h. h; only = λ whole h. (whole, refl, h); rows = λ rest h. h }

behind : (ram : List ℕ) (table size slot : ℕ) (d : Descriptor) → d ≡ descriptor_at true ram table slot → d.has_next ≡ true
    → (rest : List Descriptor) → AreConsecutive ram table size ((slot + 1) % size) rest → AreConsecutive ram table size slot (d ∷ rest)
behind ram table size slot d is next [] h = absurd h
behind ram table size slot d is next (e ∷ es) h = (is, next, h)

row_behind : (ram : List ℕ) (table size slot : ℕ) (d : Descriptor) → d ≡ descriptor_at true ram table slot → d.has_next ≡ true
    → (rest : List Descriptor) → AreInSlots ram table size ((slot + 1) % size) rest → AreInSlots ram table size slot (d ∷ rest)
row_behind ram table size slot d is next [] h = absurd h
row_behind ram table size slot d is next (e ∷ es) h = (is, next, h)

first_is : (ram : List ℕ) (table size slot : ℕ) (d : Descriptor) → d ≡ descriptor_at true ram table slot → d.has_next ≡ true
    → (whole : List Descriptor) → AreConsecutive ram table size slot whole → (rest : List Descriptor) × (whole ≡ d ∷ rest) × AreConsecutive ram table size ((slot + 1) % size) rest
first_is ram table size slot d is next [] h = absurd h
first_is ram table size slot d is next (x ∷ []) h =
    let same : x ≡ d = h.0 ∙ sym is in
    let bad : true ≡ false = sym next ∙ sym (ap (λ (y : Descriptor). y.has_next) same) ∙ h.1 in
    absurd (cc)
first_is ram table size slot d is next (x ∷ e ∷ es) h =
    let same : x ≡ d = h.0 ∙ sym is in
    (e ∷ es, ap (λ (y : Descriptor). y ∷ e ∷ es) same, h.2)

-- What leads to a slot whose descriptor has a next one leads past it.
pub leads_more : (ram : List ℕ) (table size slot next : ℕ) (front : List Descriptor) (d : Descriptor) → Leads ram table size slot front next
    → d ≡ descriptor_at true ram table next → d.has_next ≡ true → Leads ram table size slot (front ++ d ∷ []) ((next + 1) % size)
leads_more ram table size slot next front d leads is more = record {
  completes = λ rest h. rw append_assoc (leads.completes (d ∷ rest) (behind ram table size next d is more rest h));
  only = λ whole h.
      let a = leads.only whole h in
      let b = first_is ram table size next d is more a.0 a.2 in
      (b.0, a.1 ∙ ap (λ (ys : List Descriptor). front ++ ys) b.1 ∙ sym (append_assoc front (d ∷ []) b.0), b.2);
  rows = λ rest h. rw append_assoc (leads.rows (d ∷ rest) (row_behind ram table size next d is more rest h));
}

-- The first of them is that of the slot.
pub consecutive_first : (ram : List ℕ) (table size slot : ℕ) (d : Descriptor) (ds : List Descriptor) → AreConsecutive ram table size slot (d ∷ ds) → d ≡ descriptor_at true ram table slot
consecutive_first ram table size slot d [] h = h.0
consecutive_first ram table size slot d (e ∷ es) h = h.0

-- So they begin with it.
pub consecutive_begins : (ram : List ℕ) (table size slot : ℕ) (d : Descriptor) → d ≡ descriptor_at true ram table slot → (ds : List Descriptor) → AreConsecutive ram table size slot ds
    → (rest : List Descriptor) × (ds ≡ d ∷ rest)
consecutive_begins ram table size slot d is [] h = absurd h
consecutive_begins ram table size slot d is (x ∷ xs) h = (xs, ap (λ (y : Descriptor). y ∷ xs) (consecutive_first ram table size slot x xs h ∙ sym is))
