use Rattle.std.proofs.Common.{true, false, ◌≡◌, ℕ, ◌+◌, ◌-◌, ◌<◌, ◌≤◌, List, [], ◌∷◌, ◌++◌, length, Err, refl, ap, sym, ◌∙◌, arith, append_assoc, append-nil, length-append}
use Rattle.std.proofs.lemmas.List.Elements.{All-push, All-nil}
use Rattle.chains.specs.declared.descriptor.Descriptor.{Descriptor}
use Rattle.chains.specs.declared.chain.Chain.{Chain}
use Rattle.chains.specs.declared.no_chain.NoChain.{NoChain}
use Rattle.chains.specs.declared.no_chain.NoChain.TheVariants.{Malformed, NoMemory}
use Rattle.chains.specs.Descriptor.{descriptor_at}
use Rattle.chains.specs.Whole.{ArePlain}
use Rattle.chains.specs.SplitChain.{AreLinked}
use Rattle.chains.proofs.SplitLaws.{linked_some}
use Rattle.chains.specs.LongQueue.{AreInRow}
use Rattle.chains.specs.Held.{AreHeld, AddGives}
use Rattle.splitring.specs.declared.walk.Table.{Table}
use Rattle.splitring.specs.Walk.{IsNoneSound, AreGathered, AreBeforeTable, WalkGives}
use Rattle.splitring.proofs.Spelled.{spelled_at, spelled_next, spelled_longer}

-- The list from an index on begins with these, and goes on from another index: what completes the rest completes the
-- whole, and nothing else does. A row from there on goes on from these, too.
pub record Leads (ram : List ℕ) (table entries index : ℕ) (front : List Descriptor) (next : ℕ) : Type 0 where
  pub completes : (rest : List Descriptor) → AreLinked ram table entries next rest → AreLinked ram table entries index (front ++ rest)
  pub only : (whole : List Descriptor) → AreLinked ram table entries index whole → (rest : List Descriptor) × (whole ≡ front ++ rest) × AreLinked ram table entries next rest
  pub rows : (rest : List Descriptor) → AreInRow ram table entries next rest → AreInRow ram table entries index (front ++ rest)

leads_start : (ram : List ℕ) (table entries index : ℕ) → Leads ram table entries index [] index
leads_start ram table entries index = record { completes = λ rest h. h; only = λ whole h. (whole, refl, h); rows = λ rest h. h }

behind : (ram : List ℕ) (table entries index : ℕ) (d : Descriptor) → index < entries → d ≡ descriptor_at false ram table index → d.has_next ≡ true
    → (rest : List Descriptor) → AreLinked ram table entries d.next rest → AreLinked ram table entries index (d ∷ rest)
behind ram table entries index d below is next [] h = absurd h
behind ram table entries index d below is next (e ∷ es) h = (below, is, next, h)

row_behind : (ram : List ℕ) (table entries index : ℕ) (d : Descriptor) → index < entries → d ≡ descriptor_at false ram table index → d.has_next ≡ true
    → (rest : List Descriptor) → AreInRow ram table entries d.next rest → AreInRow ram table entries index (d ∷ rest)
row_behind ram table entries index d below is next [] h = absurd h
row_behind ram table entries index d below is next (e ∷ es) h = (below, is, next, h)

first_is : (ram : List ℕ) (table entries index : ℕ) (d : Descriptor) → d ≡ descriptor_at false ram table index → d.has_next ≡ true
    → (whole : List Descriptor) → AreLinked ram table entries index whole → (rest : List Descriptor) × (whole ≡ d ∷ rest) × AreLinked ram table entries d.next rest
first_is ram table entries index d is next [] h = absurd h
first_is ram table entries index d is next (x ∷ []) h =
    let same : x ≡ d = h.1 ∙ sym is in
    let bad : true ≡ false = sym next ∙ sym (ap (λ (y : Descriptor). y.has_next) same) ∙ h.2 in
    absurd (cc)
first_is ram table entries index d is next (x ∷ e ∷ es) h =
    let same : x ≡ d = h.1 ∙ sym is in
    (e ∷ es, ap (λ (y : Descriptor). y ∷ e ∷ es) same, rw same at h.3)

leads_more : (ram : List ℕ) (table entries index next : ℕ) (front : List Descriptor) (d : Descriptor) → Leads ram table entries index front next
    → next < entries → d ≡ descriptor_at false ram table next → d.has_next ≡ true → Leads ram table entries index (front ++ d ∷ []) d.next
leads_more ram table entries index next front d leads below is more = record {
  completes = λ rest h. rw append_assoc (leads.completes (d ∷ rest) (behind ram table entries next d below is more rest h));
  only = λ whole h.
      let a = leads.only whole h in
      let b = first_is ram table entries next d is more a.0 a.2 in
      (b.0, a.1 ∙ ap (λ (ys : List Descriptor). front ++ ys) b.1 ∙ sym (append_assoc front (d ∷ []) b.0), b.2);
  rows = λ rest h. rw append_assoc (leads.rows (d ∷ rest) (row_behind ram table entries next d below is more rest h));
}

-- An index past the table begins no list.
past : (ram : List ℕ) (table entries index : ℕ) → entries ≤ index → (ds : List Descriptor) → AreLinked ram table entries index ds → ⊥
past ram table entries index beyond [] h = h
past ram table entries index beyond (d ∷ []) h = omega (arith, h.0)
past ram table entries index beyond (d ∷ e ∷ es) h = omega (arith, h.0)

-- Every list begins with the descriptor at its entry.
linked_first : (ram : List ℕ) (table entries index : ℕ) (d : Descriptor) → d ≡ descriptor_at false ram table index → (ds : List Descriptor) → AreLinked ram table entries index ds
    → (rest : List Descriptor) × (ds ≡ d ∷ rest)
linked_first ram table entries index d is [] h = absurd h
linked_first ram table entries index d is (x ∷ []) h = ([], ap (λ (y : Descriptor). y ∷ []) (h.1 ∙ sym is))
linked_first ram table entries index d is (x ∷ e ∷ es) h = (e ∷ es, ap (λ (y : Descriptor). y ∷ e ∷ es) (h.1 ∙ sym is))

-- The first so many of the list that begins at an entry are walked: it goes on from an index, and a chain holds them behind
-- others.
pub record IsWalked (base : ℕ) (ram : List ℕ) (table entries first : ℕ) (before : List Descriptor) (c : Chain) (count next : ℕ) : Type 0 where
  pub walked : List Descriptor
  pub count_is : length walked ≡ count
  pub leads : Leads ram table entries first walked next
  pub plain : ArePlain walked
  pub held : AreHeld base (length ram) (before ++ walked) c

-- None yet.
pub walked_none : (base : ℕ) (ram : List ℕ) (table entries first : ℕ) (before : List Descriptor) (c : Chain) → AreHeld base (length ram) before c → IsWalked base ram table entries first before c 0 first
walked_none base ram table entries first before c h = record {
  walked = [];
  count_is = refl;
  leads = leads_start ram table entries first;
  plain = All-nil (λ (d : Descriptor). d.is_indirect ≡ false);
  held = rw append-nil h;
}

-- One more, that has a next one.
pub walked_more : (base : ℕ) (ram : List ℕ) (table entries first : ℕ) (before : List Descriptor) (c new : Chain) (count next : ℕ) (d : Descriptor) (w : IsWalked base ram table entries first before c count next)
    → next < entries → d ≡ descriptor_at false ram table next → d.is_indirect ≡ false → d.has_next ≡ true → AreHeld base (length ram) ((before ++ w.walked) ++ d ∷ []) new
    → IsWalked base ram table entries first before new (count + 1) d.next
walked_more base ram table entries first before c new count next d w below is plain more held = record {
  walked = w.walked ++ d ∷ [];
  count_is = omega (arith, length-append w.walked (d ∷ []), w.count_is);
  leads = leads_more ram table entries first next w.walked d w.leads below is more;
  plain = All-push (λ (x : Descriptor). x.is_indirect ≡ false) w.walked d w.plain plain;
  held = rw (append_assoc before w.walked (d ∷ [])) at held;
}

-- An index past the table.
pub walked_past : (base : ℕ) (ram : List ℕ) (table entries first room : ℕ) (before : List Descriptor) (c : Chain) (count next : ℕ) → IsWalked base ram table entries first before c count next → entries ≤ next
    → IsNoneSound base ram table entries first room before
walked_past base ram table entries first room before c count next w beyond direct all h s few sound = let a = w.leads.only direct h in past ram table entries next beyond a.0 a.2

-- No room for another one.
pub walked_full : (base : ℕ) (ram : List ℕ) (table entries first room : ℕ) (before : List Descriptor) (c : Chain) (count next : ℕ) → IsWalked base ram table entries first before c count next → room ≤ count
    → IsNoneSound base ram table entries first room before
walked_full base ram table entries first room before c count next w full direct all h s few sound =
    let a = w.leads.only direct h in
    let one : 1 ≤ length a.0 = linked_some ram table entries next a.0 a.2 in
    let longer : length direct ≤ length all = spelled_longer direct all s in
    omega (arith, ap length a.1, length-append w.walked a.0, w.count_is)

-- An indirect one that has a next one.
pub walked_indirect : (base : ℕ) (ram : List ℕ) (table entries first room : ℕ) (before : List Descriptor) (c : Chain) (count next : ℕ) (d : Descriptor) → IsWalked base ram table entries first before c count next
    → d ≡ descriptor_at false ram table next → d.is_indirect ≡ true → d.has_next ≡ true → IsNoneSound base ram table entries first room before
walked_indirect base ram table entries first room before c count next d w is named more direct all h s few sound =
    let a = w.leads.only direct h in
    let b = first_is ram table entries next d is more a.0 a.2 in
    let one : 1 ≤ length b.0 = linked_some ram table entries d.next b.0 b.2 in
    let parts : direct ≡ w.walked ++ d ∷ b.0 = a.1 ∙ ap (λ (ys : List Descriptor). w.walked ++ ys) b.1 in
    let plain : d.is_indirect ≡ false = spelled_next direct all w.walked d b.0 s parts one in
    absurd (cc)

-- One that was not added: it breaks a rule, or memory was refused for it.
pub walked_stopped : (base : ℕ) (ram : List ℕ) (table : Table) (first size : ℕ) (before : List Descriptor) (c new : Chain) (count next : ℕ) (d last : Descriptor) (why : NoChain) (len : ℕ)
    → IsWalked base ram table.at table.entries first before c count next → next < table.entries → d ≡ descriptor_at false ram table.at next → count < size - length before → d.is_indirect ≡ false → len ≡ length ram
    → ((ds : List Descriptor) → AreHeld base len ds c → AddGives base len ds d new (Err why)) → WalkGives base ram table first size before new last (Err why)
walked_stopped base ram table first size before c new count next d last Malformed len w below is some plain len_is gives = λ direct all h s few sound.
    let a = w.leads.only direct h in
    let b = linked_first ram table.at table.entries next d is a.0 a.2 in
    let parts : direct ≡ w.walked ++ d ∷ b.0 = a.1 ∙ ap (λ (ys : List Descriptor). w.walked ++ ys) b.1 in
    let more = spelled_at direct all w.walked d b.0 s parts plain in
    let whole : before ++ all ≡ (before ++ w.walked) ++ d ∷ more.0 = ap (λ (ys : List Descriptor). before ++ ys) more.1 ∙ sym (append_assoc before w.walked (d ∷ more.0)) in
    (rw len_is at (gives (before ++ w.walked) (rw len_is w.held))) more.0 (rw whole at sound)
walked_stopped base ram table first size before c new count next d last NoMemory len w below is some plain len_is gives =
    let long = gives (before ++ w.walked) (rw len_is w.held) in
    let ends = length-append w.walked (d ∷ []) in
    let both = length-append before w.walked in
    record {
      row = w.walked ++ d ∷ [];
      in_row = w.leads.rows (d ∷ []) (below, is);
      few = omega (arith, ends, w.count_is);
      long = omega (arith, ends, both, long);
    }

-- The last one.
pub walked_last : (base : ℕ) (ram : List ℕ) (table entries first room : ℕ) (before : List Descriptor) (c new : Chain) (count next : ℕ) (d : Descriptor) (w : IsWalked base ram table entries first before c count next)
    → next < entries → d ≡ descriptor_at false ram table next → count < room → d.is_indirect ≡ false → d.has_next ≡ false → AreHeld base (length ram) ((before ++ w.walked) ++ d ∷ []) new
    → AreGathered base ram table entries first room before new
walked_last base ram table entries first room before c new count next d w below is some plain last held = record {
  front = w.walked;
  last = d;
  linked = w.leads.completes (d ∷ []) (below, is, last);
  few = omega (arith, w.count_is);
  plain = w.plain;
  last_plain = plain;
  held = rw (append_assoc before w.walked (d ∷ [])) at held;
}

-- The last one, where it names a table.
pub walked_table : (base : ℕ) (ram : List ℕ) (table entries first room : ℕ) (before : List Descriptor) (c : Chain) (count next : ℕ) (d : Descriptor) → IsWalked base ram table entries first before c count next
    → next < entries → d ≡ descriptor_at false ram table next → count < room → d.is_indirect ≡ true → d.has_next ≡ false → AreBeforeTable base ram table entries first room before d c
walked_table base ram table entries first room before c count next d w below is some named last = record {
  front = w.walked;
  linked = w.leads.completes (d ∷ []) (below, is, last);
  few = omega (arith, w.count_is);
  plain = w.plain;
  named = named;
  held = w.held;
}
