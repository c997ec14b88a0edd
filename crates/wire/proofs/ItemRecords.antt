-- Records that name items: which is the last that names one.
use Rattle.std.proofs.Common.{◌≡◌, ℕ, zero, suc, ◌<◌, ◌≤◌, Bool, true, false, cond, ◌&&◌, eqb, List, [], ◌∷◌, ◌++◌, inl, inr, Option, Some, None, refl, sym, ap, subst, ◌∙◌, arith}
use Rattle.std.proofs.lemmas.Bool.{eqb-true, eqb-false, eq-eqb}
use Rattle.guestmem.specs.Item.{Item, page, sector}
use Rattle.machine.specs.Layout.{Layout, IsItemIn, layout_of, size_of, number_of, item_at}
use Rattle.machine.specs.State.{MachineState}
use Rattle.machine.proofs.Numbering.{either_way, number_back, number_below, item_back}
use Rattle.guestmem.specs.Page.{page_of}
use Rattle.wire.specs.Records.{Record, is_zero_page, page_record}
use Rattle.wire.specs.Stream.{or_else, same_item, says_of, last_named, record_in, records_in}
use Rattle.wire.proofs.PageRecords.{as_page, as_zeros}

-- Items are told apart.
true_parts : (a b : Bool) → (a && b) ≡ true → (a ≡ true) × (b ≡ true)
true_parts true b e = (refl, e)
true_parts false b e = cc

sectors_same : (a b c d : ℕ) → a ≡ c → b ≡ d → sector a b ≡ sector c d
sectors_same a b c d e f = rw (e, f) refl

pub same_if : (i j : Item) → same_item i j ≡ true → i ≡ j
same_if (page a) (page b) e = ap page (eqb-true a b e)
same_if (page a) (sector c d) e = cc
same_if (sector a b) (page c) e = cc
same_if (sector a b) (sector c d) e = let p = true_parts (eqb a c) (eqb b d) e in sectors_same a b c d (eqb-true a c p.0) (eqb-true b d p.1)

pub same_itself : (i : Item) → same_item i i ≡ true
same_itself (page a) = eq-eqb a a refl
same_itself (sector a b) = rw (eq-eqb a a refl) (eq-eqb b b refl)

pub same_number : (l : Layout) (i k : ℕ) → i < size_of l → k < size_of l → same_item (item_at l i) (item_at l k) ≡ eqb i k
same_number l i k low high = elim (either_way (eqb i k)) as (λ _. same_item (item_at l i) (item_at l k) ≡ eqb i k) [
  | inl e ↦ (let P : ℕ → Type 0 = λ x. same_item (item_at l i) (item_at l x) ≡ true in sym (e ∙ sym (subst P (eqb-true i k e) (same_itself (item_at l i)))))
  | inr e ↦ elim (either_way (same_item (item_at l i) (item_at l k))) as (λ _. same_item (item_at l i) (item_at l k) ≡ eqb i k) [
    | inl b ↦ absurd (eqb-false i k e (sym (number_back l i low) ∙ ap (number_of l) (same_if (item_at l i) (item_at l k) b) ∙ number_back l k high))
    | inr b ↦ b ∙ sym e
  ]
]

pub says_page : (i : Item) (version n : ℕ) (bytes : List ℕ) → says_of i (page_record version n bytes) ≡ cond (same_item i (page n)) (Some (page_record version n bytes)) None
says_page i version n bytes = elim (either_way (is_zero_page version bytes)) as (λ _. says_of i (page_record version n bytes) ≡ cond (same_item i (page n)) (Some (page_record version n bytes)) None) [
  | inl z ↦ rw (as_zeros version n bytes z) refl
  | inr f ↦ rw (as_page version n bytes f) refl
]

says_record : (v : ℕ) (m : MachineState) (i j : Item) → says_of i (record_in v m.ram m.disks j) ≡ cond (same_item i j) (Some (record_in v m.ram m.disks j)) None
says_record v m i (page n) = says_page i v n (page_of m.ram n)
says_record v m i (sector d n) = refl

-- What the record of one of the machine's items says of another.
pub says_at : (v : ℕ) (m : MachineState) (i k : ℕ) → i < size_of (layout_of m) → k < size_of (layout_of m)
    → says_of (item_at (layout_of m) i) (record_in v m.ram m.disks (item_at (layout_of m) k)) ≡ cond (eqb i k) (Some (record_in v m.ram m.disks (item_at (layout_of m) i))) None
says_at v m i k low high =
    let l = layout_of m in
    says_record v m (item_at l i) (item_at l k) ∙ ap (λ (b : Bool). cond b (Some (record_in v m.ram m.disks (item_at l k))) None) (same_number l i k low high)
    ∙ elim (either_way (eqb i k)) as (λ _. cond (eqb i k) (Some (record_in v m.ram m.disks (item_at l k))) None ≡ cond (eqb i k) (Some (record_in v m.ram m.disks (item_at l i))) None)
    [ inl e ↦ ap (λ (x : ℕ). cond (eqb i k) (Some (record_in v m.ram m.disks (item_at l x))) None) (sym (eqb-true i k e)) | inr e ↦ rw e refl ]

-- Lists of records.
pub or_else_none : {A : Type 0} (x : Option A) → x ≡ or_else x None
or_else_none (Some a) = refl
or_else_none None = refl

pub or_else_assoc : {A : Type 0} (x y z : Option A) → or_else (or_else x y) z ≡ or_else x (or_else y z)
or_else_assoc (Some a) y z = refl
or_else_assoc None y z = refl

pub named-append : (i : Item) (xs ys : List Record) → last_named i (xs ++ ys) ≡ or_else (last_named i ys) (last_named i xs)
unfolding last_named
named-append i [] ys = or_else_none (last_named i ys)
named-append i (x ∷ xs) ys = rw (named-append i xs ys) (or_else_assoc (last_named i ys) (last_named i xs) (says_of i x))

pub named_nothing : (i : Item) → last_named i [] ≡ None
unfolding last_named
named_nothing i = refl

pub named_one : (i : Item) (x : Record) → last_named i (x ∷ []) ≡ says_of i x
unfolding last_named
named_one i x = refl

pub named-snoc : (i : Item) (xs : List Record) (x : Record) → last_named i (xs ++ x ∷ []) ≡ or_else (says_of i x) (last_named i xs)
named-snoc i xs x = named-append i xs (x ∷ []) ∙ ap (λ y. or_else y (last_named i xs)) (named_one i x)

-- The records of all items below a number name each of them.
chosen : (v : ℕ) (m : MachineState) (n k : ℕ) (b : Bool) (last : Option Record) → eqb k n ≡ b → (k < n → last ≡ Some (record_in v m.ram m.disks (item_at (layout_of m) k))) → k < suc n
    → or_else (cond b (Some (record_in v m.ram m.disks (item_at (layout_of m) k))) None) last ≡ Some (record_in v m.ram m.disks (item_at (layout_of m) k))
chosen v m n k true last is before below = refl
chosen v m n k false last is before below = let other = eqb-false k n is in before (omega (arith, below, other))

named_below : (v : ℕ) (m : MachineState) (n k : ℕ) → n ≤ size_of (layout_of m) → k < n → last_named (item_at (layout_of m) k) (records_in v m n) ≡ Some (record_in v m.ram m.disks (item_at (layout_of m) k))
unfolding records_in
named_below v m zero k few below = absurd (omega (arith, below))
named_below v m (suc n) k few below =
    let l = layout_of m in
    named-snoc (item_at l k) (records_in v m n) (record_in v m.ram m.disks (item_at l n))
    ∙ ap (λ y. or_else y (last_named (item_at l k) (records_in v m n))) (says_at v m k n (omega (arith, few, below)) (omega (arith, few)))
    ∙ chosen v m n k (eqb k n) (last_named (item_at l k) (records_in v m n)) refl (λ less. named_below v m n k (omega (arith, few)) less) below

pub all_named : (v : ℕ) (m : MachineState) (i : Item) → IsItemIn (layout_of m) i → last_named i (records_in v m (size_of (layout_of m))) ≡ Some (record_in v m.ram m.disks i)
all_named v m i has =
    let l = layout_of m in
    let named = named_below v m (size_of l) (number_of l i) (omega arith) (number_below l i has) in
    rw (item_back l i has) at named
