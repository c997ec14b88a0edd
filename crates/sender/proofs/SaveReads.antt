-- The calls of disks while a machine is saved.
use Rattle.std.proofs.Common.{◌≡◌, ℕ, zero, suc, ◌+◌, ◌<◌, ◌≤◌, List, [], ◌∷◌, length, map, take, Option, refl, ap, sym, subst, ◌∙◌, arith}
use Rattle.guestmem.specs.Item as items
use Rattle.machine.specs.Layout.{item_at, layout_of, pages_of, size_from}
use Rattle.machine.specs.Seen.{Seen, all_calls, state_of}
use Rattle.machine.specs.State.{MachineState}
use Rattle.sender.specs.Items.{first_sector, sectors_before, size_on}
use Rattle.sender.specs.Reads.{ReadsItem, ReadsItems, ReadsPart, after_items, after_read}
use Rattle.sender.proofs.Parts.{before_more, first_is, item_is}

-- Items that are read one after another.
pub no_items : (called : ℕ → ℕ) (m : MachineState) (first : ℕ) (calls : List (Option ℕ)) → after_items called m first 0 calls ≡ calls
unfolding after_items
no_items called m first calls = refl

one_item : (called : ℕ → ℕ) (m : MachineState) (first n : ℕ) (calls : List (Option ℕ)) → after_items called m first (n + 1) calls ≡ after_read called m (item_at (layout_of m) (first + n)) (after_items called m first n calls)
unfolding after_items
one_item called m first n calls = let more : n + 1 ≡ suc n = omega arith in rw more refl

items_both : (called : ℕ → ℕ) (m : MachineState) (first a b : ℕ) (calls : List (Option ℕ)) → after_items called m first (a + b) calls ≡ after_items called m (first + a) b (after_items called m first a calls)
items_both called m first a zero calls =
    let e : a + 0 ≡ a = omega arith in
    rw (e, no_items called m (first + a) (after_items called m first a calls)) refl
items_both called m first a (suc b) calls =
    let e : a + suc b ≡ (a + b) + 1 = omega arith in
    let f : suc b ≡ b + 1 = omega arith in
    let g : first + (a + b) ≡ first + a + b = omega arith in
    rw (e, f)
    (one_item called m first (a + b) calls ∙ ap (λ (i : ℕ). after_read called m (item_at (layout_of m) i) (after_items called m first (a + b) calls)) g
    ∙ ap (after_read called m (item_at (layout_of m) (first + a + b))) (items_both called m first a b calls) ∙ sym (one_item called m (first + a) b (after_items called m first a calls)))

then_items : (called : ℕ → ℕ) (old mid new : Seen) (first a b : ℕ) → state_of mid ≡ state_of old → ReadsItems called old first a mid → ReadsItems called mid (first + a) b new → ReadsItems called old first (a + b) new
then_items called old mid new first a b same one two =
    let P : MachineState → Type 0 = λ m. all_calls new ≡ after_items called m (first + a) b (all_calls mid) in
    subst P same two ∙ ap (after_items called (state_of old) (first + a) b) one ∙ sym (items_both called (state_of old) first a b (all_calls old))

-- A sector more.
pub sector_read : (called : ℕ → ℕ) (old mid new : Seen) (dev n : ℕ) → state_of mid ≡ state_of old → n < size_on (state_of old) dev → ReadsItems called old (first_sector (state_of old) dev) n mid → ReadsItem called mid (items.sector dev n) new
    → ReadsItems called old (first_sector (state_of old) dev) (n + 1) new
sector_read called old mid new dev n same below before one =
    let m = state_of old in
    let first = first_sector m dev in
    let P : MachineState → Type 0 = λ k. all_calls new ≡ after_read called k (items.sector dev n) (all_calls mid) in
    subst P same one ∙ ap (after_read called m (items.sector dev n)) before
    ∙ ap (λ (i : items.Item). after_read called m i (after_items called m first n (all_calls old))) (sym (item_is m dev n below)) ∙ sym (one_item called m first n (all_calls old))

-- A disk more.
first_least : (sizes : List ℕ) (first : ℕ) → first ≤ size_from first sizes
first_least [] first = omega arith
first_least (size ∷ sizes) first = let rest = first_least sizes (first + size) in omega (arith, rest)

more_before : (sizes : List ℕ) (first a b : ℕ) → a ≤ b → size_from first (take a sizes) ≤ size_from first (take b sizes)
more_before [] first zero zero le = omega arith
more_before [] first zero (suc b) le = omega arith
more_before [] first (suc a) zero le = omega arith
more_before [] first (suc a) (suc b) le = omega arith
more_before (size ∷ sizes) first zero b le = first_least (take b (size ∷ sizes)) first
more_before (size ∷ sizes) first (suc a) zero le = absurd (omega (arith, le))
more_before (size ∷ sizes) first (suc a) (suc b) le = more_before sizes (first + size) a b (omega (arith, le))

module _ (called : ℕ → ℕ) (old mid new : Seen) (dev : ℕ) (same : state_of mid ≡ state_of old) (before : ReadsItems called old (pages_of (state_of old)) (sectors_before (state_of old) dev) mid) where
  abbrev m : MachineState
  m = state_of old

  here : (count : ℕ) → ReadsItems called mid (first_sector (state_of mid) dev) count new → ReadsItems called old (pages_of m) (sectors_before m dev + count) new
  here count reads =
      let P : MachineState → Type 0 = λ k. ReadsItems called mid (first_sector k dev) count new in
      then_items called old mid new (pages_of m) (sectors_before m dev) count same before (subst (λ (n : ℕ). ReadsItems called mid n count new) (first_is m dev) (subst P same reads))

  pub disk_read : dev < length (map length m.disks) → ReadsItems called mid (first_sector (state_of mid) dev) (size_on (state_of mid) dev) new → ReadsItems called old (pages_of m) (sectors_before m (dev + 1)) new
  disk_read below reads =
      let P : MachineState → Type 0 = λ k. ReadsItems called mid (first_sector (state_of mid) dev) (size_on k dev) new in
      subst (λ (n : ℕ). ReadsItems called old (pages_of m) n new) (sym (before_more (map length m.disks) 0 dev below)) (here (size_on m dev) (subst P same reads))

  pub disk_part : dev < length (map length m.disks) → length (map length m.disks) ≡ length m.disks → ReadsPart called mid (first_sector (state_of mid) dev) (size_on (state_of mid) dev) new
      → ReadsPart called old (pages_of m) (sectors_before m (length m.disks)) new
  disk_part below long part =
      let within : part.count ≤ size_on m dev = subst (λ (k : MachineState). part.count ≤ size_on k dev) same part.within in
      record {
        count = sectors_before m dev + part.count;
        within = omega (arith, within, before_more (map length m.disks) 0 dev below, more_before (map length m.disks) 0 (dev + 1) (length m.disks) (omega (arith, below, long)));
        reads = here part.count part.reads;
      }

-- Nothing is read yet.
pub none_read : (called : ℕ → ℕ) (old : Seen) (first n : ℕ) → ReadsPart called old first n old
none_read called old first n = record { count = 0; within = omega arith; reads = sym (no_items called (state_of old) first (all_calls old)) }
