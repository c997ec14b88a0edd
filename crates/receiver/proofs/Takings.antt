-- What came of the items, after one record more.
use Rattle.std.proofs.Common.{◌≡◌, ◌≢◌, ℕ, ◌+◌, ◌-◌, ◌*◌, ◌<◌, ◌≤◌, Bool, true, false, cond, List, [], ◌∷◌, ◌++◌, length, get_or, take, drop, replicate, inl, inr, Option, Some, None, refl, sym, ap, ◌∙◌, append_assoc, arith}
use Rattle.std.specs.Prelude.{is_some, set}
use Rattle.std.proofs.lemmas.Bool.{cases_lt}
use Rattle.std.proofs.lemmas.List.{take-append-drop, take_at, drop_at, length-append, length-take, length-drop, take-append-le, drop-append-le, length-set, get_or-set_same, get_or-set_other, get_or-replicate, length-replicate}
use Rattle.std.proofs.Math.Seq.{drop-append-add}
use Rattle.guestmem.specs.Item as items
use Rattle.guestmem.specs.Item.{Item}
use Rattle.guestmem.specs.Page.{page_of}
use Rattle.machine.specs.Layout.{Layout, IsItemIn, item_at, number_of, size_of}
use Rattle.blk.specs.Sectors.{Sector}
use Rattle.machine.proofs.Numbering.{item_back, number_below}
use Rattle.wire.specs.Records.{Record, page, sector, round_end, device, zero_page, page_record}
use Rattle.wire.specs.Stream.{AreNumbered, rounds, or_else, says_of, same_item, last_named, record_in}
use Rattle.wire.proofs.ItemRecords.{same_if, same_itself, named-snoc, named_nothing}
use Rattle.receiver.specs.Taken.{shown, AreTaken}

low_page : (xs ys : List ℕ) (k : ℕ) → k + 4096 ≤ length xs → take 4096 (drop k (xs ++ ys)) ≡ take 4096 (drop k xs)
low_page xs ys k le =
    let a : drop k (xs ++ ys) ≡ drop k xs ++ ys = drop-append-le k xs ys (omega (arith, le)) in
    rw a (take-append-le 4096 (drop k xs) ys (omega (arith, le, length-drop k xs)))

high_page : (xs ys : List ℕ) (j k : ℕ) → length xs ≡ j → j ≤ k → drop k (xs ++ ys) ≡ drop (k - j) ys
high_page xs ys j k e le = let s : k ≡ length xs + (k - j) = omega (arith, e, le) in ap (λ (n : ℕ). drop n (xs ++ ys)) s ∙ drop-append-add xs ys (k - j)

abbrev pub put_page : List ℕ → ℕ → List ℕ → List ℕ
put_page ram i b = take (4096 * i) ram ++ (b ++ drop (4096 * i + 4096) ram)

pub page_put_same : (ram b : List ℕ) (i : ℕ) → 4096 * i + 4096 ≤ length ram → length b ≡ 4096 → page_of (put_page ram i b) i ≡ b
page_put_same ram b i le e =
    let len : length (take (4096 * i) ram) ≡ 4096 * i = omega (arith, length-take (4096 * i) ram, le) in
    rw (drop_at (take (4096 * i) ram) (b ++ drop (4096 * i + 4096) ram) (4096 * i) len) (take_at b (drop (4096 * i + 4096) ram) 4096 e)

pub page_put_other : (ram b : List ℕ) (i n : ℕ) → 4096 * i + 4096 ≤ length ram → length b ≡ 4096 → i ≢ n → page_of (put_page ram i b) n ≡ page_of ram n
page_put_other ram b i n le e other =
    let len : length (take (4096 * i) ram) ≡ 4096 * i = omega (arith, length-take (4096 * i) ram, le) in
    elim (cases_lt n i) [
      | inl lt ↦
          let room : 4096 * n + 4096 ≤ length (take (4096 * i) ram) = omega (arith, len, lt) in
          low_page (take (4096 * i) ram) (b ++ drop (4096 * i + 4096) ram) (4096 * n) room
          ∙ sym (low_page (take (4096 * i) ram) (drop (4096 * i) ram) (4096 * n) room)
          ∙ ap (λ (x : List ℕ). take 4096 (drop (4096 * n) x)) (take-append-drop (4096 * i) ram)
      | inr ge ↦
          let above : 4096 * i + 4096 ≤ 4096 * n = omega (arith, ge, other) in
          let len2 : length (take (4096 * i) ram ++ b) ≡ 4096 * i + 4096 = omega (arith, len, e, length-append (take (4096 * i) ram) b) in
          let len3 : length (take (4096 * i + 4096) ram) ≡ 4096 * i + 4096 = omega (arith, length-take (4096 * i + 4096) ram, le) in
          let a = high_page (take (4096 * i) ram ++ b) (drop (4096 * i + 4096) ram) (4096 * i + 4096) (4096 * n) len2 above in
          let z = high_page (take (4096 * i + 4096) ram) (drop (4096 * i + 4096) ram) (4096 * i + 4096) (4096 * n) len3 above in
          ap (λ (x : List ℕ). take 4096 (drop (4096 * n) x)) (sym (append_assoc (take (4096 * i) ram) b (drop (4096 * i + 4096) ram)))
          ∙ ap (take 4096) (a ∙ sym z ∙ ap (drop (4096 * n)) (take-append-drop (4096 * i + 4096) ram))
    ]

-- A page changes no other item.
item_stays : (v : ℕ) (ram b : List ℕ) (disks : List (List Sector)) (i : ℕ) (item : Item) → 4096 * i + 4096 ≤ length ram → length b ≡ 4096 → item ≢ items.page i → record_in v (put_page ram i b) disks item ≡ record_in v ram disks item
item_stays v ram b disks i (items.page n) le e other = ap (page_record v n) (page_put_other ram b i n le e (λ same. other (ap items.page (sym same))))
item_stays v ram b disks i (items.sector dev n) le e other = refl

-- Another item has another number.
other_number : (l : Layout) (here item : Item) → IsItemIn l here → IsItemIn l item → item ≢ here → number_of l item ≢ number_of l here
other_number l here item there has other same = other (sym (item_back l item has) ∙ ap (item_at l) same ∙ item_back l here there)

-- A record that names this item, and no other.
pub record Names (r : Record) (here : Item) : Type 0 where
  pub is : (i : Item) → says_of i r ≡ cond (same_item i here) (Some r) None

pub names_page : (n : ℕ) (b : List ℕ) → Names (page n b) (items.page n)
names_page n b = record { is = λ i. refl }

pub names_zeros : (n : ℕ) → Names (zero_page n) (items.page n)
names_zeros n = record { is = λ i. refl }

pub names_sector : (dev n : ℕ) (o : Sector) → Names (sector dev n o) (items.sector dev n)
names_sector dev n o = record { is = λ i. refl }

shown_at : (c : Bool) (l : Layout) (r was now : Record) (here item : Item) (named : List Bool) (last : Option Record) → same_item item here ≡ c → IsItemIn l here → IsItemIn l item → length named ≡ size_of l
    → (item ≡ here → now ≡ r) → (item ≢ here → now ≡ was) → last ≡ shown (get_or named (number_of l item) false) was
    → or_else (cond c (Some r) None) last ≡ shown (get_or (set named (number_of l here) true) (number_of l item) false) now
shown_at true l r was now here item named last is there has size same other h =
    let i : item ≡ here = same_if item here is in
    let lt : number_of l here < length named = omega (arith, size, number_below l here there) in
    rw (same i, i, get_or-set_same named (number_of l here) true false lt) refl
shown_at false l r was now here item named last is there has size same other h =
    let no : item ≢ here = λ i. (let both : true ≡ false = sym (rw i (same_itself here)) ∙ is in cc) in
    rw (other no, get_or-set_other named (number_of l here) (number_of l item) true false (other_number l here item there has no)) h

marked_at : (c : Bool) (l : Layout) (r : Record) (here item : Item) (named : List Bool) (last : Option Record) → same_item item here ≡ c → IsItemIn l here → IsItemIn l item → length named ≡ size_of l
    → is_some last ≡ get_or named (number_of l item) false → is_some (or_else (cond c (Some r) None) last) ≡ get_or (set named (number_of l here) true) (number_of l item) false
marked_at true l r here item named last is there has size h =
    let i : item ≡ here = same_if item here is in
    let lt : number_of l here < length named = omega (arith, size, number_below l here there) in
    rw (i, get_or-set_same named (number_of l here) true false lt) refl
marked_at false l r here item named last is there has size h =
    let no : item ≢ here = λ i. (let both : true ≡ false = sym (rw i (same_itself here)) ∙ is in cc) in
    rw (get_or-set_other named (number_of l here) (number_of l item) true false (other_number l here item there has no)) h

-- An item more is taken, where it now holds what its record says, and the others what they held.
pub taken_item : (v : ℕ) (ram ram2 : List ℕ) (disks disks2 : List (List Sector)) (named : List Bool) (l : Layout) (es : List Record) (r : Record) (here : Item) → AreTaken v ram disks named l es → Names r here → IsItemIn l here
    → length ram2 ≡ length ram → record_in v ram2 disks2 here ≡ r → ((i : Item) → IsItemIn l i → i ≢ here → record_in v ram2 disks2 i ≡ record_in v ram disks i)
    → AreTaken v ram2 disks2 (set named (number_of l here) true) l (es ++ r ∷ [])
taken_item v ram ram2 disks disks2 named l es r here h names there size is others = record {
  ram_size = size ∙ h.ram_size;
  named_size = simp length-set h.named_size;
  marks = λ i has. ap is_some (named-snoc i es r ∙ ap (λ o. or_else o (last_named i es)) (names.is i)) ∙ marked_at (same_item i here) l r here i named (last_named i es) refl there has h.named_size (h.marks i has);
  last = λ i has.
      named-snoc i es r ∙ ap (λ o. or_else o (last_named i es)) (names.is i)
      ∙ shown_at (same_item i here) l r (record_in v ram disks i) (record_in v ram2 disks2 i) here i named (last_named i es) refl there has h.named_size (λ e. ap (record_in v ram2 disks2) e ∙ is) (others i has) (h.last i has);
}

pub put_size : (ram b : List ℕ) (i : ℕ) → 4096 * i + 4096 ≤ length ram → length b ≡ 4096 → length (put_page ram i b) ≡ length ram
put_size ram b i le e = omega (arith, le, e, length-append (take (4096 * i) ram) (b ++ drop (4096 * i + 4096) ram), length-append b (drop (4096 * i + 4096) ram), length-take (4096 * i) ram, length-drop (4096 * i + 4096) ram)

pub taken_page : (v : ℕ) (ram b : List ℕ) (disks : List (List Sector)) (named : List Bool) (l : Layout) (i : ℕ) (es : List Record) (r : Record) → AreTaken v ram disks named l es → i < l.pages → 4096 * i + 4096 ≤ length ram → length b ≡ 4096
    → Names r (items.page i) → page_record v i b ≡ r → AreTaken v (put_page ram i b) disks (set named i true) l (es ++ r ∷ [])
taken_page v ram b disks named l i es r h low le e names is =
    taken_item v ram (put_page ram i b) disks disks named l es r (items.page i) h names low (put_size ram b i le e)
    (ap (page_record v i) (page_put_same ram b i le e) ∙ is) (λ j has other. item_stays v ram b disks i j le e other)

pub rounds_page : (es : List Record) (i : ℕ) (b : List ℕ) → rounds (es ++ page i b ∷ []) ≡ rounds es
unfolding rounds
rounds_page [] i b = refl
rounds_page (round_end n ∷ es) i b = ap (λ (k : ℕ). k + 1) (rounds_page es i b)
rounds_page (_ ∷ es) i b = rounds_page es i b

pub rounds_zeros : (es : List Record) (i : ℕ) → rounds (es ++ zero_page i ∷ []) ≡ rounds es
unfolding rounds
rounds_zeros [] i = refl
rounds_zeros (round_end n ∷ es) i = ap (λ (k : ℕ). k + 1) (rounds_zeros es i)
rounds_zeros (_ ∷ es) i = rounds_zeros es i

pub rounds_sector : (es : List Record) (dev i : ℕ) (o : Sector) → rounds (es ++ sector dev i o ∷ []) ≡ rounds es
unfolding rounds
rounds_sector [] dev i o = refl
rounds_sector (round_end n ∷ es) dev i o = ap (λ (k : ℕ). k + 1) (rounds_sector es dev i o)
rounds_sector (_ ∷ es) dev i o = rounds_sector es dev i o

pub rounds_round : (es : List Record) (k : ℕ) → rounds (es ++ round_end k ∷ []) ≡ rounds es + 1
unfolding rounds
rounds_round [] k = refl
rounds_round (round_end n ∷ es) k = ap (λ (m : ℕ). m + 1) (rounds_round es k)
rounds_round (_ ∷ es) k = rounds_round es k

pub numbered_round : (k : ℕ) (es : List Record) (n : ℕ) → AreNumbered k es → n ≡ k + rounds es → AreNumbered k (es ++ round_end n ∷ [])
unfolding rounds
numbered_round k [] n h e = (omega (arith, e), tt)
numbered_round k (round_end i ∷ es) n h e = (h.0, numbered_round (k + 1) es n h.1 (omega (arith, e)))
numbered_round k (_ ∷ es) n h e = numbered_round k es n h e

-- A record that names no item.
taken_more : (v : ℕ) (ram : List ℕ) (disks : List (List Sector)) (named : List Bool) (l : Layout) (r : Record) (es : List Record) → ((i : Item) → says_of i r ≡ None) → AreTaken v ram disks named l es → AreTaken v ram disks named l (es ++ r ∷ [])
taken_more v ram disks named l r es none h = record {
  ram_size = h.ram_size;
  named_size = h.named_size;
  marks = λ i has. ap is_some (named-snoc i es r ∙ ap (λ o. or_else o (last_named i es)) (none i)) ∙ h.marks i has;
  last = λ i has. named-snoc i es r ∙ ap (λ o. or_else o (last_named i es)) (none i) ∙ h.last i has;
}

pub taken_round : (v : ℕ) (ram : List ℕ) (disks : List (List Sector)) (named : List Bool) (l : Layout) (k : ℕ) (es : List Record) → AreTaken v ram disks named l es → AreTaken v ram disks named l (es ++ round_end k ∷ [])
taken_round v ram disks named l k es h = taken_more v ram disks named l (round_end k) es (λ i. refl) h

pub taken_device : (v : ℕ) (ram : List ℕ) (disks : List (List Sector)) (named : List Bool) (l : Layout) (n : ℕ) (b : List ℕ) (es : List Record) → AreTaken v ram disks named l es → AreTaken v ram disks named l (es ++ device n b ∷ [])
taken_device v ram disks named l n b es h = taken_more v ram disks named l (device n b) es (λ i. refl) h

pub new_taken : (v : ℕ) (ram : List ℕ) (disks : List (List Sector)) (named : List Bool) (l : Layout) → length ram ≡ 4096 * l.pages → named ≡ replicate (size_of l) false → AreTaken v ram disks named l []
new_taken v ram disks named l e f =
    rw f (record {
      ram_size = e;
      named_size = length-replicate (size_of l) false;
      marks = λ item has. ap is_some (named_nothing item) ∙ sym (get_or-replicate (size_of l) (number_of l item) false false (number_below l item has));
      last = λ item has. named_nothing item ∙ rw (get_or-replicate (size_of l) (number_of l item) false false (number_below l item has)) refl;
    })

pub put_is : (ram b : List ℕ) (i at : ℕ) → at ≡ 4096 * i → length b ≡ 4096 → take at ram ++ b ++ drop (at + length b) ram ≡ put_page ram i b
put_is ram b i at e f = rw (e, f) (append_assoc (take (4096 * i) ram) b (drop (4096 * i + 4096) ram))
