use Rattle.std.proofs.Common.{Bool, true, false, ◌≡◌, ℕ, zero, suc, ◌+◌, ◌-◌, ◌<◌, List, [], ◌∷◌, ◌++◌, length, Err, refl, ap, sym, arith, add-zero, zero-add, ◌∙◌}
use Rattle.std.specs.Prelude.{◌==◌, ◌&&◌, ◌||◌, not, if◌then◌else◌}
use Rattle.chains.specs.declared.descriptor.Descriptor.{Descriptor}
use Rattle.chains.specs.declared.chain.Chain.{Chain}
use Rattle.chains.specs.declared.no_chain.NoChain.{NoChain}
use Rattle.chains.specs.declared.no_chain.NoChain.TheVariants.{Malformed, NoMemory}
use Rattle.chains.specs.declared.position.Position.{Position}
use Rattle.chains.specs.Descriptor.{descriptor_at}
use Rattle.chains.specs.Held.{AreHeld, AddGives}
use Rattle.chains.specs.PackedChain.{entries_from}
use Rattle.chains.proofs.ChainLaws.{length_entries}
use Rattle.packedring.specs.Walk.{EntriesGives}
use Rattle.chains.specs.Publish.{gone_on, positions_from, is_among}

-- One more entry of a table stands at the end.
pub entries_more : (ram : List ℕ) (table index count : ℕ) → entries_from ram table index (count + 1) ≡ entries_from ram table index count ++ descriptor_at true ram table (index + count) ∷ []
entries_more ram table index zero = rw add-zero refl
entries_more ram table index (suc count) =
    let e : suc count + 1 ≡ suc (count + 1) = omega arith in
    let f : index + 1 + count ≡ index + suc count = omega arith in
    let more = entries_more ram table (index + 1) count in
    rw (e, ← f) (ap (λ (ds : List Descriptor). descriptor_at true ram table index ∷ ds) more)

-- The entries from one on are that one and those behind it.
pub entries_next : (ram : List ℕ) (table index count : ℕ) → 0 < count → entries_from ram table index count ≡ descriptor_at true ram table index ∷ entries_from ram table (index + 1) (count - 1)
entries_next ram table index zero some = absurd (omega arith)
entries_next ram table index (suc count) some = let e : suc count - 1 ≡ count = omega arith in rw e refl

-- The first of so many entries, followed by the others.
entries_add : (ram : List ℕ) (table index front back : ℕ) → entries_from ram table index (front + back) ≡ entries_from ram table index front ++ entries_from ram table (index + front) back
entries_add ram table index zero back = rw (zero-add, add-zero) refl
entries_add ram table index (suc front) back =
    let e : suc front + back ≡ suc (front + back) = omega arith in
    let f : index + 1 + front ≡ index + suc front = omega arith in
    rw (e, entries_add ram table (index + 1) front back, f) refl

-- The entries of a table begin with the first so many and the one behind them.
entries_begin : (ram : List ℕ) (table index count : ℕ) → index < count
    → entries_from ram table 0 count ≡ entries_from ram table 0 index ++ descriptor_at true ram table index ∷ entries_from ram table (index + 1) (count - index - 1)
entries_begin ram table index count below =
    let e : count ≡ index + (count - index) = omega arith in
    let f : 0 + index ≡ index = omega arith in
    ap (entries_from ram table 0) e ∙ entries_add ram table 0 index (count - index) ∙ rw (f, entries_next ram table index (count - index) (omega arith)) refl

-- Where the next entry was not added, the entries break a rule, or memory was refused for them.
pub entries_stopped : (base : ℕ) (ram : List ℕ) (table index count len : ℕ) (d : Descriptor) (c new : Chain) (why : NoChain) → index < count → len ≡ length ram → d ≡ descriptor_at true ram table index
    → AreHeld base (length ram) (entries_from ram table 0 index) c → ((ds : List Descriptor) → AreHeld base len ds c → AddGives base len ds d new (Err why)) → EntriesGives base ram table count new (Err why)
entries_stopped base ram table index count len d c new Malformed below len_is is held gives = λ sound.
    let bad = gives (entries_from ram table 0 index) (rw len_is held) in
    (rw (len_is, is) at bad) _ (rw (entries_begin ram table index count below) at sound)
entries_stopped base ram table index count len d c new NoMemory below len_is is held gives =
    let long = gives (entries_from ram table 0 index) (rw len_is held) in
    omega (arith, long, length_entries ram table 0 index)

-- A position is among those of some slots where it is the first of them, or among the others.
pub among_step : (offset : ℕ) (wrap : Bool) (size : ℕ) (p : Position) (count : ℕ) → 0 < count
    → is_among offset wrap (positions_from size p count)
    ≡ ((p.place == offset && (if p.wrap then wrap else not wrap)) || is_among offset wrap (positions_from size (gone_on size p 1) (count - 1)))
among_step offset wrap size p zero some = absurd (omega arith)
among_step offset wrap size p (suc count) some = let e : suc count - 1 ≡ count = omega arith in rw e refl

-- A position that is not the first of them is among the others, or not at all.
pub among_more : (offset : ℕ) (wrap : Bool) (size : ℕ) (p : Position) (count left : ℕ) → count ≡ left + 1
    → (p.place == offset && (if p.wrap then wrap else not wrap)) ≡ false
    → is_among offset wrap (positions_from size (gone_on size p 1) left) ≡ is_among offset wrap (positions_from size p count)
among_more offset wrap size p count left one other =
    let some : 0 < count = omega arith in
    let e : count - 1 ≡ left = omega arith in
    sym (rw (other, e) at (among_step offset wrap size p count some))
