use Rattle.std.proofs.Common.{Bool, true, false, ◌≡◌, ℕ, ◌+◌, ◌-◌, ◌/◌, ◌<◌, ◌≤◌, List, [], ◌∷◌, ◌++◌, length, Result, Ok, Err, refl, ap, sym, ◌∙◌, inl, inr, arith, length-append}
use Rattle.std.proofs.lemmas.Bool.{MatchBool-at_true}
use Rattle.std.proofs.lemmas.List.{same_from_push, get_or_at}
use Rattle.std.proofs.lemmas.List.Elements.{All-push}
use Rattle.chains.proofs.CaseLaws.{where_true}
use Rattle.guestmem.specs.Address.{index_of}
use Rattle.chains.specs.declared.descriptor.Descriptor.{Descriptor}
use Rattle.chains.specs.declared.chain.Chain.{Chain}
use Rattle.chains.specs.declared.no_chain.NoChain.{NoChain}
use Rattle.chains.specs.declared.no_chain.NoChain.TheVariants.{Malformed, NoMemory}
use Rattle.chains.specs.State.{RingState}
use Rattle.chains.specs.Whole.{ArePlain, IsTable, IsWhole}
use Rattle.chains.specs.Gives.{ChainGives}
use Rattle.chains.specs.SplitChain.{IsReplaced, IsFromTable, waiting, head}
use Rattle.chains.proofs.SplitLaws.{linked_same, linked_some, replaced_same}
use Rattle.chains.specs.Held.{AreSound, AreHeld, EndGives}
use Rattle.splitring.specs.declared.walk.Table.{Table}
use Rattle.splitring.specs.Walk.{AreGathered, AreBeforeTable, IsMadeOf, WalkGives, FollowGives}
use Rattle.splitring.proofs.Spelled.{spelled_replaced, spelled_plain}

-- The table of a queue.
abbrev own_table : RingState → Table
own_table q = record { at = q.descriptors; entries = q.size; is_own = true }

-- A chain that takes one slot, with this id and the segments of another.
abbrev chain_of : ℕ → Chain → Chain
chain_of id c = record c { id = id; slots = 1 }

made_of : (base : ℕ) (ram : List ℕ) (size : ℕ) (all : List Descriptor) (c : Chain) → AreHeld base (length ram) all c → length all ≤ size → EndGives c (Ok tt) → IsMadeOf base ram size all c
made_of base ram size all c h few small = record {
  whole = record { few = few; inside = h.sound.inside; in_order = h.sound.in_order; total = omega (arith, h.total) };
  readable = h.readable;
  writable = h.writable;
}

sound_whole : (base : ℕ) (ram : List ℕ) (size : ℕ) (all : List Descriptor) → IsWhole base ram size all → AreSound base (length ram) all
sound_whole base ram size all w = record { inside = w.inside; in_order = w.in_order }

too_large : (base : ℕ) (ram : List ℕ) (size : ℕ) (all : List Descriptor) (c : Chain) → AreHeld base (length ram) all c → EndGives c (Err Malformed) → IsWhole base ram size all → ⊥
too_large base ram size all c h large w = omega (arith, h.total, w.total)

-- A list of which none is indirect stands for itself.
itself : (base : ℕ) (ram : List ℕ) (has_indirect : Bool) (front : List Descriptor) (last : Descriptor) → ArePlain front → last.is_indirect ≡ false → IsReplaced base ram has_indirect (front ++ last ∷ []) (front ++ last ∷ [])
itself base ram has_indirect front last plain last_plain = record {
  front = front;
  last = last;
  parts = refl;
  plain = plain;
  whole = rw last_plain refl;
}

-- The list of a table, all of whose descriptors are gathered.
pub followed_end : (base : ℕ) (ram : List ℕ) (has_indirect : Bool) (size room : ℕ) (front : List Descriptor) (last : Descriptor) (c : Chain) (gives : Result (Unit {0}) NoChain) → has_indirect ≡ true → IsTable base ram last
    → length front + room ≡ size → AreGathered base ram (index_of base last.addr) (last.len / 16) 0 room front c → EndGives c gives → FollowGives base ram has_indirect size front last c gives
followed_end base ram has_indirect size room front last c (Ok done) feature table left g end =
    let inner = g.front ++ g.last ∷ [] in
    let few : length (front ++ inner) ≤ size = omega (arith, length-append front inner, length-append g.front (g.last ∷ []), g.few) in
    record {
      all = front ++ inner;
      feature = feature;
      from_table = record { table = table; inner = inner; linked = g.linked; plain = All-push (λ (d : Descriptor). d.is_indirect ≡ false) g.front g.last g.plain g.last_plain; parts = refl };
      made = made_of base ram size (front ++ inner) c g.held few end;
    }
followed_end base ram has_indirect size room front last c (Err Malformed) feature table left g end = λ all p t whole.
    let inner = g.front ++ g.last ∷ [] in
    let same : t.inner ≡ inner = linked_same ram (index_of base last.addr) (last.len / 16) 0 t.inner inner t.linked g.linked in
    let is : all ≡ front ++ inner = t.parts ∙ ap (λ (ds : List Descriptor). front ++ ds) same in
    too_large base ram size (front ++ inner) c g.held end (rw is at whole)
followed_end base ram has_indirect size room front last c (Err NoMemory) feature table left g end = absurd end

-- Where an entry of the table names a table, there is no chain.
pub none_in_table : (base : ℕ) (ram : List ℕ) (has_indirect : Bool) (size room : ℕ) (front : List Descriptor) (last named : Descriptor) (c new : Chain)
    → AreBeforeTable base ram (index_of base last.addr) (last.len / 16) 0 room front named c → FollowGives base ram has_indirect size front last new (Err Malformed)
none_in_table base ram has_indirect size room front last named c new b all p t whole =
    let same : t.inner ≡ b.front ++ named ∷ [] = linked_same ram (index_of base last.addr) (last.len / 16) 0 t.inner (b.front ++ named ∷ []) t.linked b.linked in
    let plain : ArePlain (b.front ++ named ∷ []) = rw same at t.plain in
    let below : length b.front < length (b.front ++ named ∷ []) = omega (arith, length-append b.front (named ∷ [])) in
    let here : named.is_indirect ≡ false = rw (get_or_at b.front named [] named (length b.front) refl) at (plain (length b.front) named below) in
    let named' = b.named in
    absurd (cc)

-- A table that an indirect descriptor names.
abbrev named_table : ℕ → Descriptor → Table
named_table base d = record { at = index_of base d.addr; entries = d.len / 16; is_own = false }

-- Nor where its list breaks a rule, or memory was refused for it.
pub followed_none : (base : ℕ) (ram : List ℕ) (has_indirect : Bool) (size : ℕ) (front : List Descriptor) (last named : Descriptor) (c new : Chain) (why : NoChain) → has_indirect ≡ true → IsTable base ram last
    → WalkGives base ram (named_table base last) 0 size front c named (Err why) → FollowGives base ram has_indirect size front last new (Err why)
followed_none base ram has_indirect size front last named c new Malformed feature table none = λ all p t whole.
    let some : 1 ≤ length t.inner = linked_some ram (index_of base last.addr) (last.len / 16) 0 t.inner t.linked in
    let few : length t.inner ≤ size - length front = omega (arith, ap length t.parts, length-append front t.inner, whole.few) in
    let sound : AreSound base (length ram) all = sound_whole base ram size all whole in
    none t.inner t.inner t.linked (spelled_plain t.inner some t.plain) few (rw t.parts at sound)
followed_none base ram has_indirect size front last named c new NoMemory feature table long = record { feature = feature; table = table; behind = long }

-- The list of a queue, none of which is indirect, all of whose descriptors are gathered.
pub found_end : (ram : List ℕ) (q : RingState) (first : ℕ) (c : Chain) (gives : Result (Unit {0}) NoChain) → q.is_packed ≡ false → waiting ram q ≤ q.size → first ≡ head ram q
    → AreGathered q.base ram q.descriptors q.size first (q.size - 0) [] c → EndGives c gives → ChainGives ram q (chain_of first c) gives
found_end ram q first c (Ok done) split available is g end =
    let few : length (g.front ++ g.last ∷ []) ≤ q.size = omega (arith, length-append g.front (g.last ∷ []), g.few) in
    rw split (record {
      direct = g.front ++ g.last ∷ [];
      all = g.front ++ g.last ∷ [];
      available = available;
      linked = rw is at g.linked;
      replaced = itself q.base ram q.has_indirect g.front g.last g.plain g.last_plain;
      whole = (made_of q.base ram q.size (g.front ++ g.last ∷ []) c g.held few end).whole;
      is = rw (is, g.held.readable, g.held.writable) refl;
    })
found_end ram q first c (Err Malformed) split available is g end = λ d. rw split (λ s.
    let list = g.front ++ g.last ∷ [] in
    let same : s.direct ≡ list = linked_same ram q.descriptors q.size (head ram q) s.direct list s.linked (rw is at g.linked) in
    let also : s.all ≡ list = replaced_same q.base ram q.has_indirect list s.all list (rw same at s.replaced) (itself q.base ram q.has_indirect g.front g.last g.plain g.last_plain) in
    too_large q.base ram q.size list c g.held end (rw also at s.whole))
found_end ram q first c (Err NoMemory) split available is g end = absurd end

-- What it gives to go on in a table is what a search gives.
pub found_table : (ram : List ℕ) (q : RingState) (first : ℕ) (last : Descriptor) (c new : Chain) (gives : Result (Unit {0}) NoChain) → q.is_packed ≡ false → waiting ram q ≤ q.size → first ≡ head ram q
    → (b : AreBeforeTable q.base ram q.descriptors q.size first (q.size - 0) [] last c) → FollowGives q.base ram q.has_indirect q.size b.front last new gives → ChainGives ram q (chain_of first new) gives
found_table ram q first last c new (Ok done) split available is b f = rw split (record {
  direct = b.front ++ last ∷ [];
  all = f.all;
  available = available;
  linked = rw is at b.linked;
  replaced = record {
    front = b.front;
    last = last;
    parts = refl;
    plain = b.plain;
    whole = where_true last.is_indirect ((q.has_indirect ≡ true) × IsFromTable q.base ram b.front last f.all) (f.all ≡ b.front ++ last ∷ []) b.named (f.feature, f.from_table);
  };
  whole = f.made.whole;
  is = rw (is, f.made.readable, f.made.writable) refl;
})
found_table ram q first last c new (Err Malformed) split available is b f = λ d. rw split (λ s.
    let same : s.direct ≡ b.front ++ last ∷ [] = linked_same ram q.descriptors q.size (head ram q) s.direct (b.front ++ last ∷ []) s.linked (rw is at b.linked) in
    let r = s.replaced in
    let parts = same_from_push r.front b.front r.last last (sym r.parts ∙ same) in
    let whole_is = rw (parts.1, parts.0) at r.whole in
    let t = MatchBool-at_true ((q.has_indirect ≡ true) × IsFromTable q.base ram b.front last s.all) (s.all ≡ s.direct) b.named whole_is in
    f s.all t.0 t.1 s.whole)
found_table ram q first last c new (Err NoMemory) split available is b f =
    let size = length-append b.front f.behind.row in
    rw split (record {
      available = available;
      has = record {
        row = b.front ++ f.behind.row;
        is_row = inr (record {
          front = b.front;
          last = last;
          inner = f.behind.row;
          linked = rw is at b.linked;
          plain = b.plain;
          feature = f.feature;
          named = b.named;
          table = f.table;
          in_row = f.behind.in_row;
          parts = refl;
        });
        long = omega (arith, size, f.behind.long);
        few = omega (arith, size, f.behind.few, b.few);
      };
    })

-- Where the list breaks a rule, there is no chain; where memory was refused for it, a row is long.
pub found_none : (ram : List ℕ) (q : RingState) (first : ℕ) (c new : Chain) (last : Descriptor) (why : NoChain) → q.is_packed ≡ false → waiting ram q ≤ q.size → first ≡ head ram q
    → WalkGives q.base ram (own_table q) first q.size [] c last (Err why) → ChainGives ram q new (Err why)
found_none ram q first c new last Malformed split available is none = λ d. rw split (λ s.
    none s.direct s.all (rw is s.linked) (spelled_replaced q.base ram q.has_indirect s.direct s.all s.replaced) (omega (arith, s.whole.few)) (sound_whole q.base ram q.size s.all s.whole))
found_none ram q first c new last NoMemory split available is b =
    rw split (record { available = available; has = record { row = b.row; is_row = inl (rw is at b.in_row); long = omega (arith, b.long); few = omega (arith, b.few) } })
