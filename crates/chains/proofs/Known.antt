-- What is known of a RAM by the pieces that are held of it.
use Rattle.std.specs.Prelude.{◌≡◌, ℕ, zero, suc, ◌+◌, ◌-◌, ◌*◌, ◌/◌, ◌%◌, ◌<◌, ◌≤◌, ◌==◌, ◌&&◌, nat_le, nat_lt, List, [], ◌∷◌, length, Bool, true, false, refl, if◌then◌else◌}
use Rattle.std.proofs.Common.{ap, sym, subst, ◌∙◌, arith, get_or}
use Rattle.std.proofs.lemmas.Bool.{le-ltb, lt-leb, lt-ltb, eq-eqb}
use Rattle.guestmem.specs.Address.{index_of}
use Rattle.chains.specs.State.{RingState}
use Rattle.chains.specs.SplitChain.{available_index, waiting}
use Rattle.chains.specs.declared.descriptor.Descriptor.{Descriptor}
use Rattle.chains.specs.declared.lacking.Piece.{Piece}
use Rattle.chains.specs.Descriptor.{decoded, descriptor_at, descriptor_in, words_of}
use Rattle.chains.specs.declared.descriptor.Words.{Words}
use Rattle.chains.specs.Footprint.{AgreeAt, AgreeOn, KnowsPiece, Knows, is_available, packed_pieces, slot_pieces, whole_table, chain_pieces, entry_piece, index_piece, list_pieces, names_table, no_piece, split_pieces, table_pieces}
use Rattle.chains.specs.Lacking.{SlotsKnow, WalkKnows}
use Rattle.chains.specs.declared.lacking.Walked.{Walked}
use Rattle.chains.specs.declared.lacking.Walked.TheVariants.{Lacks, Ends, Breaks}

pub lies_in : (self other : Piece) → self.at ≤ other.at → other.count ≤ self.count → other.at - self.at ≤ self.count - other.count → (a b : List ℕ) → AgreeAt a b self → AgreeAt a b other
lies_in self other above few inside a b h = λ k below.
    let at : self.at + (other.at - self.at + k) ≡ other.at + k = omega (arith, above) in
    rw at at (h (other.at - self.at + k) (omega (arith, above, few, inside, below)))

-- What is held at a place in the list is known.
pub one_held : (held : List Piece) (i : ℕ) (d : Piece) (a b : List ℕ) → i < length held → AgreeOn a b held → AgreeAt a b (get_or held i d)
one_held [] i d a b below h = absurd (omega (arith, below))
one_held (p ∷ held) zero d a b below h = h.0
one_held (p ∷ held) (suc i) d a b below h = one_held held i d a b (omega (arith, below)) h.1

none_there : (c : Bool) (a b : List ℕ) (ps : List Piece) → c ≡ false → AgreeOn a b (if c then ps else [])
none_there true a b ps is = cc
none_there false a b ps is = tt

some_there : (c : Bool) (a b : List ℕ) (ps : List Piece) → AgreeOn a b ps → AgreeOn a b (if c then ps else [])
some_there true a b ps h = h
some_there false a b ps h = tt

either_there : (c : Bool) (a b : List ℕ) (ps qs : List Piece) → (c ≡ true → AgreeOn a b ps) → (c ≡ false → AgreeOn a b qs) → AgreeOn a b (if c then ps else qs)
either_there true a b ps qs f g = f refl
either_there false a b ps qs f g = g refl

-- A walk of a list.
pub known_past : (behind : Descriptor → List Piece) (held : List Piece) (ram : List ℕ) (table entries left index : ℕ) → entries ≤ index → Knows held ram (list_pieces behind ram table entries left index)
known_past behind held ram table entries zero index past b h = tt
known_past behind held ram table entries (suc left) index past b h =
    let d = descriptor_at false ram table index in
    none_there (nat_lt index entries) ram b (entry_piece table index ∷ (if d.has_next then list_pieces behind ram table entries left d.next else behind d)) (le-ltb index entries past)

pub known_end : (behind : Descriptor → List Piece) (held : List Piece) (ram : List ℕ) (table entries left index : ℕ) (last : Descriptor) → last ≡ descriptor_at false ram table index → KnowsPiece held (entry_piece table index) → last.has_next ≡ false
    → Knows held ram (behind last) → Knows held ram (list_pieces behind ram table entries left index)
known_end behind held ram table entries zero index last is here ends rest b h = tt
known_end behind held ram table entries (suc left) index last is here ends rest b h =
    let d = descriptor_at false ram table index in
    let next : d.has_next ≡ false = ap (λ (x : Descriptor). x.has_next) (sym is) ∙ ends in
    let behind_it : AgreeOn ram b (behind d) = subst (λ (x : Descriptor). AgreeOn ram b (behind x)) is (rest b h) in
    some_there (nat_lt index entries) ram b (entry_piece table index ∷ (if d.has_next then list_pieces behind ram table entries left d.next else behind d))
    (here ram b h, either_there d.has_next ram b (list_pieces behind ram table entries left d.next) (behind d) (λ goes. let bad : true ≡ false = sym goes ∙ next in cc) (λ stops. behind_it))

pub known_more : (behind : Descriptor → List Piece) (held : List Piece) (ram : List ℕ) (table entries left less index : ℕ) (d : Descriptor) → less ≡ left - 1 → d ≡ descriptor_at false ram table index → KnowsPiece held (entry_piece table index) → d.has_next ≡ true
    → Knows held ram (list_pieces behind ram table entries less d.next) → Knows held ram (list_pieces behind ram table entries left index)
known_more behind held ram table entries zero less index d is same here goes rest b h = tt
known_more behind held ram table entries (suc left) less index e is same here goes rest b h =
    let d = descriptor_at false ram table index in
    let fewer : less ≡ left = omega (arith, is) in
    let known : AgreeOn ram b (list_pieces behind ram table entries left e.next) = subst (λ (n : ℕ). AgreeOn ram b (list_pieces behind ram table entries n e.next)) fewer (rest b h) in
    let there : AgreeOn ram b (list_pieces behind ram table entries left d.next) = subst (λ (x : Descriptor). AgreeOn ram b (list_pieces behind ram table entries left x.next)) same known in
    let next : d.has_next ≡ true = ap (λ (x : Descriptor). x.has_next) (sym same) ∙ goes in
    some_there (nat_lt index entries) ram b (entry_piece table index ∷ (if d.has_next then list_pieces behind ram table entries left d.next else behind d))
    (here ram b h, either_there d.has_next ram b (list_pieces behind ram table entries left d.next) (behind d) (λ on. there) (λ stops. let bad : true ≡ false = sym next ∙ stops in cc))

pub known_none : (behind : Descriptor → List Piece) (held : List Piece) (ram : List ℕ) (table entries left index : ℕ) → left ≡ 0 → Knows held ram (list_pieces behind ram table entries left index)
known_none behind held ram table entries zero index is b h = tt
known_none behind held ram table entries (suc left) index is b h = absurd (omega (arith, is))

-- A walk that goes on, whatever it comes to.
pub walk_more : (held : List Piece) (ram : List ℕ) (table entries left less index : ℕ) (d : Descriptor) (w : Walked) → less ≡ left - 1 → d ≡ descriptor_at false ram table index → KnowsPiece held (entry_piece table index) → d.has_next ≡ true
    → WalkKnows held ram table entries less d.next w → WalkKnows held ram table entries left index w
walk_more held ram table entries left less index d (Lacks piece) is same here goes rest = rest
walk_more held ram table entries left less index d (Ends last) is same here goes rest = λ behind known. known_more behind held ram table entries left less index d is same here goes (rest behind known)
walk_more held ram table entries left less index d Breaks is same here goes rest = λ behind. known_more behind held ram table entries left less index d is same here goes (rest behind)

pub read_is : (ram : List ℕ) (table index : ℕ) (words : Words) (d : Descriptor) → words ≡ words_of ram (table + 16 * index) → d ≡ decoded false words → d ≡ descriptor_at false ram table index
unfolding descriptor_at descriptor_in
read_is ram table index words d same is = is ∙ ap (λ (w : Words). decoded false w) same

-- A look at a split queue.
pub known_empty : (held : List Piece) (ram : List ℕ) (q : RingState) → KnowsPiece held (index_piece q) → available_index ram q ≡ q.taking.place → Knows held ram (split_pieces ram q)
known_empty held ram q here empty b h =
    (here ram b h, either_there (available_index ram q == q.taking.place) ram b [] (if nat_lt q.size (waiting ram q) then [] else chain_pieces ram q) (λ is. tt) (λ not. let bad = eq-eqb (available_index ram q) q.taking.place empty in cc))

pub known_many : (held : List Piece) (ram : List ℕ) (q : RingState) → KnowsPiece held (index_piece q) → q.size < waiting ram q → Knows held ram (split_pieces ram q)
known_many held ram q here many b h =
    let inner = if nat_lt q.size (waiting ram q) then [] else chain_pieces ram q in (
      here ram b h,
      either_there (available_index ram q == q.taking.place) ram b [] inner (λ is. tt)
          (λ not. either_there (nat_lt q.size (waiting ram q)) ram b [] (chain_pieces ram q) (λ is. tt) (λ few. let bad = lt-ltb q.size (waiting ram q) many in cc)),
    )

pub known_chain : (held : List Piece) (ram : List ℕ) (q : RingState) → KnowsPiece held (index_piece q) → Knows held ram (chain_pieces ram q) → Knows held ram (split_pieces ram q)
known_chain held ram q here rest b h =
    let inner = if nat_lt q.size (waiting ram q) then [] else chain_pieces ram q in (
      here ram b h,
      either_there (available_index ram q == q.taking.place) ram b [] inner (λ is. tt)
          (λ not. either_there (nat_lt q.size (waiting ram q)) ram b [] (chain_pieces ram q) (λ is. tt) (λ few. rest b h)),
    )

-- The table that the last descriptor names, or none.
pub no_table : (held : List Piece) (ram : List ℕ) (q : RingState) (d : Descriptor) → (names_table q.base (length ram) q.has_indirect d ≡ true → ⊥) → Knows held ram (table_pieces ram q d)
no_table held ram q d none b h =
    either_there (names_table q.base (length ram) q.has_indirect d) ram b (list_pieces no_piece ram (index_of q.base d.addr) (d.len / 16) q.size 0) [] (λ is. absurd (none is)) (λ not. tt)

pub some_table : (held : List Piece) (ram : List ℕ) (q : RingState) (d : Descriptor) → Knows held ram (list_pieces no_piece ram (index_of q.base d.addr) (d.len / 16) q.size 0) → Knows held ram (table_pieces ram q d)
some_table held ram q d known b h = some_there (names_table q.base (length ram) q.has_indirect d) ram b (list_pieces no_piece ram (index_of q.base d.addr) (d.len / 16) q.size 0) (known b h)

and_no : (x y : Bool) → y ≡ false → (x && y) ≡ false
and_no true y is = is
and_no false y is = refl

-- A walk of consecutive slots.
pub slots_end : (behind : Descriptor → List Piece) (held : List Piece) (ram : List ℕ) (table size left slot : ℕ) (last : Descriptor) → last ≡ descriptor_at true ram table slot → KnowsPiece held (entry_piece table slot) → last.has_next ≡ false
    → Knows held ram (behind last) → Knows held ram (slot_pieces behind ram table size left slot)
slots_end behind held ram table size zero slot last is here ends rest b h = tt
slots_end behind held ram table size (suc left) slot last is here ends rest b h =
    let d = descriptor_at true ram table slot in
    let next : d.has_next ≡ false = ap (λ (x : Descriptor). x.has_next) (sym is) ∙ ends in
    let behind_it : AgreeOn ram b (behind d) = subst (λ (x : Descriptor). AgreeOn ram b (behind x)) is (rest b h) in
    (here ram b h, either_there d.has_next ram b (slot_pieces behind ram table size left ((slot + 1) % size)) (behind d) (λ goes. let bad : true ≡ false = sym goes ∙ next in cc) (λ stops. behind_it))

pub slots_more : (behind : Descriptor → List Piece) (held : List Piece) (ram : List ℕ) (table size left less slot : ℕ) (d : Descriptor) → less ≡ left - 1 → d ≡ descriptor_at true ram table slot → KnowsPiece held (entry_piece table slot) → d.has_next ≡ true
    → Knows held ram (slot_pieces behind ram table size less ((slot + 1) % size)) → Knows held ram (slot_pieces behind ram table size left slot)
slots_more behind held ram table size zero less slot d is same here goes rest b h = tt
slots_more behind held ram table size (suc left) less slot e is same here goes rest b h =
    let d = descriptor_at true ram table slot in
    let fewer : less ≡ left = omega (arith, is) in
    let known : AgreeOn ram b (slot_pieces behind ram table size left ((slot + 1) % size)) = subst (λ (n : ℕ). AgreeOn ram b (slot_pieces behind ram table size n ((slot + 1) % size))) fewer (rest b h) in
    let next : d.has_next ≡ true = ap (λ (x : Descriptor). x.has_next) (sym same) ∙ goes in
    (here ram b h, either_there d.has_next ram b (slot_pieces behind ram table size left ((slot + 1) % size)) (behind d) (λ on. known) (λ stops. let bad : true ≡ false = sym next ∙ stops in cc))

pub slots_none : (behind : Descriptor → List Piece) (held : List Piece) (ram : List ℕ) (table size left slot : ℕ) → left ≡ 0 → Knows held ram (slot_pieces behind ram table size left slot)
slots_none behind held ram table size zero slot is b h = tt
slots_none behind held ram table size (suc left) slot is b h = absurd (omega (arith, is))

pub slots_walk : (held : List Piece) (ram : List ℕ) (table size left less slot : ℕ) (d : Descriptor) (w : Walked) → less ≡ left - 1 → d ≡ descriptor_at true ram table slot → KnowsPiece held (entry_piece table slot) → d.has_next ≡ true
    → SlotsKnow held ram table size less ((slot + 1) % size) w → SlotsKnow held ram table size left slot w
slots_walk held ram table size left less slot d (Lacks piece) is same here goes rest = rest
slots_walk held ram table size left less slot d (Ends last) is same here goes rest = λ behind known. slots_more behind held ram table size left less slot d is same here goes (rest behind known)
slots_walk held ram table size left less slot d Breaks is same here goes rest = λ behind. slots_more behind held ram table size left less slot d is same here goes (rest behind)

pub read_packed : (ram : List ℕ) (table slot : ℕ) (words : Words) (d : Descriptor) → words ≡ words_of ram (table + 16 * slot) → d ≡ decoded true words → d ≡ descriptor_at true ram table slot
unfolding descriptor_at descriptor_in
read_packed ram table slot words d same is = is ∙ ap (λ (w : Words). decoded true w) same

-- A look at a packed queue.
pub known_waiting : (held : List Piece) (ram : List ℕ) (q : RingState) (d : Descriptor) → d ≡ descriptor_at true ram q.descriptors q.taking.place → KnowsPiece held (entry_piece q.descriptors q.taking.place)
    → is_available q.taking.wrap d.avail_flag d.used_flag ≡ false → Knows held ram (packed_pieces ram q)
known_waiting held ram q e is here waits b h =
    let d = descriptor_at true ram q.descriptors q.taking.place in
    let slots = slot_pieces (whole_table ram q) ram q.descriptors q.size q.size q.taking.place in
    let off : is_available q.taking.wrap d.avail_flag d.used_flag ≡ false = subst (λ (x : Descriptor). is_available q.taking.wrap x.avail_flag x.used_flag ≡ false) is waits in
    (here ram b h, none_there (is_available q.taking.wrap d.avail_flag d.used_flag) ram b slots off)

pub known_slots : (held : List Piece) (ram : List ℕ) (q : RingState) → KnowsPiece held (entry_piece q.descriptors q.taking.place)
    → Knows held ram (slot_pieces (whole_table ram q) ram q.descriptors q.size q.size q.taking.place) → Knows held ram (packed_pieces ram q)
known_slots held ram q here rest b h =
    let d = descriptor_at true ram q.descriptors q.taking.place in
    (here ram b h, some_there (is_available q.taking.wrap d.avail_flag d.used_flag) ram b (slot_pieces (whole_table ram q) ram q.descriptors q.size q.size q.taking.place) (rest b h))

pub known_entries : (held : List Piece) (ram : List ℕ) (q : RingState) (d : Descriptor) → KnowsPiece held (record { at = index_of q.base d.addr; count = 16 * (d.len / 16) }) → Knows held ram (whole_table ram q d)
known_entries held ram q d here b h =
    let piece : Piece = record { at = index_of q.base d.addr; count = 16 * (d.len / 16) } in
    some_there (names_table q.base (length ram) q.has_indirect d && nat_le (d.len / 16) q.size) ram b (piece ∷ []) (here ram b h, tt)

pub many_entries : (held : List Piece) (ram : List ℕ) (q : RingState) (d : Descriptor) → q.size < d.len / 16 → Knows held ram (whole_table ram q d)
many_entries held ram q d many b h =
    let piece : Piece = record { at = index_of q.base d.addr; count = 16 * (d.len / 16) } in
    let no : nat_le (d.len / 16) q.size ≡ false = lt-leb (d.len / 16) q.size many in
    none_there (names_table q.base (length ram) q.has_indirect d && nat_le (d.len / 16) q.size) ram b (piece ∷ []) (and_no (names_table q.base (length ram) q.has_indirect d) (nat_le (d.len / 16) q.size) no)

-- An empty piece is known.
pub none_known : (held : List Piece) (piece : Piece) → piece.count ≡ 0 → KnowsPiece held piece
none_known held piece none = λ a b h k below. absurd (omega (arith, none, below))
