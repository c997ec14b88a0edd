use Rattle.std.proofs.Common.{Bool, true, false, ◌≡◌, ℕ, suc, ◌+◌, ◌/◌, ◌%◌, ◌<◌, ◌≤◌, List, [], ◌∷◌, ◌++◌, length, Result, Ok, Err, refl, ap, sym, ◌∙◌, inl, inr, arith, length-append}
use Rattle.std.proofs.lemmas.List.Elements.{All-push, All-nil}
use Rattle.std.specs.Bool.{MatchBool}
use Rattle.guestmem.specs.Address.{index_of}
use Rattle.chains.proofs.CaseLaws.{where_true}
use Rattle.chains.specs.declared.descriptor.Descriptor.{Descriptor}
use Rattle.chains.specs.declared.chain.Chain.{Chain}
use Rattle.chains.specs.declared.no_chain.NoChain.{NoChain}
use Rattle.chains.specs.declared.no_chain.NoChain.TheVariants.{Malformed, NoMemory}
use Rattle.chains.specs.declared.ring_core.RingCore.{RingCore}
use Rattle.chains.specs.RingCore.{core_state}
use Rattle.chains.specs.State.{RingState}
use Rattle.chains.specs.Descriptor.{descriptor_at}
use Rattle.chains.specs.Whole.{IsTable, ArePlain, IsWhole}
use Rattle.chains.specs.PackedChain.{AreConsecutive, IsPackedTable, IsPackedList, IsPackedChain, entries_from}
use Rattle.chains.proofs.PackedLaws.{packed_list_same}
use Rattle.chains.proofs.ChainLaws.{length_entries}
use Rattle.chains.specs.Gives.{ChainGives}
use Rattle.chains.specs.Held.{AreSound, AreHeld, AddGives, EndGives}
use Rattle.packedring.specs.Walk.{EntriesGives}
use Rattle.chains.proofs.HeldLaws.{held_none}
use Rattle.packedring.proofs.Leading.{Leads, leads_start, leads_more, consecutive_first, consecutive_begins}

-- A packed ring, by its core.
abbrev ring : RingCore → RingState
ring core = core_state true core

-- The descriptor at the taking position.
abbrev first_of : List ℕ → RingState → Descriptor
first_of ram q = descriptor_at true ram q.descriptors q.taking.place

-- A chain with the segments of another one.
abbrev pub chain_of : ℕ → ℕ → Chain → Chain
chain_of id slots c = record { id = id; slots = slots; readable = c.readable; writable = c.writable }

-- There is no chain at the taking position.
abbrev pub IsNoChain : List ℕ → RingState → Type 0
IsNoChain ram q = (c : Chain) → ¬ (IsPackedChain ram q c)

alone_is : (ram : List ℕ) (table size slot : ℕ) (front : List Descriptor) (last : Descriptor) → front ≡ [] → AreConsecutive ram table size slot (front ++ last ∷ []) → last ≡ descriptor_at true ram table slot
alone_is ram table size slot [] last e h = consecutive_first ram table size slot last [] h
alone_is ram table size slot (d ∷ ds) last e h = absurd (omega (arith, ap length e))

last_plain_by : (ram : List ℕ) (q : RingState) (front : List Descriptor) (last : Descriptor) (all : List Descriptor) (named : Bool)
    → named ≡ last.is_indirect → MatchBool named ((q.has_indirect ≡ true) × IsPackedTable q.base ram front last all) (all ≡ front ++ last ∷ [])
    → AreConsecutive ram q.descriptors q.size q.taking.place (front ++ last ∷ []) → (first_of ram q).is_indirect ≡ false → (named ≡ false) × (all ≡ front ++ last ∷ [])
last_plain_by ram q front last all true is (p, t) h plain =
    let e : last ≡ first_of ram q = alone_is ram q.descriptors q.size q.taking.place front last t.alone h in
    let bad : true ≡ false = is ∙ ap (λ (d : Descriptor). d.is_indirect) e ∙ plain in
    absurd (cc)
last_plain_by ram q front last all false is t h plain = (refl, t)

-- Where the first slot names no table, no slot does.
last_plain : (ram : List ℕ) (q : RingState) (front : List Descriptor) (last : Descriptor) (all : List Descriptor) → (first_of ram q).is_indirect ≡ false → IsPackedList ram q front last all
    → (last.is_indirect ≡ false) × (all ≡ front ++ last ∷ [])
last_plain ram q front last all plain l = last_plain_by ram q front last all last.is_indirect refl l.replaced l.consecutive plain

plain_at : (ram : List ℕ) (table size next : ℕ) (front rest : List Descriptor) → AreConsecutive ram table size next rest → ArePlain (front ++ rest) → (descriptor_at true ram table next).is_indirect ≡ false
plain_at ram table size next [] [] h plain = absurd h
plain_at ram table size next [] (d ∷ ds) h plain = rw (← consecutive_first ram table size next d ds h) (plain 0 d (omega arith))
plain_at ram table size next (x ∷ xs) rest h plain = plain_at ram table size next xs rest h (λ k d below. plain (suc k) d (omega arith))

-- The first so many descriptors from the taking position are walked: they go on from a slot, and a chain holds them.
pub record IsWalked (ram : List ℕ) (q : RingState) (c : Chain) (count next : ℕ) : Type 0 where
  pub walked : List Descriptor
  pub count_is : length walked ≡ count
  pub leads : Leads ram q.descriptors q.size q.taking.place walked next
  pub plain : ArePlain walked
  pub held : AreHeld q.base (length ram) walked c

-- None yet.
pub walked_none : (ram : List ℕ) (q : RingState) (c : Chain) → c.readable ≡ [] → c.writable ≡ [] → IsWalked ram q c 0 q.taking.place
walked_none ram q c readable writable = record {
  walked = [];
  count_is = refl;
  leads = leads_start ram q.descriptors q.size q.taking.place;
  plain = All-nil (λ (d : Descriptor). d.is_indirect ≡ false);
  held = held_none q.base (length ram) c readable writable;
}

-- They are walked up to `d`, which is at the slot `here`, and the chain holds it too.
pub record IsReached (ram : List ℕ) (q : RingState) (c : Chain) (count here : ℕ) (d : Descriptor) : Type 0 where
  pub front : List Descriptor
  pub count_is : length front + 1 ≡ count
  pub leads : Leads ram q.descriptors q.size q.taking.place front here
  pub front_plain : ArePlain front
  pub is : d ≡ descriptor_at true ram q.descriptors here
  pub plain : d.is_indirect ≡ false
  pub held : AreHeld q.base (length ram) (front ++ d ∷ []) c

-- One more, that was added.
pub reached : (ram : List ℕ) (q : RingState) (c new : Chain) (count next len : ℕ) (d : Descriptor) → IsWalked ram q c count next → d ≡ descriptor_at true ram q.descriptors next → d.is_indirect ≡ false
    → len ≡ length ram → ((ds : List Descriptor) → AreHeld q.base len ds c → AddGives q.base len ds d new (Ok tt)) → IsReached ram q new (count + 1) next d
reached ram q c new count next len d w is plain len_is gives = record {
  front = w.walked;
  count_is = omega (arith, w.count_is);
  leads = w.leads;
  front_plain = w.plain;
  is = is;
  plain = plain;
  held = rw len_is at (gives w.walked (rw len_is w.held));
}

-- One that has a next one leads to it.
pub passed : (ram : List ℕ) (q : RingState) (c : Chain) (count here : ℕ) (d : Descriptor) → IsReached ram q c count here d → d.has_next ≡ true → IsWalked ram q c count ((here + 1) % q.size)
passed ram q c count here d r more = record {
  walked = r.front ++ d ∷ [];
  count_is = omega (arith, length-append r.front (d ∷ []), r.count_is);
  leads = leads_more ram q.descriptors q.size q.taking.place here r.front d r.leads r.is more;
  plain = All-push (λ (x : Descriptor). x.is_indirect ≡ false) r.front d r.front_plain r.plain;
  held = r.held;
}

-- Where a later slot names a table, there is no chain.
pub walked_named : (ram : List ℕ) (q : RingState) (c : Chain) (count next : ℕ) (first d : Descriptor) → first ≡ first_of ram q → first.is_indirect ≡ false → IsWalked ram q c count next
    → d ≡ descriptor_at true ram q.descriptors next → d.is_indirect ≡ true → IsNoChain ram q
walked_named ram q c count next first d is plain w here named e s =
    let p : (first_of ram q).is_indirect ≡ false = rw (← is) plain in
    let whole = last_plain ram q s.front s.last s.all p s.list in
    let a = w.leads.only (s.front ++ s.last ∷ []) s.list.consecutive in
    let none : ArePlain (s.front ++ s.last ∷ []) = All-push (λ (x : Descriptor). x.is_indirect ≡ false) s.front s.last s.list.plain whole.0 in
    let bad : (descriptor_at true ram q.descriptors next).is_indirect ≡ false = plain_at ram q.descriptors q.size next w.walked a.0 a.2 (rw a.1 at none) in
    let here' : true ≡ false = sym named ∙ ap (λ (x : Descriptor). x.is_indirect) here ∙ bad in
    absurd (cc)

-- Nor where there are more of them than slots.
pub walked_full : (ram : List ℕ) (q : RingState) (c : Chain) (count next : ℕ) (first : Descriptor) → first ≡ first_of ram q → first.is_indirect ≡ false → IsWalked ram q c count next
    → q.size ≤ count → IsNoChain ram q
walked_full ram q c count next first is plain w full e s =
    let p : (first_of ram q).is_indirect ≡ false = rw (← is) plain in
    let whole = last_plain ram q s.front s.last s.all p s.list in
    let a = w.leads.only (s.front ++ s.last ∷ []) s.list.consecutive in
    let b = consecutive_begins ram q.descriptors q.size next (descriptor_at true ram q.descriptors next) refl a.0 a.2 in
    omega (arith, ap length whole.1, ap length a.1, length-append w.walked a.0, ap length b.1, w.count_is, s.whole.few)

-- One that was not added: it breaks a rule, or memory was refused for it.
pub walked_stopped : (ram : List ℕ) (core : RingCore) (c new : Chain) (count next len : ℕ) (first d : Descriptor) (why : NoChain) → first ≡ first_of ram (ring core) → first.is_indirect ≡ false
    → IsWalked ram (ring core) c count next → d ≡ descriptor_at true ram core.descriptors next → count < core.size → len ≡ length ram
    → ((ds : List Descriptor) → AreHeld core.base len ds c → AddGives core.base len ds d new (Err why)) → ChainGives ram (ring core) new (Err why)
walked_stopped ram core c new count next len first d Malformed is plain w here some len_is gives = λ e s.
    let p : (first_of ram (ring core)).is_indirect ≡ false = rw (← is) plain in
    let whole = last_plain ram (ring core) s.front s.last s.all p s.list in
    let a = w.leads.only (s.front ++ s.last ∷ []) s.list.consecutive in
    let b = consecutive_begins ram core.descriptors core.size next d here a.0 a.2 in
    let parts : s.all ≡ w.walked ++ d ∷ b.0 = whole.1 ∙ a.1 ∙ ap (λ (ys : List Descriptor). w.walked ++ ys) b.1 in
    let sound : AreSound core.base (length ram) s.all = record { inside = s.whole.inside; in_order = s.whole.in_order } in
    (rw len_is at (gives w.walked (rw len_is w.held))) b.0 (rw parts at sound)
walked_stopped ram core c new count next len first d NoMemory is plain w here some len_is gives =
    let long = gives w.walked (rw len_is w.held) in
    let size = length-append w.walked (d ∷ []) in
    record {
      row = w.walked ++ d ∷ [];
      is_row = inl (w.leads.rows (d ∷ []) here);
      long = omega (arith, size, long);
      few = omega (arith, size, w.count_is);
    }

listed : (ram : List ℕ) (q : RingState) (front : List Descriptor) (last : Descriptor) → AreConsecutive ram q.descriptors q.size q.taking.place (front ++ last ∷ []) → ArePlain front → last.is_indirect ≡ false
    → IsPackedList ram q front last (front ++ last ∷ [])
listed ram q front last consecutive plain last_plain = record { consecutive = consecutive; plain = plain; replaced = rw last_plain refl }

whole_of : (base : ℕ) (ram : List ℕ) (size : ℕ) (all : List Descriptor) (c : Chain) → AreHeld base (length ram) all c → length all ≤ size → EndGives c (Ok tt) → IsWhole base ram size all
whole_of base ram size all c h few small = record { few = few; inside = h.sound.inside; in_order = h.sound.in_order; total = omega (arith, h.total) }

-- What the last test gives for these descriptors is what there is.
made_of : (ram : List ℕ) (core : RingCore) (front : List Descriptor) (last : Descriptor) (all : List Descriptor) (id slots : ℕ) (c : Chain) (gives : Result (Unit {0}) NoChain)
    → IsPackedList ram (ring core) front last all → AreHeld core.base (length ram) all c → length all ≤ core.size → id ≡ last.id → slots ≡ length front + 1 → EndGives (chain_of id slots c) gives
    → ChainGives ram (ring core) (chain_of id slots c) gives
made_of ram core front last all id slots c (Ok done) list h few id_is slots_is end = record {
  front = front;
  last = last;
  all = all;
  list = list;
  whole = whole_of core.base ram core.size all c h few end;
  is = rw (id_is, slots_is, h.readable, h.writable) refl;
}
made_of ram core front last all id slots c (Err Malformed) list h few id_is slots_is end = λ e s.
    let same = packed_list_same ram (ring core) s.front front s.last last s.all all s.list list in
    omega (arith, h.total, (rw same.2 at s.whole).total)
made_of ram core front last all id slots c (Err NoMemory) list h few id_is slots_is end = absurd end

-- The last one.
pub reached_last : (ram : List ℕ) (core : RingCore) (c : Chain) (count here : ℕ) (d : Descriptor) (gives : Result (Unit {0}) NoChain) → IsReached ram (ring core) c count here d → count ≤ core.size
    → d.has_next ≡ false → EndGives (chain_of d.id count c) gives → ChainGives ram (ring core) (chain_of d.id count c) gives
reached_last ram core c count here d gives r some last end =
    let few : length (r.front ++ d ∷ []) ≤ core.size = omega (arith, length-append r.front (d ∷ []), r.count_is) in
    made_of ram core r.front d (r.front ++ d ∷ []) d.id count c gives (listed ram (ring core) r.front d (r.leads.completes (d ∷ []) (r.is, last)) r.front_plain r.plain) r.held few refl (sym r.count_is) end

-- What a chain is where the first slot names a table.
pub record IsNamed (ram : List ℕ) (q : RingState) (d : Descriptor) (all : List Descriptor) : Type 0 where
  pub alone : d.has_next ≡ false
  pub feature : q.has_indirect ≡ true
  pub table : IsTable q.base ram d
  pub entries : all ≡ entries_from ram (index_of q.base d.addr) 0 (d.len / 16)

named_by : (ram : List ℕ) (q : RingState) (d : Descriptor) (all : List Descriptor) (named : Bool) → named ≡ true → d.has_next ≡ false
    → MatchBool named ((q.has_indirect ≡ true) × IsPackedTable q.base ram [] d all) (all ≡ d ∷ []) → IsNamed ram q d all
named_by ram q d all true is alone (p, t) = record { alone = alone; feature = p; table = t.table; entries = t.entries }
named_by ram q d all false is alone t = absurd (cc)

named_front : (ram : List ℕ) (q : RingState) (front : List Descriptor) (last : Descriptor) (all : List Descriptor) → (first_of ram q).is_indirect ≡ true
    → AreConsecutive ram q.descriptors q.size q.taking.place (front ++ last ∷ []) → ArePlain front
    → MatchBool last.is_indirect ((q.has_indirect ≡ true) × IsPackedTable q.base ram front last all) (all ≡ front ++ last ∷ []) → IsNamed ram q (first_of ram q) all
named_front ram q [] last all named h plain t =
    let e : last ≡ first_of ram q = consecutive_first ram q.descriptors q.size q.taking.place last [] h in
    rw (← e) (named_by ram q last all last.is_indirect (rw e named) h.1 t)
named_front ram q (d ∷ ds) last all named h plain t =
    let e : d ≡ first_of ram q = consecutive_first ram q.descriptors q.size q.taking.place d (ds ++ last ∷ []) h in
    let none : d.is_indirect ≡ false = plain 0 d (omega arith) in
    let bad : true ≡ false = sym named ∙ sym (ap (λ (d : Descriptor). d.is_indirect) e) ∙ none in
    absurd (cc)

pub named_chain : (ram : List ℕ) (q : RingState) (first : Descriptor) → first ≡ first_of ram q → first.is_indirect ≡ true → (c : Chain) → (s : IsPackedChain ram q c) → IsNamed ram q first s.all
named_chain ram q first is named c s = rw is (named_front ram q s.front s.last s.all (rw is at named) s.list.consecutive s.list.plain s.list.replaced)

-- Where the table has more entries than there are slots, there is no chain.
pub none_few : (ram : List ℕ) (q : RingState) (first : Descriptor) → first ≡ first_of ram q → first.is_indirect ≡ true → q.size < first.len / 16 → IsNoChain ram q
none_few ram q first is named many c s =
    let n = named_chain ram q first is named c s in
    omega (arith, ap length n.entries, length_entries ram (index_of q.base first.addr) 0 (first.len / 16), s.whole.few)

-- Nor where they break a rule; where memory was refused for them, they are a long row.
pub named_none : (ram : List ℕ) (core : RingCore) (first : Descriptor) (c : Chain) (why : NoChain) → first ≡ first_of ram (ring core) → first.is_indirect ≡ true → first.has_next ≡ false → (ring core).has_indirect ≡ true
    → IsTable core.base ram first → first.len / 16 ≤ core.size → EntriesGives core.base ram (index_of core.base first.addr) (first.len / 16) c (Err why) → ChainGives ram (ring core) c (Err why)
named_none ram core first c Malformed is named alone feature t few broken = λ d s.
    let n = named_chain ram (ring core) first is named d s in
    let sound : AreSound core.base (length ram) s.all = record { inside = s.whole.inside; in_order = s.whole.in_order } in
    broken (rw n.entries at sound)
named_none ram core first c NoMemory is named alone feature t few long =
    let all : length (entries_from ram (index_of core.base first.addr) 0 (first.len / 16)) ≡ first.len / 16 = length_entries ram (index_of core.base first.addr) 0 (first.len / 16) in
    record {
      row = entries_from ram (index_of core.base first.addr) 0 (first.len / 16);
      is_row = inr (rw (← is) (record { feature = feature; named = named; alone = alone; table = t; entries = refl }));
      long = omega (arith, long);
      few = omega arith;
    }

-- The entries of the table that the first slot names are the chain.
pub table_made : (ram : List ℕ) (core : RingCore) (first : Descriptor) (c : Chain) (gives : Result (Unit {0}) NoChain) → first ≡ first_of ram (ring core) → first.is_indirect ≡ true → first.has_next ≡ false
    → (ring core).has_indirect ≡ true → IsTable core.base ram first → first.len / 16 ≤ core.size → EntriesGives core.base ram (index_of core.base first.addr) (first.len / 16) c (Ok tt) → EndGives (chain_of first.id 1 c) gives
    → ChainGives ram (ring core) (chain_of first.id 1 c) gives
table_made ram core first c gives is named alone feature t few held end =
    let all = entries_from ram (index_of core.base first.addr) 0 (first.len / 16) in
    let list : IsPackedList ram (ring core) [] first all = record {
      consecutive = (is, alone);
      plain = λ k d below. absurd (omega arith);
      replaced = where_true first.is_indirect (((ring core).has_indirect ≡ true) × IsPackedTable core.base ram [] first all) (all ≡ first ∷ []) named (feature, record { alone = refl; table = t; entries = refl });
    } in
    let size : length all ≤ core.size = omega (arith, length_entries ram (index_of core.base first.addr) 0 (first.len / 16)) in
    made_of ram core [] first all first.id 1 c gives list held size refl (omega arith) end
