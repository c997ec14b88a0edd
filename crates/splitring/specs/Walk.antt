use Rattle.std.specs.Prelude.{◌≡◌, ℕ, ◌+◌, ◌-◌, ◌/◌, ◌<◌, ◌≤◌, [], ◌∷◌, List, length, ◌++◌, Bool, true, false, Result, Ok, Err}
use Rattle.guestmem.specs.Address.{index_of}
use Rattle.chains.specs.declared.descriptor.Descriptor.{Descriptor}
use Rattle.chains.specs.declared.descriptor.TheConstants.{DESCRIPTOR_SIZE}
use Rattle.chains.specs.declared.limits.TheConstants.{SHORT_CHAIN_MAX}
use Rattle.chains.specs.Whole.{IsTable, ArePlain, IsWhole, readable_of, writable_of}
use Rattle.chains.specs.declared.chain.Chain.{Chain}
use Rattle.chains.specs.SplitChain.{AreLinked, IsFromTable}
use Rattle.chains.specs.LongQueue.{AreInRow}
use Rattle.chains.specs.declared.no_chain.NoChain.{NoChain}
use Rattle.chains.specs.declared.no_chain.NoChain.TheVariants.{Malformed, NoMemory}
use Rattle.chains.specs.Held.{AreSound, AreHeld}
use Rattle.splitring.specs.declared.walk.Table.{Table}

-- `all` may be `direct` with its last descriptor replaced by others, if that one is indirect. None but the last is.
pub record IsSpelled (direct all : List Descriptor) : Type 0 where
  pub front : List Descriptor
  pub last : Descriptor
  pub tail : List Descriptor
  pub parts : direct ≡ front ++ last ∷ []
  pub plain : ArePlain front
  pub is : all ≡ front ++ tail
  pub some : 1 ≤ length tail
  pub same : last.is_indirect ≡ false → tail ≡ last ∷ []

-- Whatever list begins at this entry: what it is replaced by has more than `room` descriptors, or breaks a rule behind
-- `before`.
abbrev pub IsNoneSound : ℕ → List ℕ → ℕ → ℕ → ℕ → ℕ → List Descriptor → Type 0
IsNoneSound base ram table entries index room before =
    (direct all : List Descriptor) → AreLinked ram table entries index direct → IsSpelled direct all → length all ≤ room → AreSound base (length ram) (before ++ all) → ⊥

-- The list that begins at this entry has at most `room` descriptors, none of them indirect, and the chain has the segments of
-- `before` and of them.
pub record AreGathered (base : ℕ) (ram : List ℕ) (table entries index room : ℕ) (before : List Descriptor) (c : Chain) : Type 0 where
  pub front : List Descriptor
  pub last : Descriptor
  pub linked : AreLinked ram table entries index (front ++ last ∷ [])
  pub few : length front < room
  pub plain : ArePlain front
  pub last_plain : last.is_indirect ≡ false
  pub held : AreHeld base (length ram) (before ++ (front ++ last ∷ [])) c

-- The list that begins at this entry has at most `room` descriptors. The last one, `last`, is the only one that is indirect,
-- and the chain has the segments of `before` and of the others.
pub record AreBeforeTable (base : ℕ) (ram : List ℕ) (table entries index room : ℕ) (before : List Descriptor) (last : Descriptor) (c : Chain) : Type 0 where
  pub front : List Descriptor
  pub linked : AreLinked ram table entries index (front ++ last ∷ [])
  pub few : length front < room
  pub plain : ArePlain front
  pub named : last.is_indirect ≡ true
  pub held : AreHeld base (length ram) (before ++ front) c

-- After `before` there is a row of at most `room` descriptors from entry `index` on, and together they are more than are
-- handled without allocating memory.
pub record IsLongBehind (ram : List ℕ) (table entries index room : ℕ) (before : List Descriptor) : Type 0 where
  pub row : List Descriptor
  pub in_row : AreInRow ram table entries index row
  pub few : length row ≤ room
  pub long : SHORT_CHAIN_MAX < length before + length row

-- What a walk from this entry of a table gives behind `before`, in a ring of `size` slots, by the chain that it has added to, and the
-- last descriptor that it hands out.
abbrev pub WalkGives : ℕ → List ℕ → Table → ℕ → ℕ → List Descriptor → Chain → Descriptor → Result Bool NoChain → Type 0
WalkGives base ram table index size before c last (Ok false) = AreGathered base ram table.at table.entries index (size - length before) before c
WalkGives base ram table index size before c last (Ok true) = AreBeforeTable base ram table.at table.entries index (size - length before) before last c
WalkGives base ram table index size before c last (Err Malformed) = IsNoneSound base ram table.at table.entries index (size - length before) before
WalkGives base ram table index size before c last (Err NoMemory) = IsLongBehind ram table.at table.entries index (size - length before) before

-- These descriptors keep the rules of both layouts, and the segments of the chain are theirs.
pub record IsMadeOf (base : ℕ) (ram : List ℕ) (size : ℕ) (all : List Descriptor) (c : Chain) : Type 0 where
  pub whole : IsWhole base ram size all
  pub readable : c.readable ≡ readable_of all
  pub writable : c.writable ≡ writable_of all

-- The chain is made of `front`, followed by the list of the table that `last` names.
pub record IsFollowed (base : ℕ) (ram : List ℕ) (has_indirect : Bool) (size : ℕ) (front : List Descriptor) (last : Descriptor) (c : Chain) : Type 0 where
  pub all : List Descriptor
  pub feature : has_indirect ≡ true
  pub from_table : IsFromTable base ram front last all
  pub made : IsMadeOf base ram size all c

-- `front`, followed by a row from entry 0 of the table that `last` names, is at most `size` descriptors, and more than are
-- handled without allocating memory.
pub record IsLongTable (base : ℕ) (ram : List ℕ) (has_indirect : Bool) (size : ℕ) (front : List Descriptor) (last : Descriptor) : Type 0 where
  pub feature : has_indirect ≡ true
  pub table : IsTable base ram last
  pub behind : IsLongBehind ram (index_of base last.addr) (last.len / DESCRIPTOR_SIZE) 0 (size - length front) front

-- What it gives to go on in the table that `last` names, behind `front`.
abbrev pub FollowGives : ℕ → List ℕ → Bool → ℕ → List Descriptor → Descriptor → Chain → Result (Unit {0}) NoChain → Type 0
FollowGives base ram has_indirect size front last c (Ok done) = IsFollowed base ram has_indirect size front last c
FollowGives base ram has_indirect size front last c (Err Malformed) = (all : List Descriptor) → has_indirect ≡ true → IsFromTable base ram front last all → IsWhole base ram size all → ⊥
FollowGives base ram has_indirect size front last c (Err NoMemory) = IsLongTable base ram has_indirect size front last
