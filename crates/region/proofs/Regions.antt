-- What a region and a slot own is taken apart and made.
use Rattle.std.proofs.Common.{◌≡◌, ℕ, ◌^◌, ◌<◌, List, [], ◌∷◌, ◌++◌, refl, ◌∙◌, w64, lit<}
use Prim.Native.Nat.{zero, suc}
use native.Mathlib.Nat.{lt_irrefl}
use seplogic.Ra.Ura.{Ura}
use base.Logic.{ent, id⊢}
use base.Fml.{Lft}
use lib.Dec.{T}
use mir.Syntax.{ty_ptr}
use mir.Val.{has_ty, WT, Val, vint, vstruct, vcons, vnil, of_list}
use types.Logic.{Logic, sem}
use types.Kit.{Goal, Step, step, Seq, Item, ‵, ◌$◌, drop, fsplit, fjoin, fpick, fpack, feq_l, feq_i, flt_l, flt_i}
use denote.Array.{Array}
use denote.RattleType.{RattleType, Valss}
use denote.RawPtr.{Ptr, block_ptr, null_ptr, ptr_val}
use denote.Steps.{nothing}
use denote.Struct.Struct.{within}
use denote.Struct.Lending.{lent_at}
use denote.Struct.Owning.{shape, to}
use denote.Builtin.{u8}
use Rattle.region.specs.Region.{bytes_lie, bytes_owned, bytes_lent, region_owns}
use Rattle.region.specs.declared.region.Region.{Region}
use Rattle.region.specs.declared.slot.Slot.{Slot}
use Rattle.region.specs.contracts.region.Region as held
use Rattle.region.specs.contracts.slot.Slot as in_slot
use Rattle.region.specs.Slot.{region_of}

abbrev pub Row : RattleType
Row = held.the_row

abbrev pub SlotRow : RattleType
SlotRow = in_slot.the_row

-- A region, and a slot, as the machine has it.
abbrev pub word : Ptr → ℕ → Val
word p n = vstruct (vcons (ptr_val p) (vcons (vint w64 n) vnil))

module _ {M : Type 1} {𝓤 : Ura M} {𝓛 : Logic 𝓤} {K : Type 0} {Γ : List (Item 𝓤)} {G : Goal 𝓤 𝓛.H} where
  pub region_had : K → (d : Region) (vs : List Val)
      → (vs ≡ word d.at d.len ∷ [] → d.len < 2 ^ 64 → Seq K 𝓛 (‵ (region_owns d.at d.len d.content) ∷ Γ) G)
      → Seq K 𝓛 (‵ (Row.own_val d vs) ∷ Γ) G
  region_had t d vs k =
      fsplit t $ fpick t (λ vss. fsplit t $ feq_l t (λ all. fsplit t $ feq_l t (λ e₀. fsplit t $ fsplit t $ feq_l t (λ e₁. flt_l t (λ small. drop t $
      k (all ∙ (λ i. vstruct (of_list (e₀ i ++ (e₁ i ++ []))) ∷ [])) small)))))

  pub region_made : K → (d : Region) → d.len < 2 ^ 64
      → Step K 𝓛 (‵ (Row.own_val d (word d.at d.len ∷ [])) ∷ Γ) G (‵ (region_owns d.at d.len d.content) ∷ Γ) G
  region_made t d small = step (λ s.
      nothing t $ flt_i t d.len (2 ^ 64) small $ feq_i t (List Val) (vint w64 d.len ∷ []) (vint w64 d.len ∷ []) refl $ fjoin t $ fjoin t $
      feq_i t (List Val) (ptr_val d.at ∷ []) (ptr_val d.at ∷ []) refl $ fjoin t $ feq_i t (List Val) (word d.at d.len ∷ []) (word d.at d.len ∷ []) refl $ fjoin t $
      fpack t (Valss (shape held.the_type).fields) (within (shape held.the_type) (to held.the_type d) (word d.at d.len ∷ [])) (ptr_val d.at ∷ [], (vint w64 d.len ∷ [], tt)) $ fjoin t $ s)

  -- A slot owns what the region does that lies in it.
  pub slot_had : K → (d : Slot) (vs : List Val)
      → (vs ≡ word d.at d.len ∷ [] → d.len < 2 ^ 64 → Seq K 𝓛 (‵ (region_owns d.at d.len d.content) ∷ Γ) G)
      → Seq K 𝓛 (‵ (SlotRow.own_val d vs) ∷ Γ) G
  slot_had t d vs k = region_had t (region_of d) vs k

  pub slot_made : K → (d : Slot) → d.len < 2 ^ 64
      → Step K 𝓛 (‵ (SlotRow.own_val d (word d.at d.len ∷ [])) ∷ Γ) G (‵ (region_owns d.at d.len d.content) ∷ Γ) G
  slot_made t d small = region_made t (region_of d) small

pub pointer_typed : (s : Ptr) → T (has_ty ty_ptr (ptr_val s)) × WT (ptr_val s)
pointer_typed (block_ptr b o) = (tt, tt)
pointer_typed null_ptr = (tt, record { fits = lit< tt })

module _ {M : Type 1} {𝓤 : Ura M} (𝓛 : Logic 𝓤) where
  -- A region with bytes has them at its pointer.
  pub some_out : (p : Ptr) (n : ℕ) (xs : List ℕ) → 0 < n → ent 𝓤 (sem 𝓛 (bytes_owned p n xs)) (sem 𝓛 (bytes_lie p n xs))
  some_out p zero xs some = absurd (lt_irrefl 0 some)
  some_out p (suc m) xs some = id⊢ 𝓤 _

  pub some_in : (p : Ptr) (n : ℕ) (xs : List ℕ) → 0 < n → ent 𝓤 (sem 𝓛 (bytes_lie p n xs)) (sem 𝓛 (bytes_owned p n xs))
  some_in p zero xs some = absurd (lt_irrefl 0 some)
  some_in p (suc m) xs some = id⊢ 𝓤 _

  pub some_lent : (p : Ptr) (n : ℕ) (xs : List ℕ) (κ : Lft) → 0 < n → ent 𝓤 (sem 𝓛 (bytes_lent p n xs κ)) (sem 𝓛 (lent_at (Array u8 n) p xs κ))
  some_lent p zero xs κ some = absurd (lt_irrefl 0 some)
  some_lent p (suc m) xs κ some = id⊢ 𝓤 _
