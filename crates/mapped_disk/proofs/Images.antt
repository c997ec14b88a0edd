-- What an image owns is taken apart and made.
use Rattle.std.proofs.Common.{◌≡◌, ℕ, ◌*◌, ◌^◌, ◌<◌, List, [], ◌∷◌, ◌++◌, length, refl, sym, ap, subst, ◌∙◌, w64}
use seplogic.Ra.Ura.{Ura}
use mir.Val.{Val, vint, vstruct, of_list}
use types.Logic.{Logic}
use types.Kit.{Goal, Step, step, Seq, Item, ‵, ◌$◌, drop, fsplit, fjoin, fpick, fpack, feq_l, feq_i, flt_l, flt_i}
use denote.RattleType.{RattleType, Valss}
use denote.RawPtr.{ptr_val}
use denote.Steps.{nothing}
use denote.Struct.Struct.{within}
use denote.Struct.Owning.{shape, to}
use Rattle.region.proofs.Regions.{word}
use Rattle.region.specs.Address.{address}
use Rattle.region.specs.declared.region.Region.{Region}
use Rattle.blk.specs.Disk.{AreSectors}
use Rattle.mapped_disk.specs.Bytes.{bytes_of, cut}
use Rattle.mapped_disk.specs.Image.{IsContent, image_owns}
use Rattle.mapped_disk.specs.Over.{IsOver, image_over}
use Rattle.mapped_disk.proofs.Sectors.{cut_bytes, length_bytes}
use Rattle.mapped_disk.specs.declared.image.Image.{Image}
use Rattle.mapped_disk.specs.contracts.image.Image as held

abbrev pub Row : RattleType
Row = held.the_row

module _ {M : Type 1} {𝓤 : Ura M} {𝓛 : Logic 𝓤} {K : Type 0} {Γ : List (Item 𝓤)} {G : Goal 𝓤 𝓛.H} where
  pub image_had : K → (d : Image) (vs : List Val)
      → (vs ≡ word d.at d.sectors ∷ [] → d.sectors < 2 ^ 64 → Seq K 𝓛 (‵ (image_owns d.at d.sectors d.content) ∷ Γ) G)
      → Seq K 𝓛 (‵ (Row.own_val d vs) ∷ Γ) G
  image_had t d vs k =
      fsplit t $ fpick t (λ vss. fsplit t $ feq_l t (λ all. fsplit t $ feq_l t (λ e₀. fsplit t $ fsplit t $ feq_l t (λ e₁. flt_l t (λ small. drop t $
      k (all ∙ (λ i. vstruct (of_list (e₀ i ++ (e₁ i ++ []))) ∷ [])) small)))))

  pub image_made : K → (d : Image) → d.sectors < 2 ^ 64
      → Step K 𝓛 (‵ (Row.own_val d (word d.at d.sectors ∷ [])) ∷ Γ) G (‵ (image_owns d.at d.sectors d.content) ∷ Γ) G
  image_made t d small = step (λ s.
      nothing t $ flt_i t d.sectors (2 ^ 64) small $ feq_i t (List Val) (vint w64 d.sectors ∷ []) (vint w64 d.sectors ∷ []) refl $ fjoin t $ fjoin t $
      feq_i t (List Val) (ptr_val d.at ∷ []) (ptr_val d.at ∷ []) refl $ fjoin t $ feq_i t (List Val) (word d.at d.sectors ∷ []) (word d.at d.sectors ∷ []) refl $ fjoin t $
      fpack t (Valss (shape held.the_type).fields) (within (shape held.the_type) (to held.the_type d) (word d.at d.sectors ∷ [])) (ptr_val d.at ∷ [], (vint w64 d.sectors ∷ [], tt)) $ fjoin t $ s)

-- A region that has the bytes of an image, where they lie.
module _ (d : Image) (r : Region) (held : IsContent d.sectors d.content) (bytes : r.content ≡ bytes_of d.content) (same : address r ≡ d.at) where
  cut_again : cut d.sectors r.content ≡ d.content
  cut_again = rw (bytes, ← held.count) (cut_bytes d.content held.whole)

  pub over_of : image_over r d.sectors ≡ d
  over_of = rw (same, cut_again) refl

  pub is_over_of : IsOver r d.sectors
  is_over_of = record { count = ap length bytes ∙ length_bytes d.content held.whole ∙ ap (λ (k : ℕ). k * 512) held.count; whole = subst AreSectors (sym cut_again) held.whole }
