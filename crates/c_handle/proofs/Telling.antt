-- A host that tells the digest of what it takes.
use Rattle.std.proofs.Common.{◌≡◌, ℕ, Bool, true, false, List, refl, sym, ap, ◌∙◌, subst}
use Rattle.sender.specs.LiveState.{LiveSeen}
use Rattle.wire.specs.Telling.{is_owed}
use Rattle.c_handle.specs.Digest.{BeginsAs, TellsIf, TellsKept, told_begun}
use Rattle.c_handle.specs.Kept.{KeptSeen, State, Still, Moving, Arriving, Lent, are_told, held_state, state_in, told_in}
use Rattle.c_handle.specs.Migrated.{BeginsKept}
use Rattle.c_handle.specs.declared.kept.Contents.{Contents}
use Rattle.c_handle.specs.declared.kept.Contents.TheVariants as contents
use Rattle.c_handle.specs.declared.kept.Held.{Held}
use Rattle.c_handle.specs.declared.kept.Held.TheVariants as held

-- A begin without flags is a begin.
pub begins : (flags : ℕ) (k next : State) (status : ℕ) → flags ≡ 0 → BeginsAs flags k status next → BeginsKept k status next
begins flags (Still m) next status none b = subst (λ (n : ℕ). BeginsAs n (Still m) status next) none b
begins flags (Moving l) next status none b = b
begins flags (Arriving r) next status none b = b
begins flags (Lent x) next status none b = b

-- The digest of one that is not being migrated is told by nobody, so such a begin leaves it at that.
plain_in : {D : Type 0} (c : Contents D) (next : State) → told_begun 0 (told_in c) (state_in c) next ≡ told_in c
plain_in (contents.Still m) (Still next) = refl
plain_in (contents.Still m) (Moving next) = refl
plain_in (contents.Still m) (Arriving next) = refl
plain_in (contents.Still m) (Lent next) = refl
plain_in (contents.Moving l) next = refl
plain_in (contents.Told l) next = refl
plain_in (contents.Lent loan) next = refl

plain_held : (old : Held) (next : State) → told_begun 0 (are_told old) (held_state old) next ≡ are_told old
plain_held (held.Own c) next = plain_in c next
plain_held (held.Mapped c) next = plain_in c next
plain_held (held.Arriving a) next = refl
plain_held (held.ToldArriving a telling) next = refl

pub plain : (flags : ℕ) (old next : Held) → are_told next ≡ told_begun flags (are_told old) (held_state old) (held_state next) → flags ≡ 0 → are_told next ≡ are_told old
plain flags old next is none = is ∙ ap (λ (n : ℕ). told_begun n (are_told old) (held_state old) (held_state next)) none ∙ plain_held old (held_state next)

pub as_before : (old new : KeptSeen) (told : Bool) → new ≡ record old { state = new.state; told = told } → new.told ≡ old.told → new ≡ record old { state = new.state }
as_before old new told is same = is ∙ ap (λ (b : Bool). record old { state = new.state; told = b }) (sym (ap (λ (x : KeptSeen). x.told) is) ∙ same)

-- By whether it is asked for.
pub asked : (owed : Bool) (l next : LiveSeen) (digest : List ℕ) (status : ℕ) → owed ≡ true → TellsIf true digest l status next → TellsIf owed digest l status next
asked owed l next digest status is told = subst (λ (b : Bool). TellsIf b digest l status next) (sym is) told

pub not_asked : (owed : Bool) (l : LiveSeen) (digest : List ℕ) → owed ≡ false → TellsIf owed digest l 31 l
not_asked owed l digest is = subst (λ (b : Bool). TellsIf b digest l 31 l) (sym is) (refl, refl)

pub tells : (told : Bool) (k : State) (l next : LiveSeen) (digest : List ℕ) (status : ℕ) → told ≡ true → k ≡ Moving l → TellsIf (is_owed l.digest) digest l status next → TellsKept told digest k status (Moving next)
tells told k l next digest status is moves does =
    subst (λ (b : Bool). TellsKept b digest k status (Moving next)) (sym is) (subst (λ (x : State). TellsKept true digest x status (Moving next)) (sym moves) does)

pub tells_not : (told : Bool) (k : State) (l : LiveSeen) (digest : List ℕ) → told ≡ false → k ≡ Moving l → TellsKept told digest k 31 (Moving l)
tells_not told k l digest is moves =
    subst (λ (b : Bool). TellsKept b digest k 31 (Moving l)) (sym is) (subst (λ (x : State). TellsKept false digest x 31 (Moving l)) (sym moves) (refl, refl))
