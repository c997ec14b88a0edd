-- Requests that do not wait for their disk: they advance alike over any sectors.
use Rattle.std.proofs.Common.{◌≡◌, ℕ, List, [], Bool, true, false, cond, Option, Some, None, slice_get, refl, sym, ap, ◌∙◌}
use Rattle.std.proofs.lemmas.Bool.{true≢false}
use Rattle.chains.specs.State.{RingState}
use Rattle.blk.specs.Advance.{advance_one, after_move, completed}
use Rattle.blk.specs.Inside.{OthersAreAlike}
use Rattle.blk.specs.Move.{move_of}
use Rattle.blk.specs.Outside.{Failed, answers_in, awaits_at, awaits_in, call_of, outside_step, units_left, what_of}
use Rattle.blk.specs.Request.{is_good, is_open, next_sector}
use Rattle.blk.specs.Sectors.{Sector}
use Rattle.blk.specs.Sound.{IsSoundWork}
use Rattle.blk.specs.declared.block.Block.{Block}
use Rattle.blk.specs.declared.request.Kind.{Kind}
use Rattle.blk.specs.declared.request.Kind.TheVariants.{Refused, In, Out, Flush, GetId, Zero}
use Rattle.blk.specs.declared.request.Request.{Request}
use Rattle.blk.specs.declared.request.Verdict.{Verdict}
use Rattle.blk.specs.declared.shape.Limits.{Limits}

moved_alike : (kind : Kind) (first left base : ℕ) (id ram : List ℕ) (content : List Sector) (r : Request) (is_fine : Bool) → answers_in (call_of (what_of kind) first left) Failed ≡ false
    → move_of kind base id ram content r is_fine ≡ move_of kind base id ram [] r true
moved_alike Refused first left base id ram content r is_fine h = refl
moved_alike In first left base id ram content r is_fine h = absurd (true≢false h)
moved_alike Out first left base id ram content r is_fine h = absurd (true≢false h)
moved_alike Flush first left base id ram content r is_fine h = absurd (true≢false h)
moved_alike GetId first left base id ram content r is_fine h = refl
moved_alike Zero first left base id ram content r is_fine h = absurd (true≢false h)

one_alike : (ram : List ℕ) (q : RingState) (content : List Sector) (b : Block) (k : ℕ) (is_fine : Bool) (r : Request) (opens : Bool) → answers_in (cond opens (call_of (what_of r.kind) (next_sector r) (units_left r)) None) Failed ≡ false
    → cond opens (after_move q b k (move_of r.kind q.base b.id ram content r is_fine)) (completed ram q b k r) ≡ cond opens (after_move q b k (move_of r.kind q.base b.id ram [] r true)) (completed ram q b k r)
one_alike ram q content b k is_fine r true h = ap (after_move q b k) (moved_alike r.kind (next_sector r) (units_left r) q.base b.id ram content r is_fine h)
one_alike ram q content b k is_fine r false h = refl

found_alike : (ram : List ℕ) (q : RingState) (content : List Sector) (b : Block) (k : ℕ) (is_fine : Bool) (found : Option Request) → awaits_in found Failed ≡ false → advance_one ram q content b k is_fine found ≡ advance_one ram q [] b k true found
found_alike ram q content b k is_fine None h = refl
found_alike ram q content b k is_fine (Some r) h = one_alike ram q content b k is_fine r (is_open r) h

pub others_are_alike : OthersAreAlike
others_are_alike ram q content b k is_fine h = found_alike ram q content b k is_fine (slice_get b.requests k) h

-- They set no sector.
moved_sets : (kind : Kind) (first left base : ℕ) (id ram : List ℕ) (r : Request) → answers_in (call_of (what_of kind) first left) Failed ≡ false → (move_of kind base id ram [] r true).sets ≡ []
moved_sets Refused first left base id ram r h = refl
moved_sets In first left base id ram r h = absurd (true≢false h)
moved_sets Out first left base id ram r h = absurd (true≢false h)
moved_sets Flush first left base id ram r h = absurd (true≢false h)
moved_sets GetId first left base id ram r h = refl
moved_sets Zero first left base id ram r h = absurd (true≢false h)

one_sets : (ram : List ℕ) (q : RingState) (b : Block) (k : ℕ) (r : Request) (opens : Bool) → answers_in (cond opens (call_of (what_of r.kind) (next_sector r) (units_left r)) None) Failed ≡ false
    → (cond opens (after_move q b k (move_of r.kind q.base b.id ram [] r true)) (completed ram q b k r)).sets ≡ []
one_sets ram q b k r true h = moved_sets r.kind (next_sector r) (units_left r) q.base b.id ram r h
one_sets ram q b k r false h = refl

found_sets : (ram : List ℕ) (q : RingState) (b : Block) (k : ℕ) (found : Option Request) → awaits_in found Failed ≡ false → (advance_one ram q [] b k true found).sets ≡ []
found_sets ram q b k None h = refl
found_sets ram q b k (Some r) h = one_sets ram q b k r (is_open r) h

pub outside_sets : (ram : List ℕ) (q : RingState) (b : Block) (k : ℕ) → awaits_at b.requests k Failed ≡ false → (outside_step ram q b k).sets ≡ []
outside_sets ram q b k h = found_sets ram q b k (slice_get b.requests k) h

-- One that has a unit left asks for the id.
id_by : (kind : Kind) (readable writable : ℕ) (limits : Limits) (verdict : Verdict) (first units done from left : ℕ) → is_good verdict ≡ true → answers_in (call_of (what_of kind) from left) Failed ≡ false
    → IsSoundWork kind readable writable limits verdict first units done → kind ≡ GetId
id_by Refused readable writable limits verdict first units done from left good h work = absurd (true≢false (sym good ∙ work.0))
id_by In readable writable limits verdict first units done from left good h work = absurd (true≢false h)
id_by Out readable writable limits verdict first units done from left good h work = absurd (true≢false h)
id_by Flush readable writable limits verdict first units done from left good h work = absurd (true≢false h)
id_by GetId readable writable limits verdict first units done from left good h work = refl
id_by Zero readable writable limits verdict first units done from left good h work = absurd (true≢false h)
