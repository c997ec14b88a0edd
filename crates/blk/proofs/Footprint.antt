-- A block device reads no byte of a chain outside of its pieces.
use Rattle.std.specs.Prelude.{◌≡◌, ℕ, zero, suc, ◌+◌, ◌*◌, ◌≤◌, List, [], ◌∷◌, take, drop, Bool, true, false, Some, refl, if◌then◌else◌}
use Rattle.std.proofs.Common.{ap, sym, ◌∙◌, arith}
use Rattle.std.proofs.lemmas.List.{drop-take}
use Rattle.chains.specs.State.{RingState}
use Rattle.chains.specs.Places.{places, read_places}
use Rattle.chains.specs.Footprint.{AgreeOn, Knows, place_pieces}
use Rattle.chains.specs.declared.lacking.Piece.{Piece}
use Rattle.chains.specs.declared.chain.Chain.{Chain}
use Rattle.chains.proofs.LookFootprint.{front_local, part_local}
use Rattle.blk.specs.Footprint.{advance_pieces, taken_pieces, unit_pieces}
use Rattle.blk.specs.Move.{move_of, unit_bytes, write_unit}
use Rattle.blk.specs.Request.{is_open}
use Rattle.blk.specs.Sectors.{Sector}
use Rattle.blk.specs.Take.{header_of, segment_of, take_chain}
use Rattle.blk.specs.declared.block.Block.{Block}
use Rattle.blk.specs.declared.request.Kind.{Kind}
use Rattle.blk.specs.declared.request.Kind.TheVariants.{Refused, In, Out, Flush, GetId, Zero}
use Rattle.blk.specs.declared.request.Request.{Request}

take_take : {A : Type 0} (m k : ℕ) (xs : List A) → m ≤ k → take m (take k xs) ≡ take m xs
take_take zero k xs few = refl
take_take (suc m) zero xs few = absurd (omega (arith, few))
take_take (suc m) (suc k) [] few = refl
take_take (suc m) (suc k) (x ∷ xs) few = ap (λ ys. x ∷ ys) (take_take m k xs (omega (arith, few)))

-- A request that is taken.
pub take_local : (features : ℕ) (a b : List ℕ) (q : RingState) (block : Block) (c : Chain) → AgreeOn a b (taken_pieces q.base c) → take_chain features a q block c ≡ take_chain features b q block c
take_local features a b q block c h =
    let at = places c.readable in
    let both : take 32 (read_places q.base a at) ≡ take 32 (read_places q.base b at) = front_local q.base a b at 32 h in
    let header : header_of q.base a c ≡ header_of q.base b c = sym (take_take 16 32 (read_places q.base a at) (omega arith)) ∙ ap (take 16) both ∙ take_take 16 32 (read_places q.base b at) (omega arith) in
    let segment : segment_of q.base a c ≡ segment_of q.base b c = sym (drop-take 16 16 (read_places q.base a at)) ∙ ap (drop 16) both ∙ drop-take 16 16 (read_places q.base b at) in
    rw (header, segment) refl

-- One unit.
unit_local : (base : ℕ) (a b : List ℕ) (r : Request) → AgreeOn a b (unit_pieces Out base r) → unit_bytes base a r ≡ unit_bytes base b r
unit_local base a b r h = part_local base a b (places r.readable) (16 + 512 * r.done) 512 h

pub move_local : (kind : Kind) (base : ℕ) (id a b : List ℕ) (content : List Sector) (r : Request) (is_fine : Bool) → AgreeOn a b (unit_pieces kind base r) → move_of kind base id a content r is_fine ≡ move_of kind base id b content r is_fine
move_local In base id a b content r is_fine h = refl
move_local Out base id a b content r is_fine h = ap (λ bytes. write_unit bytes r is_fine) (unit_local base a b r h)
move_local Flush base id a b content r is_fine h = refl
move_local GetId base id a b content r is_fine h = refl
move_local Refused base id a b content r is_fine h = refl
move_local Zero base id a b content r is_fine h = refl

-- The bytes that an open write writes next are known.
either_way : (opens : Bool) (held : List Piece) (ram : List ℕ) (ps : List Piece) → Knows held ram ps → Knows held ram (if opens then ps else [])
either_way true held ram ps known = known
either_way false held ram ps known = λ b h. tt

pub out_known : (base : ℕ) (held : List Piece) (ram : List ℕ) (r : Request) → r.kind ≡ Out → Knows held ram (place_pieces base (take 512 (drop (16 + 512 * r.done) (places r.readable)))) → Knows held ram (advance_pieces base (Some r))
out_known base held ram r is known =
    let unit : unit_pieces r.kind base r ≡ place_pieces base (take 512 (drop (16 + 512 * r.done) (places r.readable))) = rw is refl in
    either_way (is_open r) held ram (unit_pieces r.kind base r) (rw unit known)
