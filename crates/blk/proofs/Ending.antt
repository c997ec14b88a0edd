-- A request that ends.
use Rattle.std.proofs.Common.{◌≡◌, ℕ, List, set, Bool, true, false, Some, None, [], slice_get, take, drop, suc, refl, ap, ◌∙◌, append-nil}
use Rattle.std.proofs.lemmas.List.Elements.{All-append, All-take, All-drop}
use Rattle.std.specs.List.{remove, All}
use Rattle.guestmem.specs.Item.{Item}
use Rattle.guestmem.specs.Writes.{set_all, touched}
use Rattle.chains.specs.State.{RingState}
use Rattle.chains.specs.Publish.{is_interrupt_due, after_publish}
use Rattle.blk.specs.Sectors.{AreWhole, Sector}
use Rattle.blk.specs.Move.{IsMoved, move_of}
use Rattle.blk.specs.Request.{is_open}
use Rattle.blk.specs.Advance.{IsAfterAdvancing, advance_step, used_len, end_writes}
use Rattle.blk.specs.Block.{with_requests}
use Rattle.blk.specs.declared.block.Block.{Block}
use Rattle.blk.specs.declared.request.Request.{Request}
use Rattle.blk.specs.declared.advancing.Advanced.{Advanced}
use Rattle.blk.specs.declared.advancing.Advanced.TheVariants.{Completed, Idle}
use Rattle.blk.proofs.Given.{given_itself, none_set}

pub ended : (touches : List Item → Type 0) (honest : Bool) (device : ℕ) (ram new_ram : List ℕ) (content : List Sector) (q new_q : RingState) (b new_b : Block) (k : ℕ) (is_fine : Bool) (r : Request) (answer : Advanced)
    → slice_get b.requests k ≡ Some r → is_open r ≡ false → AreWhole content
    → answer ≡ Completed (used_len r) (is_interrupt_due q r.slots (set_all ram (end_writes q r))) → new_ram ≡ set_all ram (end_writes q r) → new_q ≡ after_publish q r.slots → new_b ≡ with_requests b (remove b.requests k) → touches (touched (end_writes q r))
    → IsAfterAdvancing touches honest device ram content (λ given. advance_step ram q given b k is_fine) answer new_ram new_q content new_b
ended touches honest device ram new_ram content q new_q b new_b k is_fine r answer found shut whole answer_is ram_is ring_is block_is items_are = record {
  given = content;
  is_given = given_itself honest content whole;
  answer_is = rw (found, shut) answer_is;
  ram_is = rw (found, shut) ram_is;
  ring_is = rw (found, shut) ring_is;
  content_is = rw (found, shut) (none_set honest content content refl);
  block_is = rw (found, shut) block_is;
  items_are = rw (found, shut, append-nil) items_are;
}

-- A request that goes on by one unit.
pub went_on : (touches : List Item → Type 0) (honest : Bool) (device : ℕ) (ram new_ram : List ℕ) (content new_content : List Sector) (q new_q : RingState) (b new_b : Block) (k : ℕ) (is_fine : Bool) (r new : Request) (answer : Advanced)
    → slice_get b.requests k ≡ Some r → is_open r ≡ true → IsMoved touches honest device ram content (λ given. move_of r.kind q.base b.id ram given r is_fine) answer new new_ram new_content
    → new_q ≡ q → new_b ≡ with_requests b (set b.requests k new)
    → IsAfterAdvancing touches honest device ram content (λ given. advance_step ram q given b k is_fine) answer new_ram new_q new_content new_b
went_on touches honest device ram new_ram content new_content q new_q b new_b k is_fine r new answer found some h ring_is block_is = record {
  given = h.given;
  is_given = h.is_given;
  answer_is = rw (found, some) h.answer_is;
  ram_is = rw (found, some) h.ram_is;
  ring_is = rw (found, some) ring_is;
  content_is = rw (found, some) h.content_is;
  block_is = rw (found, some) (block_is ∙ ap (λ (x : Request). with_requests b (set b.requests k x)) h.request_is);
  items_are = rw (found, some) h.items_are;
}

-- There is no such request.
pub stayed : (touches : List Item → Type 0) (honest : Bool) (device : ℕ) (ram : List ℕ) (content : List Sector) (q : RingState) (b : Block) (k : ℕ) (is_fine : Bool)
    → slice_get b.requests k ≡ None → AreWhole content → touches []
    → IsAfterAdvancing touches honest device ram content (λ given. advance_step ram q given b k is_fine) Idle ram q content b
stayed touches honest device ram content q b k is_fine none whole untouched = record {
  given = content;
  is_given = given_itself honest content whole;
  answer_is = rw none refl;
  ram_is = rw none refl;
  ring_is = rw none refl;
  content_is = rw none (none_set honest content content refl);
  block_is = rw none refl;
  items_are = rw none untouched;
}

-- What holds of each holds of those that are left.
pub all_left : (P : Request → Type 0) (requests : List Request) (k : ℕ) → All P requests → All P (remove requests k)
all_left P requests k h = All-append P (take k requests) (drop (suc k) requests) (All-take P k requests h) (All-drop P (suc k) requests h)
