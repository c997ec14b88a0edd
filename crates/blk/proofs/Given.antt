-- One unit of a request, with the sectors as the disk gave them.
use Rattle.std.proofs.Common.{◌≡◌, ◌<◌, ◌*◌, ℕ, List, [], ◌∷◌, length, map, set, get_or, take, drop, Bool, true, false, Some, None, refl, sym, ap, append-nil}
use Rattle.std.specs.Prelude.{IsTrue}
use Rattle.std.proofs.lemmas.Bool.{true≢false}
use Rattle.std.proofs.lemmas.List.{get_or-set_same, set-get_or}
use Rattle.std.proofs.lemmas.List.Elements.{All-set}
use Rattle.std.proofs.Math.Seq.{map-set_same}
use Rattle.guestmem.specs.Item.{Item, sector}
use Rattle.guestmem.specs.Writes.{set_all, touched}
use Rattle.chains.specs.Places.{places, place_writes}
use Rattle.blk.specs.Disk.{IsSector}
use Rattle.blk.specs.Sectors.{AreWhole, IsGiven, IsWhole, Sector, bytes_of, is_bad, sector_in}
use Rattle.blk.specs.Request.{next_sector}
use Rattle.blk.specs.Move.{AreSet, IsMoved, failed, move_flush, move_id, move_in, move_of, one_done, write_unit}
use Rattle.blk.specs.declared.disk.TheConstants.{SECTOR_SIZE}
use Rattle.blk.specs.declared.request.Kind.{Kind}
use Rattle.blk.specs.declared.request.Kind.TheVariants.{Flush, GetId}
use Rattle.blk.specs.declared.request.Request.{Request}
use Rattle.blk.specs.declared.advancing.Advanced.{Advanced}
use Rattle.blk.specs.declared.advancing.Advanced.TheVariants.{DiskFailed, Moved}

-- A disk that was not read gave what it holds.
pub given_itself : (honest : Bool) (content : List Sector) → AreWhole content → IsGiven honest content content
given_itself honest content whole = record { bad = refl; whole = whole; is = λ _. refl }

same_sector : (s : Sector) (bytes : List ℕ) → is_bad s ≡ false → bytes ≡ bytes_of s → s ≡ Some bytes
same_sector None bytes good is = absurd (true≢false good)
same_sector (Some old) bytes good is = rw is refl

set_itself : (content : List Sector) (n : ℕ) (s : Sector) → get_or content n None ≡ s → set content n s ≡ content
set_itself content n s is = rw (← is) (set-get_or content n None)

-- A good sector was read: these are its bytes as the disk gave them.
pub given_read : (honest : Bool) (content : List Sector) (n : ℕ) (bytes : List ℕ) → n < length content → AreWhole content → IsSector bytes → is_bad (sector_in content n) ≡ false → (IsTrue honest → bytes ≡ bytes_of (sector_in content n))
    → IsGiven honest content (set content n (Some bytes))
given_read honest content n bytes below whole fits good is = record {
  bad = map-set_same is_bad content n (Some bytes) None (sym good);
  whole = All-set IsWhole content n (Some bytes) fits whole;
  is = λ h. set_itself content n (Some bytes) (same_sector (get_or content n None) bytes good (is h));
}

-- No sector was set.
pub none_set : (honest : Bool) (content new_content : List Sector) → new_content ≡ content → AreSet honest content [] new_content
none_set honest content new_content same = record { bad = ap (map is_bad) same; unwritten = λ _. same; is = λ _. same }

-- A sector that was read goes to the writable places of its unit.
pub read_in : (touches : List Item → Type 0) (honest : Bool) (device base : ℕ) (ram : List ℕ) (content : List Sector) (r : Request) (bytes : List ℕ) (new_ram : List ℕ) (new_content : List Sector)
    → next_sector r < length content → AreWhole content → IsSector bytes → is_bad (sector_in content (next_sector r)) ≡ false → (IsTrue honest → bytes ≡ bytes_of (sector_in content (next_sector r)))
    → new_ram ≡ set_all ram (place_writes base (take SECTOR_SIZE (drop (SECTOR_SIZE * r.done) (places r.writable))) bytes) → new_content ≡ content
    → touches (touched (place_writes base (take SECTOR_SIZE (drop (SECTOR_SIZE * r.done) (places r.writable))) bytes))
    → IsMoved touches honest device ram content (λ given. move_in base given r true) Moved (one_done r) new_ram new_content
read_in touches honest device base ram content r bytes new_ram new_content below whole fits good is ram_is same items_are =
    let there : get_or (set content (next_sector r) (Some bytes)) (next_sector r) None ≡ Some bytes = get_or-set_same content (next_sector r) (Some bytes) None below in
    record {
      given = set content (next_sector r) (Some bytes);
      is_given = given_read honest content (next_sector r) bytes below whole fits good is;
      answer_is = rw there refl;
      request_is = rw there refl;
      ram_is = rw there ram_is;
      content_is = rw there (none_set honest content new_content same);
      items_are = rw (there, append-nil) items_are;
    }

-- The disk was flushed, or failed.
by_flush : (touches : List Item → Type 0) (honest : Bool) (device : ℕ) (ram : List ℕ) (content : List Sector) (r : Request) (is_fine : Bool) (answer : Advanced) (new_request : Request) (new_content : List Sector)
    → AreWhole content → answer ≡ (move_flush r is_fine).answer → new_request ≡ (move_flush r is_fine).request → new_content ≡ content → touches []
    → IsMoved touches honest device ram content (λ given. move_flush r is_fine) answer new_request ram new_content
by_flush touches honest device ram content r true answer new_request new_content whole answer_is request_is same none =
    record { given = content; is_given = given_itself honest content whole; answer_is = answer_is; request_is = request_is; ram_is = refl; content_is = none_set honest content new_content same; items_are = none }
by_flush touches honest device ram content r false answer new_request new_content whole answer_is request_is same none =
    record { given = content; is_given = given_itself honest content whole; answer_is = answer_is; request_is = request_is; ram_is = refl; content_is = none_set honest content new_content same; items_are = none }

pub flushed : (touches : List Item → Type 0) (honest : Bool) (device : ℕ) (kind : Kind) (base : ℕ) (id ram : List ℕ) (content : List Sector) (r : Request) (is_fine : Bool) (answer : Advanced) (new_request : Request) (new_content : List Sector)
    → kind ≡ Flush → AreWhole content → answer ≡ (move_flush r is_fine).answer → new_request ≡ (move_flush r is_fine).request → new_content ≡ content → touches []
    → IsMoved touches honest device ram content (λ given. move_of kind base id ram given r is_fine) answer new_request ram new_content
flushed touches honest device kind base id ram content r is_fine answer new_request new_content is whole answer_is request_is same none =
    rw is (by_flush touches honest device ram content r is_fine answer new_request new_content whole answer_is request_is same none)

-- The id of the device was read.
pub id_read : (touches : List Item → Type 0) (honest : Bool) (device : ℕ) (kind : Kind) (base : ℕ) (id ram : List ℕ) (content : List Sector) (r : Request) (is_fine : Bool) (answer : Advanced) (new_request : Request) (new_ram : List ℕ)
    → kind ≡ GetId → AreWhole content → answer ≡ Moved → new_request ≡ (move_id base id r).request → new_ram ≡ set_all ram (move_id base id r).writes → touches (touched (move_id base id r).writes)
    → IsMoved touches honest device ram content (λ given. move_of kind base id ram given r is_fine) answer new_request new_ram content
id_read touches honest device kind base id ram content r is_fine answer new_request new_ram is whole answer_is request_is ram_is items_are = rw is (record {
  given = content;
  is_given = given_itself honest content whole;
  answer_is = answer_is;
  request_is = request_is;
  ram_is = ram_is;
  content_is = none_set honest content content refl;
  items_are = rw append-nil items_are;
})

-- A sector was written, or became bad.
pub wrote : (touches : List Item → Type 0) (honest : Bool) (device : ℕ) (ram bytes : List ℕ) (content : List Sector) (r : Request) (new_content : List Sector)
    → AreWhole content → map is_bad new_content ≡ map is_bad (set content (next_sector r) (Some bytes)) → (IsTrue honest → new_content ≡ set content (next_sector r) (Some bytes)) → touches (sector device (next_sector r) ∷ [])
    → IsMoved touches honest device ram content (λ given. write_unit bytes r true) Moved (one_done r) ram new_content
wrote touches honest device ram bytes content r new_content whole marks is items_are = record {
  given = content;
  is_given = given_itself honest content whole;
  answer_is = refl;
  request_is = refl;
  ram_is = refl;
  content_is = record { bad = marks; unwritten = λ bad. absurd (true≢false (sym bad.0)); is = is };
  items_are = items_are;
}

pub wrote_none : (touches : List Item → Type 0) (honest : Bool) (device : ℕ) (ram bytes : List ℕ) (content : List Sector) (r : Request) (new_content : List Sector)
    → AreWhole content → new_content ≡ set content (next_sector r) None → touches (sector device (next_sector r) ∷ [])
    → IsMoved touches honest device ram content (λ given. write_unit bytes r false) DiskFailed (failed r) ram new_content
wrote_none touches honest device ram bytes content r new_content whole is items_are = record {
  given = content;
  is_given = given_itself honest content whole;
  answer_is = refl;
  request_is = refl;
  ram_is = refl;
  content_is = record { bad = ap (map is_bad) is; unwritten = λ _. is; is = λ _. is };
  items_are = items_are;
}
