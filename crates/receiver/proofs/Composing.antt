-- One piece behind another.
use Rattle.std.proofs.Common.{◌≡◌, ℕ, ◌+◌, ◌≤◌, ◌<◌, true, false, List, [], ◌++◌, length, refl, sym, ap, subst, ◌∙◌, append_assoc, append-nil, arith}
use Rattle.std.specs.Prelude.{Result, Ok, Err}
use Rattle.std.proofs.lemmas.List.{length-append}
use Rattle.blk.specs.Disk.{DiskState}
use Rattle.machine.specs.Seen.{Marks}
use Rattle.wire.specs.Header.{Begins, Opening}
use Rattle.wire.specs.Stream.{texts}
use Rattle.receiver.specs.Calls.{Feeds, IsUntouched, WantsDevice}
use Rattle.receiver.specs.Disks.{MarksAfter, sizes_in}
use Rattle.receiver.specs.Faults.{Fault}
use Rattle.receiver.specs.Opened.{said_by}
use Rattle.receiver.specs.Receiving.{HasBeenFed, HasDevice, HasHeaderFor, IsGivenUp, IsTaken, MayTouch, ReaderSeen, Received, TellsNow, has_ended, has_failed, received_with}
use Rattle.receiver.specs.Sums.{Summed}
use Rattle.receiver.specs.declared.ram_terms.RamTerms.{RamTerms}
use Rattle.receiver.specs.declared.recv_error.RecvError.{RecvError}
use Rattle.receiver.specs.declared.recv_error.RecvError.TheVariants.{AlreadyFailed, NoMemory, Trailing}
use Rattle.receiver.specs.declared.stage.Stage.{Stage}
use Rattle.receiver.specs.declared.stage.Stage.TheVariants as stages
use Rattle.receiver.proofs.Ending.{not_ended}
use Rattle.receiver.proofs.Feeding.{fed_on, told_more, true_false}
use Rattle.receiver.proofs.Knowing.{come_of, no_fault_known}
use Rattle.receiver.proofs.Prefixes.{stays}
use Rattle.receiver.proofs.Stages.{trailing_piece}
use Rattle.receiver.proofs.Untouched.{ended_header, header_on, may_touch, same_again, touch_on}
use Rattle.receiver.proofs.Wanting.{device_on, ok_not_err}
use Rattle.receiver.proofs.Working.{kept, tells_more}

-- No bytes.
pub feeds_nothing : (r : ReaderSeen) (held : List ℕ) → has_failed r.stage ≡ false → Feeds (received_with r held) [] (Ok tt) (received_with r held)
feeds_nothing r held on =
    fed_on r r held held [] tt (λ k. omega arith) refl refl (kept r.disks) on (λ head. same_again r)
    (λ b h. record { front = h.taken.front; whole = append-nil b ∙ h.taken.whole; known = h.taken.known })

later_told : (ram : RamTerms) (sizes b p q : List ℕ) (e : RecvError) → TellsNow ram sizes (b ++ p) q e → TellsNow ram sizes b (p ++ q) e
later_told ram sizes b p q e t =
    tells_more ((at : ℕ) × (length (b ++ p) < at) × Fault ram sizes ((b ++ p) ++ q) e at) ((at : ℕ) × (length b < at) × Fault ram sizes (b ++ (p ++ q)) e at) e
    (λ x. (x.0, omega (arith, x.1, length-append b p), subst (λ (c : List ℕ). Fault ram sizes c e x.0) (append_assoc b p q) x.2)) t

begins_on : (b p : List ℕ) (opening : Opening) (rest : List ℕ) → Begins b opening rest → Begins (b ++ p) opening (rest ++ p)
begins_on b p opening rest h = record { good = h.good; whole = ap (λ (x : List ℕ). x ++ p) h.whole ∙ append_assoc _ rest p }

-- The second piece wants memory for a device: so do both.
wants_then : (a m : Received) (p q : List ℕ) → m.ram ≡ a.ram → m.sizes ≡ a.sizes → ((b : List ℕ) → HasBeenFed a b → HasBeenFed m (b ++ p)) → length m.held ≤ length a.held + length p → WantsDevice m q → WantsDevice a (p ++ q)
wants_then a m p q ram sizes fed shorter wants b h opening rest begins from at =
    let t = (fed b h).taken in
    let here = wants (b ++ p) (fed b h) opening (rest ++ p) (begins_on b p opening rest begins) (length t.front) (sym (length-append t.front m.held) ∙ ap length (sym t.whole)) in
    let low : from ≤ length t.front = omega (arith, at, shorter, ap length t.whole, length-append t.front m.held, length-append b p) in
    let text : b ++ (p ++ q) ≡ ((b ++ p) ++ q) ++ [] = sym (append_assoc b p q) ∙ sym (append-nil ((b ++ p) ++ q)) in
    let there : HasDevice a.ram a.sizes ((b ++ p) ++ q) (length t.front) = rw (← ram, ← sizes) here in
    device_on a.ram a.sizes ((b ++ p) ++ q) [] (b ++ (p ++ q)) from (length t.front) there text low

-- The second piece wants memory, and the first ends behind a header: so a device's record is whole in both.
header_wants : (a m : Received) (p q b : List ℕ) → m.ram ≡ a.ram → m.sizes ≡ a.sizes → HasBeenFed m (b ++ p) → WantsDevice m q → HasHeaderFor a.ram a.sizes (b ++ p) → HasDevice a.ram a.sizes (b ++ (p ++ q)) 0
header_wants a m p q b ram sizes fed wants header =
    let t = fed.taken in
    let here = wants (b ++ p) fed (said_by header.opening) (texts header.before ++ header.tail) header.front.begins (length t.front) (sym (length-append t.front m.held) ∙ ap length (sym t.whole)) in
    let text : b ++ (p ++ q) ≡ ((b ++ p) ++ q) ++ [] = sym (append_assoc b p q) ∙ sym (append-nil ((b ++ p) ++ q)) in
    let there : HasDevice a.ram a.sizes ((b ++ p) ++ q) (length t.front) = rw (← ram, ← sizes) here in
    device_on a.ram a.sizes ((b ++ p) ++ q) [] (b ++ (p ++ q)) 0 (length t.front) there text (omega arith)

-- So what the first piece touched may be touched where the second is refused.
touches_then : (a m : Received) (p q b : List ℕ) (e : RecvError) → m.ram ≡ a.ram → m.sizes ≡ a.sizes → HasBeenFed m (b ++ p) → (e ≡ NoMemory → WantsDevice m q) → HasHeaderFor a.ram a.sizes (b ++ p) → MayTouch a.ram a.sizes (b ++ (p ++ q)) e
touches_then a m p q b e ram sizes fed wants header =
    may_touch a.ram a.sizes (b ++ (p ++ q)) e (header_on a.ram a.sizes (b ++ p) q (b ++ (p ++ q)) header (sym (append_assoc b p q)))
    (λ is. header_wants a m p q b ram sizes fed (wants is) header)

untouched_then : {a m c : Received} → IsUntouched a m → IsUntouched m c → IsUntouched a c
untouched_then h k = record { disks = k.disks ∙ h.disks; aside = k.aside ∙ h.aside }

pub feeds_then : (a m c : Received) (p q : List ℕ) (x : Unit {0}) (r : Result (Unit {0}) RecvError) → Feeds a p (Ok x) m → length m.held ≤ length a.held + length p → Feeds m q r c → Feeds a (p ++ q) r c
feeds_then a m c p q x (Ok y) f shorter s = record {
  ram = s.ram ∙ f.ram;
  sizes = s.sizes ∙ f.sizes;
  marks = s.marks ∙ f.marks;
  fed = λ b h. subst (HasBeenFed c) (append_assoc b p q) (s.fed (b ++ p) (f.fed b h));
  quiet = λ b h. rw (← f.ram, ← f.sizes, ← append_assoc b p q) (s.quiet (b ++ p) (f.fed b h));
  told = tt;
  failed = tt;
  place = s.place ∙ f.place;
  already = λ e. absurd (ok_not_err (f.already e));
  memory = λ e. absurd (ok_not_err e);
  gone = λ e. absurd (ok_not_err (f.already e));
  waits = λ b h never.
      let first : ¬ (HasHeaderFor a.ram a.sizes (b ++ p)) = λ header. never (header_on a.ram a.sizes (b ++ p) q (b ++ (p ++ q)) header (sym (append_assoc b p q))) in
      let second : ¬ (HasHeaderFor m.ram m.sizes ((b ++ p) ++ q)) = rw (f.ram, f.sizes, append_assoc b p q) never in
      untouched_then (f.waits b h first) (s.waits (b ++ p) (f.fed b h) second);
  untouched = tt;
}
feeds_then a m c p q x (Err e) f shorter s = record {
  ram = s.ram ∙ f.ram;
  sizes = s.sizes ∙ f.sizes;
  marks = subst (λ (ms : List Marks). MarksAfter {A = Unit {0}} ms (Err e) c.marks) f.marks s.marks;
  fed = tt;
  quiet = tt;
  told = λ b h. later_told a.ram a.sizes b p q e (rw (← f.ram, ← f.sizes) (s.told (b ++ p) (f.fed b h)));
  failed = s.failed;
  place = s.place ∙ f.place;
  already = λ none. absurd (ok_not_err (f.already none));
  memory = λ is. wants_then a m p q f.ram f.sizes f.fed shorter (s.memory is);
  gone = λ none. absurd (ok_not_err (f.already none));
  waits = tt;
  untouched = λ b h never.
      let first : ¬ (HasHeaderFor a.ram a.sizes (b ++ p)) = λ header. never (touches_then a m p q b e f.ram f.sizes (f.fed b h) (λ is. s.memory (ap Err is)) header) in
      let second : ¬ (MayTouch m.ram m.sizes ((b ++ p) ++ q) e) = rw (f.ram, f.sizes, append_assoc b p q) never in
      untouched_then (f.waits b h first) (s.untouched (b ++ p) (f.fed b h) second);
}

more_told : (ram : RamTerms) (sizes b p q : List ℕ) (e : RecvError) → TellsNow ram sizes b p e → TellsNow ram sizes b (p ++ q) e
more_told ram sizes b p q e t =
    tells_more ((at : ℕ) × (length b < at) × Fault ram sizes (b ++ p) e at) ((at : ℕ) × (length b < at) × Fault ram sizes (b ++ (p ++ q)) e at) e
    (λ x. (x.0, x.1, subst (λ (c : List ℕ). Fault ram sizes c e x.0) (append_assoc b p q) (stays ram sizes (b ++ p) q e x.0 x.2))) t

-- What is refused in a part of a piece is refused in it.
pub feeds_more : (a c : Received) (p q : List ℕ) (e : RecvError) → Feeds a p (Err e) c → Feeds a (p ++ q) (Err e) c
feeds_more a c p q e f = record {
  ram = f.ram;
  sizes = f.sizes;
  marks = f.marks;
  fed = tt;
  quiet = tt;
  told = λ b h. more_told a.ram a.sizes b p q e (f.told b h);
  failed = f.failed;
  place = f.place;
  already = f.already;
  memory = λ is b h opening rest begins from at. device_on a.ram a.sizes (b ++ p) q (b ++ (p ++ q)) from from (f.memory is b h opening rest begins from at) (sym (append_assoc b p q)) (omega arith);
  gone = f.gone;
  waits = tt;
  untouched = λ b h never. f.untouched b h (λ touch. never (touch_on a.ram a.sizes (b ++ p) q (b ++ (p ++ q)) e touch (sym (append_assoc b p q))));
}

-- After a refusal.
pub feeds_again : (r : ReaderSeen) (held piece : List ℕ) → has_failed r.stage ≡ true → Feeds (received_with r held) piece (Err AlreadyFailed) (received_with r held)
feeds_again r held piece failed = record {
  ram = refl;
  sizes = refl;
  marks = refl;
  fed = tt;
  quiet = tt;
  told = λ b h. absurd (true_false _ failed h.goes_on);
  failed = failed;
  place = refl;
  already = λ f. refl;
  memory = λ e. absurd cc;
  gone = λ f. record { disks = refl; aside = refl };
  waits = tt;
  untouched = λ b h. absurd (true_false _ failed h.goes_on);
}

-- Behind a whole stream.
trailing_told : (ram : RamTerms) (ds : List DiskState) (digest : Summed) (b held piece : List ℕ) (stage : Stage) → has_ended stage ≡ true → 0 < length piece → IsTaken ram ds digest b held stage → TellsNow ram (sizes_in ds) b piece Trailing
trailing_told ram ds digest b held piece stages.Head done some t = absurd cc
trailing_told ram ds digest b held piece (stages.Records i) done some t =
    told_more ram (sizes_in ds) b piece Trailing (trailing_piece ram ds b piece i (come_of ram ds digest b held i done t) some).1 (no_fault_known ram ds digest b held (stages.Records i) t)
trailing_told ram ds digest b held piece stages.Failed done some t = absurd cc

pub feeds_trailing : (r : ReaderSeen) (held piece : List ℕ) (c : Received) → has_ended r.stage ≡ true → 0 < length piece → IsGivenUp (received_with r held) c → Feeds (received_with r held) piece (Err Trailing) c
feeds_trailing r held piece c done some g = record {
  ram = g.ram;
  sizes = g.sizes;
  marks = g.marks;
  fed = tt;
  quiet = tt;
  told = λ b h. trailing_told r.ram r.disks r.digest b held piece r.stage done some h.taken;
  failed = g.failed;
  place = g.place;
  already = λ f. absurd (true_false _ done (not_ended r.stage f));
  memory = λ e. absurd cc;
  gone = λ f. absurd (true_false _ done (not_ended r.stage f));
  waits = tt;
  untouched = λ b h never. absurd (never (ended_header r.ram r.disks r.digest b held piece r.stage done h.taken));
}
