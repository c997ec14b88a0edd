use Rattle.std.proofs.Common.{◌≡◌, ◌∙◌, ℕ, List, [], Option, Some, None, slice_get, false, refl, ap, sym, subst, length}
use Rattle.std.proofs.lemmas.Option.{get_or_from_slice_get}
use Rattle.guestmem.specs.Rises.{Touches}
use Rattle.guestmem.specs.Writes.{set_all, touched}
use Rattle.guestmem.proofs.RisesLaws.{touches_none}
use Rattle.chains.proofs.PlaceLaws.{place_writes_take}
use Rattle.blk.specs.Block.{with_requests}
use Rattle.blk.specs.Outside.{Answer, Answering, Gave, answer_step, answer_to, awaits_at, awaits_in}
use Rattle.blk.specs.declared.request.Request.{Request}
use Rattle.blk.proofs.Runs.{are_sound_after, taken_by}
use Rattle.blk.proofs.block.Block.disk_gave.Goals as goal

refused_to : (base : ℕ) (requests : List Request) (k : ℕ) (answer : Answer) (o : Option Request) → awaits_in o answer ≡ false → answer_to base requests k answer o ≡ record { taken = false; writes = []; requests = requests }
refused_to base requests k answer None kept = refl
refused_to base requests k answer (Some r) kept = rw kept refl

refused : (base : ℕ) (requests : List Request) (k : ℕ) (answer : Answer) → awaits_at requests k answer ≡ false → answer_step base requests k answer ≡ record { taken = false; writes = []; requests = requests }
refused base requests k answer kept = refused_to base requests k answer (slice_get requests k) kept

pub returns-clause-ram : goal.returns-clause-ram
returns-clause-ram g c =
    let items = c.self.inside.0.1.1.1.0.list.items in
    let by = taken_by items c.args.k (Gave c.args.bytes.now) (sym c.awaits_bytes.ensures ∙ c.if-not-awaits_bytes.false) in
    let same : c.index_mut-request.result.now ≡ by.0 = c.index_mut-request.ensures.value ∙ get_or_from_slice_get items c.args.k by.0 c.index_mut-request.result.now by.1 in
    let told = rw (c.as_slice.ensures, same, place_writes_take) at c.copy_in_with_base.ensures.bytes in
    rw (← c.self.view_is, by.1, by.2) told

pub returns-clause-touches : goal.returns-clause-touches
returns-clause-touches g c =
    let items = c.self.inside.0.1.1.1.0.list.items in
    let by = taken_by items c.args.k (Gave c.args.bytes.now) (sym c.awaits_bytes.ensures ∙ c.if-not-awaits_bytes.false) in
    let same : c.index_mut-request.result.now ≡ by.0 = c.index_mut-request.ensures.value ∙ get_or_from_slice_get items c.args.k by.0 c.index_mut-request.result.now by.1 in
    let log = rw (c.as_slice.ensures, same, place_writes_take) at c.copy_in_with_base.ensures.log in
    let rises = rw (c.as_slice.ensures, same, place_writes_take) at c.copy_in_with_base.ensures.rises in
    rw (← c.self.view_is, by.1, by.2) (record { log_is = log; rises = rises })

pub returns-clause-sound : goal.returns-clause-sound
returns-clause-sound g c = λ q limits base sound.
    let items = c.self.inside.0.1.1.1.0.list.items in
    let answer = Gave c.args.bytes.now in
    let by = taken_by items c.args.k answer (sym c.awaits_bytes.ensures ∙ c.if-not-awaits_bytes.false) in
    let same : c.index_mut-request.result.now ≡ by.0 = c.index_mut-request.ensures.value ∙ get_or_from_slice_get items c.args.k by.0 c.index_mut-request.result.now by.1 in
    let after = are_sound_after (length c.args.ram.now.bytes) q limits items c.args.k by.0 answer (rw (← c.self.view_is) at sound) by.1 by.2 in
    rw (c.copy_in_with_base.ensures.after.later.bytes, c.do_more.ensures, same) after

pub returns-then-not-awaits_bytes-clause-taken : goal.returns-then-not-awaits_bytes-clause-taken
returns-then-not-awaits_bytes-clause-taken g c =
    let kept : awaits_at c.args.self.now.requests c.args.k (Gave c.args.bytes.now) ≡ false = rw (← c.self.view_is) (sym c.awaits_bytes.ensures ∙ c.if-not-awaits_bytes.true) in
    let is = refused c.args.base c.args.self.now.requests c.args.k (Gave c.args.bytes.now) kept in
    ap (λ (a : Answering). a.taken) (sym is)

pub returns-then-not-awaits_bytes-clause-block : goal.returns-then-not-awaits_bytes-clause-block
returns-then-not-awaits_bytes-clause-block g c =
    let kept : awaits_at c.args.self.now.requests c.args.k (Gave c.args.bytes.now) ≡ false = rw (← c.self.view_is) (sym c.awaits_bytes.ensures ∙ c.if-not-awaits_bytes.true) in
    let is = refused c.args.base c.args.self.now.requests c.args.k (Gave c.args.bytes.now) kept in
    ap (λ (a : Answering). with_requests c.args.self.now a.requests) (sym is)

pub returns-then-not-awaits_bytes-clause-ram : goal.returns-then-not-awaits_bytes-clause-ram
returns-then-not-awaits_bytes-clause-ram g c =
    let kept : awaits_at c.args.self.now.requests c.args.k (Gave c.args.bytes.now) ≡ false = rw (← c.self.view_is) (sym c.awaits_bytes.ensures ∙ c.if-not-awaits_bytes.true) in
    let is = refused c.args.base c.args.self.now.requests c.args.k (Gave c.args.bytes.now) kept in
    ap (λ (a : Answering). set_all c.args.ram.now.bytes a.writes) (sym is)

pub returns-then-not-awaits_bytes-clause-touches : goal.returns-then-not-awaits_bytes-clause-touches
returns-then-not-awaits_bytes-clause-touches g c =
    let kept : awaits_at c.args.self.now.requests c.args.k (Gave c.args.bytes.now) ≡ false = rw (← c.self.view_is) (sym c.awaits_bytes.ensures ∙ c.if-not-awaits_bytes.true) in
    let is = refused c.args.base c.args.self.now.requests c.args.k (Gave c.args.bytes.now) kept in
    subst (λ (a : Answering). Touches g.L.TouchLog.after c.args.log.now c.args.log.now c.args.ram.now c.args.ram.now (touched a.writes)) (sym is)
    (touches_none g.L.TouchLog.after c.args.log.now c.args.log.now c.args.ram.now c.args.ram.now refl refl)

pub returns-then-not-awaits_bytes-clause-sound : goal.returns-then-not-awaits_bytes-clause-sound
returns-then-not-awaits_bytes-clause-sound g c = λ q limits base sound. sound

pub returns-clause-taken : goal.returns-clause-taken
returns-clause-taken g c =
    let items = c.self.inside.0.1.1.1.0.list.items in
    let by = taken_by items c.args.k (Gave c.args.bytes.now) (sym c.awaits_bytes.ensures ∙ c.if-not-awaits_bytes.false) in
    rw (← c.self.view_is, by.1, by.2) refl

pub returns-clause-block : goal.returns-clause-block
returns-clause-block g c =
    let items = c.self.inside.0.1.1.1.0.list.items in
    let by = taken_by items c.args.k (Gave c.args.bytes.now) (sym c.awaits_bytes.ensures ∙ c.if-not-awaits_bytes.false) in
    let same : c.index_mut-request.result.now ≡ by.0 = c.index_mut-request.ensures.value ∙ get_or_from_slice_get items c.args.k by.0 c.index_mut-request.result.now by.1 in
    rw (← c.self.view_is, by.1, by.2, c.do_more.ensures, same) refl

pub returns-clause-after : goal.returns-clause-after
returns-clause-after g c = c.copy_in_with_base.ensures.after
