use Rattle.std.proofs.Common.{rules, ◌≡◌, ◌+◌, ◌*◌, ℕ, length, drop, take, arith, ap, subst, sym, ◌∙◌, Some, None, false}
use Rattle.mmio.specs.declared.common.Common.{Common}
use Rattle.machine.specs.Shapes.{saved_device}
use Rattle.machine.specs.Sound.{IsSoundDevice}
use Rattle.wire.specs.DeviceBody.{IsBodyOf, has_zeroes}
use Rattle.wire.specs.BodyReading.{HasFront, common_of, kind_in, positions_in, queues_in}
use Rattle.wire.proofs.Bodies.{is_body, length-queues_in, no_front, no_kind, not_had, not_sound, read_device}
use Rattle.wire.proofs.Choices.{not_both}
use Rattle.wire.proofs.KindTexts.{kind_made}
use Rattle.wire.proofs.device_reading.decode_device_at.Goals as goal

pub returns-then-not-has_front-clause-refused : goal.returns-then-not-has_front-clause-refused
returns-then-not-has_front-clause-refused c =
    no_front c.args.version c.args.shape c.args.base c.args.ram_len c.args.body.now
    (λ form. not_both c.has_front.result (c.has_front.ensures.1 (subst (λ (n : ℕ). HasFront n c.args.body.now) (sym c.queue_count-count.ensures) form)) c.if-not-has_front.true)

pub returns-then-not-has_device-clause-refused : goal.returns-then-not-has_device-clause-refused
returns-then-not-has_device-clause-refused c =
    let common : c.common_at-common.result ≡ common_of c.args.body.now = search rules in
    not_had c.args.version c.args.shape c.args.base c.args.ram_len c.args.body.now
    (λ has. not_both c.has_device.result (c.has_device.ensures.1 (subst (λ (x : Common). c.args.version ≡ 1 → has_zeroes c.args.shape x ≡ false) (sym common) has)) c.if-not-has_device.true)

pub returns-in_default-clause-refused : goal.returns-in_default-clause-refused
returns-in_default-clause-refused c =
    let none : kind_in c.args.shape (drop (26 + 36 * c.queue_count-count.result) c.args.body.now) ≡ None = search rules in
    no_kind c.args.version c.args.shape c.args.base c.args.ram_len c.args.body.now (rw c.queue_count-count.ensures at none)

pub returns-then-not-is_sound_device-clause-refused : goal.returns-then-not-is_sound_device-clause-refused
returns-then-not-is_sound_device-clause-refused c =
    let bytes = c.args.body.now in
    let count = c.queue_count-count.ensures in
    let kind : kind_in c.args.shape (drop (26 + 36 * c.queue_count-count.result) bytes) ≡ Some c.in-Some.kind = search rules in
    let common : c.common_at-common.result ≡ common_of bytes = search rules in
    let queues : take c.queue_count-count.result c.queues_at.result.0 ≡ queues_in c.queue_count-count.result (drop 26 bytes) = search rules in
    let positions : take c.queue_count-count.result c.queues_at.result.1 ≡ positions_in c.queue_count-count.result (drop 26 bytes) = search rules in
    let read = read_device c.args.base c.args.ram_len c.args.shape bytes c.in-Some.kind _ _ _ (sym common)
    (sym (queues ∙ ap (λ (n : ℕ). queues_in n (drop 26 bytes)) count)) (sym (positions ∙ ap (λ (n : ℕ). positions_in n (drop 26 bytes)) count)) in
    not_sound c.args.version c.args.shape c.args.base c.args.ram_len bytes c.in-Some.kind (rw count at kind)
    (λ sound. not_both c.is_sound_device.result (c.is_sound_device.ensures.1 (subst (IsSoundDevice c.args.base c.args.ram_len) read sound)) c.if-not-is_sound_device.true)

pub returns-clause-read : goal.returns-clause-read
returns-clause-read c =
    let bytes = c.args.body.now in
    let count = c.queue_count-count.ensures in
    let kind : kind_in c.args.shape (drop (26 + 36 * c.queue_count-count.result) bytes) ≡ Some c.in-Some.kind = search rules in
    let common : c.common_at-common.result ≡ common_of bytes = search rules in
    let queues : take c.queue_count-count.result c.queues_at.result.0 ≡ queues_in c.queue_count-count.result (drop 26 bytes) = search rules in
    let positions : take c.queue_count-count.result c.queues_at.result.1 ≡ positions_in c.queue_count-count.result (drop 26 bytes) = search rules in
    let read = read_device c.args.base c.args.ram_len c.args.shape bytes c.in-Some.kind _ _ _ (sym common)
    (sym (queues ∙ ap (λ (n : ℕ). queues_in n (drop 26 bytes)) count)) (sym (positions ∙ ap (λ (n : ℕ). positions_in n (drop 26 bytes)) count)) in
    let long : length (take c.queue_count-count.result c.queues_at.result.0) ≡ c.queue_count-count.result = ap length queues ∙ length-queues_in c.queue_count-count.result (drop 26 bytes) in
    let kept = ap (λ (n : ℕ). saved_device c.args.base c.args.ram_len c.in-Some.kind c.common_at-common.result (take c.queue_count-count.result c.queues_at.result.0) (take n c.queues_at.result.1)) long in
    let form : HasFront c.queue_count-count.result bytes = c.has_front.ensures.0 (search rules) in
    let sound = c.is_sound_device.ensures.0 (search rules) in
    let has = c.has_device.ensures.0 (search rules) in
    subst (IsBodyOf c.args.version c.args.shape c.args.base c.args.ram_len bytes) (read ∙ sym kept ∙ sym c.restored.ensures)
    (is_body c.args.version c.args.shape c.args.base c.args.ram_len bytes c.in-Some.kind (λ i. omega (arith, c.type_inv.body i)) (subst (λ (n : ℕ). HasFront n bytes) count form) (rw count at kind) (subst (IsSoundDevice c.args.base c.args.ram_len) (sym read) sound)
    (subst (λ (x : Common). c.args.version ≡ 1 → has_zeroes c.args.shape x ≡ false) common has))

pub is_sound_device-requires-clause-made : goal.is_sound_device-requires-clause-made
is_sound_device-requires-clause-made c =
    let kind : kind_in c.args.shape (drop (26 + 36 * c.queue_count-count.result) c.args.body.now) ≡ Some c.in-Some.kind = search rules in
    kind_made c.args.shape (drop (26 + 36 * c.queue_count-count.result) c.args.body.now) c.in-Some.kind kind
