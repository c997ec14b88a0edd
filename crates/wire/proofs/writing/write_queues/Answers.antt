use Rattle.std.proofs.Common.{rules, ◌≡◌, ◌++◌, ◌∙◌, List, [], ◌∷◌, ℕ, ap, arith, append-nil, get_or, length, refl, sym, subst}
use Rattle.std.specs.Prelude.{OnOk}
use Rattle.chains.specs.declared.position.Positions.{Positions}
use Rattle.mmio.specs.declared.queue.Queue.{Queue}
use Rattle.wire.specs.DeviceBody.{queue_text, queues_text}
use Rattle.wire.specs.Sinks.{Appends, Takes}
use Rattle.wire.specs.declared.sink.SinkFault.{SinkFault}
use Rattle.wire.proofs.Sinks.{then_appends, then_takes}
use Rattle.wire.proofs.writing.write_queues.Goals as goal

single : {X : Type 0} (xs : List X) (d : X) → length xs ≡ 1 → xs ≡ get_or xs 0 d ∷ []
single [] d one = absurd (omega (arith, one))
single (x ∷ []) d one = refl
single (x ∷ (y ∷ xs)) d one = absurd (omega (arith, one))

pair : {X : Type 0} (xs : List X) (d : X) → length xs ≡ 2 → xs ≡ get_or xs 0 d ∷ (get_or xs 1 d ∷ [])
pair [] d two = absurd (omega (arith, two))
pair (x ∷ []) d two = absurd (omega (arith, two))
pair (x ∷ (y ∷ [])) d two = refl
pair (x ∷ (y ∷ (z ∷ xs))) d two = absurd (omega (arith, two))

one_text : (queues : List Queue) (positions : List Positions) (q : Queue) (p : Positions) (text : List ℕ) → length queues ≡ 1 → length positions ≡ 1 → text ≡ queue_text (get_or queues 0 q) (get_or positions 0 p)
    → text ≡ queues_text queues positions
one_text queues positions q p text one its is =
    is ∙ sym (append-nil (queue_text (get_or queues 0 q) (get_or positions 0 p)))
    ∙ ap (λ (ps : List Positions). queues_text (get_or queues 0 q ∷ []) ps) (sym (single positions p its))
    ∙ ap (λ (qs : List Queue). queues_text qs positions) (sym (single queues q one))

two_texts : (queues : List Queue) (positions : List Positions) (q : Queue) (p : Positions) (first second : List ℕ) → length queues ≡ 2 → length positions ≡ 2
    → first ≡ queue_text (get_or queues 0 q) (get_or positions 0 p) → second ≡ queue_text (get_or queues 1 q) (get_or positions 1 p) → first ++ second ≡ queues_text queues positions
two_texts queues positions q p first second two its is then =
    ap (λ (l : List ℕ). l ++ second) is
    ∙ ap (λ (l : List ℕ). queue_text (get_or queues 0 q) (get_or positions 0 p) ++ l) (then ∙ sym (append-nil (queue_text (get_or queues 1 q) (get_or positions 1 p))))
    ∙ ap (λ (ps : List Positions). queues_text (get_or queues 0 q ∷ (get_or queues 1 q ∷ [])) ps) (sym (pair positions p its))
    ∙ ap (λ (qs : List Queue). queues_text qs positions) (sym (pair queues q two))

pub returns-in-len1-len1-clause-out : goal.returns-in-len1-len1-clause-out
returns-in-len1-len1-clause-out g c =
    subst (λ (l : List ℕ). Appends {T = Unit {0}} {E = SinkFault} (g.S.Sink.state c.args.out.now) l c.put.result (g.S.Sink.state c.put.new.self))
    (one_text c.args.queues.now c.args.positions.now _ _ c.queue_bytes.result (search rules) (search rules) c.queue_bytes.ensures) c.put.ensures.appends

pub returns-in-len1-len1-clause-taken : goal.returns-in-len1-len1-clause-taken
returns-in-len1-len1-clause-taken g c =
    subst (λ (l : List ℕ). OnOk c.put.result (Takes (g.S.Sink.sum c.args.out.now) l (g.S.Sink.sum c.put.new.self)))
    (one_text c.args.queues.now c.args.positions.now _ _ c.queue_bytes.result (search rules) (search rules) c.queue_bytes.ensures) c.put.ensures.takes

pub returns-in_ok-put-in-len2-len2-clause-out : goal.returns-in_ok-put-in-len2-len2-clause-out
returns-in_ok-put-in-len2-len2-clause-out g c =
    let first = c.queue_bytes-in-len2-len2.result in
    let second = c.queue_bytes-in-len2-len2-2.result in
    subst (λ (l : List ℕ). Appends {T = Unit {0}} {E = SinkFault} (g.S.Sink.state c.args.out.now) l c.put-in-len2-len2-2.result (g.S.Sink.state c.put-in-len2-len2-2.new.self))
    (two_texts c.args.queues.now c.args.positions.now _ _ first second (search rules) (search rules) c.queue_bytes-in-len2-len2.ensures c.queue_bytes-in-len2-len2-2.ensures)
    (then_appends (g.S.Sink.state c.args.out.now) (g.S.Sink.state c.put-in-len2-len2.new.self) (g.S.Sink.state c.put-in-len2-len2-2.new.self) first second c.in_ok-put-in-len2-len2.field-0 c.put-in-len2-len2-2.result
    c.in_ok-put-in-len2-len2.ensures.appends c.put-in-len2-len2-2.ensures.appends)

pub returns-in_ok-put-in-len2-len2-clause-taken : goal.returns-in_ok-put-in-len2-len2-clause-taken
returns-in_ok-put-in-len2-len2-clause-taken g c =
    let first = c.queue_bytes-in-len2-len2.result in
    let second = c.queue_bytes-in-len2-len2-2.result in
    subst (λ (l : List ℕ). OnOk c.put-in-len2-len2-2.result (Takes (g.S.Sink.sum c.args.out.now) l (g.S.Sink.sum c.put-in-len2-len2-2.new.self)))
    (two_texts c.args.queues.now c.args.positions.now _ _ first second (search rules) (search rules) c.queue_bytes-in-len2-len2.ensures c.queue_bytes-in-len2-len2-2.ensures)
    (then_takes (g.S.Sink.sum c.args.out.now) (g.S.Sink.sum c.put-in-len2-len2.new.self) (g.S.Sink.sum c.put-in-len2-len2-2.new.self) first second c.put-in-len2-len2-2.result
    c.in_ok-put-in-len2-len2.ensures.takes c.put-in-len2-len2-2.ensures.takes)
