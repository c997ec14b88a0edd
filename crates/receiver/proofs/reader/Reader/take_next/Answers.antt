use Rattle.std.proofs.Common.{rules, arith, ◌≡◌, ◌++◌, ap, drop, length, ◌∙◌, []}
use Rattle.std.proofs.lemmas.List.{length-append, length-drop, nil_from_length}
use Rattle.std.proofs.lemmas.Result.{err_from_is_err_and}
use Rattle.receiver.proofs.Pieces.{looked}
use Rattle.receiver.proofs.Wanting.{err_again, ok_not_err}
use Rattle.receiver.proofs.reader.Reader.take_next.Goals as goal

pub returns-then-is_empty-clause-takes : goal.returns-then-is_empty-clause-takes
returns-then-is_empty-clause-takes g c =
    let none : c.args.held.now.items ≡ [] = nil_from_length c.args.held.now.items (search rules) in
    let l = c.in_ok-count.ensures in
    let more : c.extend_from_slice.new.self.items ≡ c.args.held.now.items ++ c.split_at.result.1.now = search rules in
    let left : c.extend_from_slice.new.self.items ≡ drop c.in_ok-count.count c.args.bytes.now = more ∙ ap (λ x. x ++ c.split_at.result.1.now) none ∙ c.split_at.ensures.back in
    rw none (record {
      ram = l.ram;
      few = omega (arith, ap length left, length-drop c.in_ok-count.count c.args.bytes.now, l.few);
      shorter = omega (arith, ap length left, length-drop c.in_ok-count.count c.args.bytes.now);
      failed = tt;
      past = l.past;
      says = l.says;
      place = l.place;
      memory = λ front k clear past e. absurd (ok_not_err e);
      waits = l.waits;
      untouched = tt;
      took = λ front k clear.
          let t = l.looked front [] k clear in
          looked c.look.new.self.ram _ _ c.look.new.self.digest front c.args.bytes.now _ c.in_ok-count.count c.look.new.self.stage t left;
    })

pub returns-in_err-count-clause-takes : goal.returns-in_err-count-clause-takes
returns-in_err-count-clause-takes g c =
    let told = err_from_is_err_and c.from_residual.result c.from_residual.ensures.1 in
    let none : c.args.held.now.items ≡ [] = nil_from_length c.args.held.now.items (search rules) in
    let l = c.in_err-count.ensures in
    rw (told.1, told.2, none) (record { ram = l.ram; few = tt; shorter = tt; failed = l.failed; past = λ past. tt; place = l.place; says = tt; memory = λ front k clear past e. l.memory front [] k clear past (err_again e); waits = tt; untouched = λ front k clear never. l.untouched front [] k clear never; took = λ front k clear. l.looked front [] k clear })

pub returns-clause-takes : goal.returns-clause-takes
returns-clause-takes g c =
    let l = c.in_ok-count-2.ensures in
    let all : c.deref.result.now ≡ c.args.held.now.items ++ c.args.bytes.now = search rules in
    let left : c.drop_front.new.bytes.items ≡ drop c.in_ok-count-2.count (c.args.held.now.items ++ c.args.bytes.now) = search rules in
    record {
      ram = l.ram;
      few = omega (arith, ap length left, length-drop c.in_ok-count-2.count (c.args.held.now.items ++ c.args.bytes.now), ap length all, l.few);
      shorter = omega (arith, ap length left, length-drop c.in_ok-count-2.count (c.args.held.now.items ++ c.args.bytes.now), length-append c.args.held.now.items c.args.bytes.now);
      failed = tt;
      past = l.past;
      says = l.says;
      place = l.place;
      memory = λ front k clear past e. absurd (ok_not_err e);
      waits = l.waits;
      untouched = tt;
      took = λ front k clear.
          let t = rw all at (l.looked front c.args.held.now.items k (rw all clear)) in
          looked c.look-2.new.self.ram _ _ c.look-2.new.self.digest front (c.args.held.now.items ++ c.args.bytes.now) _ c.in_ok-count-2.count c.look-2.new.self.stage t left;
    }

pub returns-in_err-count-2-clause-takes : goal.returns-in_err-count-2-clause-takes
returns-in_err-count-2-clause-takes g c =
    let told = err_from_is_err_and c.from_residual-in_err-count-2.result c.from_residual-in_err-count-2.ensures.1 in
    let l = c.in_err-count-2.ensures in
    let all : c.deref.result.now ≡ c.args.held.now.items ++ c.args.bytes.now = search rules in
    rw (told.1, told.2) (record { ram = l.ram; few = tt; shorter = tt; failed = l.failed; past = λ past. tt; place = l.place; says = tt; memory = λ front k clear past e. rw all at (l.memory front c.args.held.now.items k (rw all clear) past (err_again e)); waits = tt; untouched = λ front k clear never. (rw all at (l.untouched front c.args.held.now.items k (rw all clear))) never; took = λ front k clear. rw all at (l.looked front c.args.held.now.items k (rw all clear)) })
