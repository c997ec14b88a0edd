use Rattle.std.proofs.Common.{rules, arith, ◌≡◌, ◌+◌, ◌≤◌, ◌<◌, ◌++◌, ℕ, List, length, take, drop, sym, ap, subst, ◌∙◌, append_assoc, refl}
use Rattle.std.specs.Prelude.{Ok, Err}
use Rattle.std.proofs.Math.Seq.{take-add}
use Rattle.std.proofs.lemmas.List.{length-drop, length-take, take-append-drop}
use Rattle.receiver.specs.Calls.{Feeds}
use Rattle.receiver.specs.declared.recv_error.RecvError.TheVariants as errors
use Rattle.receiver.specs.Receiving.{HasBeenFed}
use Rattle.receiver.proofs.Before.{clear_next, not_due, positive}
use Rattle.receiver.proofs.Composing.{feeds_more, feeds_nothing, feeds_then, feeds_trailing}
use Rattle.receiver.proofs.receiver.Receiver+D+Told.feed_some.Goals as goal

pub loop-used-init : goal.loop-used-init
loop-used-init g c = record {
  within = omega arith;
  shorter = omega arith;
  so_far = rw (← c.self.view_is) (feeds_nothing c.self.inside.reader c.self.inside.held.items (sym c.has_failed.ensures ∙ c.if-has_failed.false));
  same = λ none. refl;
  clear = λ some. absurd (omega (arith, some));
}

pub returns-then-has_ended : goal.returns-then-has_ended
returns-then-has_ended g c =
    let i = c.loop-used.invariant in
    let s = c.self-in-loop-used in
    let piece = c.args.piece.now in
    let used = c.loop-used.used in
    let some : 0 < length (drop used piece) = omega (arith, c.loop-used-test.true, length-drop used piece) in
    let low : length c.loop-used.self.held ≤ length c.args.self.now.held + length (take used piece) = omega (arith, i.shorter, i.within, length-take used piece) in
    let last : Feeds c.loop-used.self (drop used piece) (Err errors.Trailing) c.give_up.new.self =
    rw (← s.view_is) (feeds_trailing s.inside.reader s.inside.held.items (drop used piece) c.give_up.new.self (sym c.has_ended.ensures ∙ c.if-has_ended.true) some (rw (← s.view_is) at c.give_up.ensures)) in
    let P : List ℕ → Type 0 = λ x. Feeds c.args.self.now x (Err errors.Trailing) c.give_up.new.self in
    subst P (take-append-drop used piece) (feeds_then c.args.self.now c.loop-used.self c.give_up.new.self (take used piece) (drop used piece) tt (Err errors.Trailing) i.so_far low last)

pub returns-in-Err : goal.returns-in-Err
returns-in-Err g c =
    let i = c.loop-used.invariant in
    let piece = c.args.piece.now in
    let used = c.loop-used.used in
    let count = c.clear_len-count.result in
    let rest = drop used piece in
    let bytes : c.split_at-in-loop-used.result.0.now ≡ take count rest = search rules in
    let low : length c.loop-used.self.held ≤ length c.args.self.now.held + length (take used piece) = omega (arith, i.shorter, i.within, length-take used piece) in
    let one = rw bytes at c.in-Err.ensures.feeds in
    let two = feeds_then c.args.self.now c.loop-used.self c.feed_clear.new.self (take used piece) (take count rest) tt (Err c.in-Err.error) i.so_far low one in
    let three = feeds_more c.args.self.now c.feed_clear.new.self (take used piece ++ take count rest) (drop count rest) c.in-Err.error two in
    let all : (take used piece ++ take count rest) ++ drop count rest ≡ piece =
    append_assoc (take used piece) (take count rest) (drop count rest) ∙ ap (λ (x : List ℕ). take used piece ++ x) (take-append-drop count rest) ∙ take-append-drop used piece in
    let P : List ℕ → Type 0 = λ x. Feeds c.args.self.now x (Err c.in-Err.error) c.feed_clear.new.self in
    subst P all three

pub loop-used-preserved : goal.loop-used-preserved
loop-used-preserved g c =
    let i = c.loop-used.invariant in
    let piece = c.args.piece.now in
    let used = c.loop-used.used in
    let count = c.clear_len-count.result in
    let rest = drop used piece in
    let there : c.split_at.result.1.now ≡ rest = search rules in
    let bytes : c.split_at-in-loop-used.result.0.now ≡ take count rest = search rules in
    let fits : count ≤ length rest = omega (arith, c.clear_len-count.ensures.within, ap length there) in
    let low : length c.loop-used.self.held ≤ length c.args.self.now.held + length (take used piece) = omega (arith, i.shorter, i.within, length-take used piece) in
    let many : length c.split_at-in-loop-used.result.0.now ≡ count = omega (arith, ap length bytes, length-take count rest, fits) in
    record {
      within = omega (arith, fits, i.within, length-drop used piece);
      shorter = omega (arith, c.in_default.ensures.shorter, i.shorter, many);
      so_far =
          let one = rw bytes at c.in_default.ensures.feeds in
          let P : List ℕ → Type 0 = λ x. Feeds c.args.self.now x (Ok tt) c.feed_clear.new.self in
          subst P (sym (take-add used count piece)) (feeds_then c.args.self.now c.loop-used.self c.feed_clear.new.self (take used piece) (take count rest) tt (Ok tt) i.so_far low one);
      same = λ none. absurd (c.if-count-eq0.false (omega (arith, none)));
      clear = λ some b h.
          let some_bytes : 0 < count = positive count c.if-count-eq0.false in
          let here : HasBeenFed c.loop-used.self (b ++ take used piece) = i.so_far.fed b h in
          let one = rw there at c.clear_len-count.ensures.clear some_bytes (b ++ take used piece) here.taken in
          clear_next c.loop-used.self c.feed_clear.new.self b used count piece (rw bytes at c.in_default.ensures.feeds).ram (rw bytes at c.in_default.ensures.feeds).sizes c.in_default.ensures.says one;
    }

pub returns-then-count-eq0 : goal.returns-then-count-eq0
returns-then-count-eq0 g c =
    let i = c.loop-used.invariant in
    let s = c.self-in-loop-used in
    let piece = c.args.piece.now in
    let used = c.loop-used.used in
    let there : c.split_at.result.1.now ≡ drop used piece = search rules in
    record {
      within = i.within;
      feeds = i.so_far;
      all = λ no. cc;
      due = λ yes. rw there at (c.clear_len-count.ensures.due c.if-count-eq0.true);
      same = i.same;
      before = λ some b h. rw (← s.view_is) (not_due s.inside.reader.digest s.inside.reader s.inside.held.items (b ++ take used piece) c.recall_told.ensures (rw (← s.view_is) at (i.clear some b h)) (rw (← s.view_is) at (i.so_far.fed b h)));
    }

pub returns : goal.returns
returns g c =
    let i = c.loop-used.invariant in
    let s = c.self-2 in
    let piece = c.args.piece.now in
    let used = c.loop-used.used in
    record {
      within = i.within;
      feeds = i.so_far;
      all = λ no. omega (arith, i.within, c.loop-used-test.false);
      due = λ yes. cc;
      same = i.same;
      before = λ some b h. rw (← s.view_is) (not_due s.inside.reader.digest s.inside.reader s.inside.held.items (b ++ take used piece) c.recall_told-2.ensures (rw (← s.view_is) at (i.clear some b h)) (rw (← s.view_is) at (i.so_far.fed b h)));
    }
