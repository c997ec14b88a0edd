use Rattle.std.proofs.Common.{arith, rules, refl, sym, ◌≡◌, ◌≤◌, ◌∙◌, ◌++◌, length, ap, false}
use Rattle.std.specs.Prelude.{Err}
use Rattle.std.specs.Vec.{vec_capacity}
use Rattle.std.proofs.lemmas.List.{length-append}
use Rattle.receiver.specs.Receiving.{has_failed}
use Rattle.receiver.proofs.Clearing.{clear_part}
use Rattle.receiver.proofs.Feeding.{true_false}
use Rattle.receiver.proofs.Looking.{no_memory_kept, piece_of_nothing, piece_refused_again}
use Rattle.receiver.proofs.Pieces.{all_parts, at_first, cut_at, next_part, part_refused}
use Rattle.receiver.proofs.Untouched.{part_untouched, same_again, stands_same, waits_on}
use Rattle.receiver.proofs.Wanting.{err_again, not_before, ok_not_err, on_err, part_wants}
use Rattle.receiver.proofs.reader.Reader.take_piece.Goals as goal

pub returns-then-has_failed-clause-pieces : goal.returns-then-has_failed-clause-pieces
returns-then-has_failed-clause-pieces g c = piece_refused_again c.args.self.now c.args.held.now.items c.args.piece.now _ (sym c.has_failed.ensures ∙ c.if-has_failed.true)

pub returns-then-is_empty-clause-pieces : goal.returns-then-is_empty-clause-pieces
returns-then-is_empty-clause-pieces g c =
    let none : length c.args.piece.now ≡ 0 = search rules in
    piece_of_nothing c.args.self.now c.args.held.now.items c.args.piece.now _ none c.requires.few (sym c.has_failed.ensures ∙ c.if-has_failed.false)

pub returns-then-is_err-clause-pieces : goal.returns-then-is_err-clause-pieces
returns-then-is_err-clause-pieces g c =
    let on : has_failed c.args.self.now.stage ≡ false = sym c.has_failed.ensures ∙ c.if-has_failed.false in
    let f = c.fail.ensures in
    record {
      ram = f.ram;
      few = tt;
      shorter = tt;
      roomy = λ roomy. tt;
      failed = ap has_failed f.stage;
      place = f.place;
      says = tt;
      already = λ failed. absurd (true_false _ failed on);
      memory = λ roomy front k clear past e.
          let full = on_err c.reserve_exact.result _ c.reserve_exact.ensures.full c.if-is_err.ensures.value in
          absurd (omega (arith, roomy past, full, c.requires.few, c.len-room.ensures));
      waits = tt;
      untouched = λ roomy front k clear never.
          let full = on_err c.reserve_exact.result _ c.reserve_exact.ensures.full c.if-is_err.ensures.value in
          stands_same f (λ past. omega (arith, roomy past, full, c.requires.few, c.len-room.ensures));
      took = λ front k clear. (no_memory_kept c.args.self.now.disks c.fail.new.self.disks f.disks, tt);
    }

pub loop-rest-init : goal.loop-rest-init
loop-rest-init g c =
    let enough : 131078 ≤ vec_capacity c.reserve_exact.new.self = search rules in
    record {
      few = rw c.reserve_exact.ensures.items c.requires.few;
      room = enough;
      shorter = omega (arith, ap length c.reserve_exact.ensures.items);
      ram = refl;
      past = λ past. past;
      place = refl;
      waits = λ head. same_again c.args.self.now;
      says = λ x h. h;
      partly = λ front known clear. rw c.reserve_exact.ensures.items (at_first c.args.self.now.ram c.args.self.now.disks c.args.self.now.digest front c.args.held.now.items c.args.piece.now c.args.self.now.stage known);
    }

pub loop-rest-preserved : goal.loop-rest-preserved
loop-rest-preserved g c =
    let t = c.in_default.ensures.takes in
    let parts : c.loop-rest.rest.now ≡ c.split_at.result.0.now ++ c.split_at.result.1.now = cut_at c.loop-rest.rest.now _ _ c.next_len.result c.split_at.ensures.front c.split_at.ensures.back in
    record {
      few = t.few;
      room = omega (arith, c.loop-rest.invariant.room, c.take_next.ensures.capacity);
      shorter = omega (arith, c.loop-rest.invariant.shorter, t.shorter, ap length parts, length-append c.split_at.result.0.now c.split_at.result.1.now);
      ram = t.ram ∙ c.loop-rest.invariant.ram;
      past = λ past. t.past (c.loop-rest.invariant.past past);
      place = t.place ∙ c.loop-rest.invariant.place;
      waits = λ head. waits_on t.waits c.loop-rest.invariant.waits head;
      says = λ x h. t.says x (c.loop-rest.invariant.says x h);
      partly = λ front known clear.
          let p = c.loop-rest.invariant.partly front known clear in
          rw t.ram (next_part c.loop-rest.self.ram _ _ _ _ c.take_next.new.self.digest _ _ c.loop-rest.rest.now _ _ _ c.loop-rest.self.stage c.take_next.new.self.stage p parts (rw t.ram at (t.took p.front p.known (clear_part _ _ _ _ _ _ _ _ _ _ _ _ p parts c.loop-rest.invariant.ram c.loop-rest.invariant.says clear))));
    }

pub returns-in-Err-clause-pieces : goal.returns-in-Err-clause-pieces
returns-in-Err-clause-pieces g c =
    let on : has_failed c.args.self.now.stage ≡ false = sym c.has_failed.ensures ∙ c.if-has_failed.false in
    let t = c.in-Err.ensures.takes in
    let i = c.loop-rest.invariant in
    let parts : c.loop-rest.rest.now ≡ c.split_at.result.0.now ++ c.split_at.result.1.now = cut_at c.loop-rest.rest.now _ _ c.next_len.result c.split_at.ensures.front c.split_at.ensures.back in
    record {
      ram = t.ram ∙ i.ram;
      few = tt;
      shorter = tt;
      roomy = λ roomy. tt;
      failed = ap has_failed t.failed;
      place = t.place ∙ i.place;
      says = tt;
      already = λ failed. absurd (true_false _ failed on);
      memory = λ roomy front known clear past e.
          let p = i.partly front known clear in
          let low = not_before c.loop-rest.self.ram _ _ c.loop-rest.self.digest front c.args.held.now.items c.args.piece.now c.loop-rest.held.items c.loop-rest.rest.now c.loop-rest.self.stage p i.shorter in
          rw (← i.ram) (part_wants c.loop-rest.self.ram _ _ c.loop-rest.self.digest _ c.loop-rest.held.items c.loop-rest.rest.now c.split_at.result.0.now c.split_at.result.1.now c.loop-rest.self.stage (length front) p parts low (t.memory p.front p.known (clear_part _ _ _ _ _ _ _ _ _ _ _ _ p parts i.ram i.says clear) (i.past past) (err_again e)));
      waits = tt;
      untouched = λ roomy front known clear never.
          let p = i.partly front known clear in
          let there = clear_part _ _ _ _ _ _ _ _ _ _ _ _ p parts i.ram i.says clear in
          part_untouched c.args.self.now c.loop-rest.self c.take_next.new.self _ c.loop-rest.held.items c.loop-rest.rest.now c.split_at.result.0.now c.split_at.result.1.now c.in-Err.error p i.ram parts i.waits (t.untouched p.front p.known there)
          (λ past is. t.memory p.front p.known there past (ap Err is)) never;
      took = λ front known clear.
          let p = i.partly front known clear in
          rw (← i.ram) (part_refused c.loop-rest.self.ram _ _ _ c.loop-rest.self.digest _ c.loop-rest.held.items c.loop-rest.rest.now c.split_at.result.0.now c.split_at.result.1.now c.loop-rest.self.stage c.in-Err.error p parts (t.took p.front p.known (clear_part _ _ _ _ _ _ _ _ _ _ _ _ p parts i.ram i.says clear)));
    }

pub returns-clause-pieces : goal.returns-clause-pieces
returns-clause-pieces g c =
    let on : has_failed c.args.self.now.stage ≡ false = sym c.has_failed.ensures ∙ c.if-has_failed.false in
    let i = c.loop-rest.invariant in
    let none : length c.loop-rest.rest.now ≡ 0 = search rules in
    record {
      ram = i.ram;
      few = i.few;
      shorter = omega (arith, i.shorter, none);
      roomy = λ roomy past. i.room;
      failed = tt;
      place = i.place;
      says = i.says;
      already = λ failed. absurd (true_false _ failed on);
      memory = λ roomy front k clear past e. absurd (ok_not_err e);
      waits = i.waits;
      untouched = tt;
      took = λ front known clear. all_parts c.loop-rest.self.ram _ _ c.loop-rest.self.digest _ c.loop-rest.held.items c.loop-rest.rest.now c.loop-rest.self.stage (i.partly front known clear) none;
    }
