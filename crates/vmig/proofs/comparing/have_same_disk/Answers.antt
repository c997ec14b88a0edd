use Rattle.std.proofs.Common.{rules, ◌≡◌, refl, arith}
use Rattle.machine.specs.Seen.{state_of}
use Rattle.sender.specs.Items.{size_on}
use Rattle.sender.proofs.Disks.{sector_there, size_told}
use Rattle.vmig.proofs.Likeness.{disk_same, disk_sized}
use Rattle.vmig.proofs.comparing.have_same_disk.Goals as goal

pub returns-then-other-size-clause-same : goal.returns-then-other-size-clause-same
returns-then-other-size-clause-same g c = λ _ _.
    let a = state_of c.args.a.now in
    let b = state_of c.args.b.now in
    let a_size : c.sectors-size.result ≡ size_on a c.args.dev = search (rules, size_told a c.shapes.result.now) in
    let b_size : c.sectors-other.result ≡ size_on b c.args.dev = search (rules, size_told b c.shapes-2.result.now) in
    (λ wrong. cc, λ same. absurd (omega (arith, c.if-other-size.true, a_size, b_size, disk_sized a b c.args.dev c.shapes.ensures.sound c.shapes-2.ensures.sound c.requires.here c.requires.there same)))

pub loop-n-init : goal.loop-n-init
loop-n-init g c =
    let a = state_of c.args.a.now in
    let b = state_of c.args.b.now in
    record {
      a_sound = c.shapes.ensures.sound;
      b_sound = c.shapes-2.ensures.sound;
      a_size = search (rules, size_told a c.shapes.result.now);
      b_size = (let b_size : c.sectors-other.result ≡ size_on b c.args.dev = search (rules, size_told b c.shapes-2.result.now) in omega (arith, c.if-other-size.false, b_size));
      a_state = refl;
      b_state = refl;
      a_marks = refl;
      b_marks = refl;
      same = λ _ _ k below. absurd (omega (arith, below));
    }

pub have_same_sector-requires-clause-here : goal.have_same_sector-requires-clause-here
have_same_sector-requires-clause-here g c =
    let i = c.loop-n.invariant in
    sector_there (state_of c.args.a.now) (state_of c.loop-n.a) c.args.dev c.loop-n.n i.a_sound i.a_state (omega (arith, i.a_size, c.loop-n-test.true))

pub have_same_sector-requires-clause-there : goal.have_same_sector-requires-clause-there
have_same_sector-requires-clause-there g c =
    let i = c.loop-n.invariant in
    sector_there (state_of c.args.b.now) (state_of c.loop-n.b) c.args.dev c.loop-n.n i.b_sound i.b_state (omega (arith, i.b_size, c.loop-n-test.true))

pub returns-clause-same : goal.returns-clause-same
returns-clause-same g c = λ a_steady b_steady.
    let i = c.loop-n.invariant in
    let all = disk_same (state_of c.args.a.now) (state_of c.args.b.now) c.args.dev c.sectors-size.result i.a_sound i.b_sound c.requires.here c.requires.there i.a_size i.b_size (λ k below. i.same a_steady b_steady k (omega (arith, below, c.loop-n-test.false))) in
    (λ _. all, λ _. refl)
