use Rattle.std.proofs.Common.{rules, ◌≡◌, true}
use Rattle.std.specs.Str.{bytes_eq}
use Rattle.std.proofs.lemmas.Slice.Eq.{bytes_eq-Decides}
use Rattle.machine.specs.Applied.{IsFound}
use Rattle.machine.specs.EffectLaws.{sector_on, sectors_on}
use Rattle.machine.specs.Seen.{all_marks, marks_at, state_of}
use Rattle.vmig.proofs.ComparingSteady.{steady_at}
use Rattle.vmig.proofs.Likeness.{both_good}
use Rattle.vmig.proofs.comparing.have_same_sector.Goals as goal

pub returns-else-not-is_good-clause-same : goal.returns-else-not-is_good-clause-same
returns-else-not-is_good-clause-same g c = λ a_steady b_steady.
    let a = c.args.a.now in
    let b = c.args.b.now in
    let a_found : IsFound (marks_at (all_marks a) c.args.dev) (sector_on (sectors_on (state_of a) c.args.dev) c.args.n) c.read_sector.new.buf true = search rules in
    let b_found : IsFound (marks_at (all_marks b) c.args.dev) (sector_on (sectors_on (state_of b) c.args.dev) c.args.n) c.read_sector-2.new.buf true = search rules in
    let same = both_good c.read_sector.new.buf c.read_sector-2.new.buf (marks_at (all_marks a) c.args.dev) (marks_at (all_marks b) c.args.dev) _ _ (steady_at (all_marks a) c.args.dev a_steady).0 (steady_at (all_marks b) c.args.dev b_steady).0 a_found b_found in
    let eq : c.eq.result ≡ bytes_eq c.read_sector.new.buf c.read_sector-2.new.buf = search rules in
    let decides = bytes_eq-Decides c.read_sector.new.buf c.read_sector-2.new.buf in
    rw eq (λ is. same.0 (decides.0 is), λ is. decides.1 (same.1 is))
