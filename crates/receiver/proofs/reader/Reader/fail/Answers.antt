use Rattle.std.proofs.Common.{ap, sym, subst, ◌∙◌}
use Rattle.receiver.specs.Receiving.{IsPastHead, ReaderSeen, place_in}
use Rattle.receiver.proofs.reader.Reader.fail.Goals as goal

pub returns-in-Records : goal.returns-in-Records
returns-in-Records g c =
    let old = sym c.replace.ensures.value ∙ c.in-Records.is in
    record {
      ram = ap (λ (v : ReaderSeen). v.ram) c.self.view_is;
      disks = ap (λ (v : ReaderSeen). v.disks) c.self.view_is;
      stage = c.replace.ensures.after;
      place = ap (place_in c.give_up.new.aside) c.replace.ensures.after ∙ c.give_up.ensures ∙ sym (ap (place_in c.self.inside.aside) old) ∙ ap (λ (v : ReaderSeen). place_in v.aside v.stage) c.self.view_is;
      aside = λ never. absurd (never (subst IsPastHead (sym old ∙ ap (λ (v : ReaderSeen). v.stage) c.self.view_is) tt));
    }
