use Rattle.std.proofs.Common.{◌≡◌, [], ap, sym, subst, ◌∙◌}
use Rattle.machine.specs.First.{dealt_marks}
use Rattle.machine.specs.Seen.{state_of}
use Rattle.machine.specs.Layout.{pages_of}
use Rattle.machine.specs.Limits.{IsWithinLimits}
use Rattle.wire.specs.Stream.{shapes_in}
use Rattle.receiver.specs.Disks.{AreHonestDisks, disk_marks_of, sizes_of}
use Rattle.receiver.specs.Opened.{HasPages, terms_at}
use Rattle.receiver.specs.declared.ram_terms.RamTerms.{RamTerms}
use Rattle.receiver.proofs.Counting.{slice_told, slice_cut, told_at_once}
use Rattle.receiver.proofs.Whole.{stream_rounds}
use Rattle.receiver.proofs.slice.receive_with.Goals as goal

pub returns-in-Err : goal.returns-in-Err
returns-in-Err g c = record {
  arrived = tt;
  received = tt;
  marks = tt;
  based = tt;
  within = tt;
  fits = tt;
  whole = tt;
  refused =
      let told = told_at_once _ _ c.args.bytes.now c.in-Err.error (rw (c.with_terms-receiver.ensures.ram, c.with_terms-receiver.ensures.sizes) at (c.in-Err.ensures.told [] c.with_terms-receiver.ensures.fed)) in
      slice_told _ _ _ _ c.args.bytes.now c.in-Err.error (rw c.with_terms-receiver.ensures.marks at c.in-Err.ensures.marks) told;
}

pub returns-in-Ok : goal.returns-in-Ok
returns-in-Ok g c = record {
  arrived = c.in-Ok.ensures.arrived c.args.bytes.now (c.in_default.ensures.fed [] c.with_terms-receiver.ensures.fed);
  received =
      λ honest.
      let fed = c.in_default.ensures.fed [] c.with_terms-receiver.ensures.fed in
      let m = state_of c.in-Ok.machine in
      let same : c.feed.new.self.marks ≡ disk_marks_of g.D.Disk.state c.args.disks.items = c.in_default.ensures.marks ∙ c.with_terms-receiver.ensures.marks in
      let ram : c.feed.new.self.ram ≡ terms_at c.args.terms = c.feed.ensures.ram ∙ c.with_terms-receiver.ensures.ram in
      let stream = c.in-Ok.ensures.received (subst AreHonestDisks (sym same) honest) c.args.bytes.now fed in
      record {
        stream = stream;
        rounds_are = stream_rounds c.feed.new.self.ram c.feed.new.self.sizes c.args.bytes.now m c.rounds-rounds.result stream c.in-Ok.ensures.based (subst (λ (r : RamTerms). HasPages r (pages_of m)) (sym ram) tt) c.in-Ok.ensures.within c.in-Ok.ensures.fits (c.rounds-rounds.ensures.rounds c.args.bytes.now fed);
      };
  marks =
      let same : c.feed.new.self.marks ≡ disk_marks_of g.D.Disk.state c.args.disks.items = c.in_default.ensures.marks ∙ c.with_terms-receiver.ensures.marks in
      c.in-Ok.ensures.marks ∙ ap (λ ms. dealt_marks (shapes_in (state_of c.in-Ok.machine).devices) ms) same;
  based = c.in-Ok.ensures.based ∙ ap (λ (r : RamTerms). r.base) (c.feed.ensures.ram ∙ c.with_terms-receiver.ensures.ram);
  within = subst (λ (r : RamTerms). IsWithinLimits r.limits (state_of c.in-Ok.machine)) (c.feed.ensures.ram ∙ c.with_terms-receiver.ensures.ram) c.in-Ok.ensures.within;
  fits =
      let sizes : c.feed.new.self.sizes ≡ sizes_of g.D.Disk.state c.args.disks.items = c.feed.ensures.sizes ∙ c.with_terms-receiver.ensures.sizes in
      rw sizes at c.in-Ok.ensures.fits;
  whole =
      let ram : c.feed.new.self.ram ≡ terms_at c.args.terms = c.feed.ensures.ram ∙ c.with_terms-receiver.ensures.ram in
      let sizes : c.feed.new.self.sizes ≡ sizes_of g.D.Disk.state c.args.disks.items = c.feed.ensures.sizes ∙ c.with_terms-receiver.ensures.sizes in
      rw (ram, sizes) at (c.in-Ok.ensures.whole c.args.bytes.now (c.in_default.ensures.fed [] c.with_terms-receiver.ensures.fed));
  refused = tt;
}

pub returns-in-Err-finish : goal.returns-in-Err-finish
returns-in-Err-finish g c = record {
  arrived = tt;
  received = tt;
  marks = tt;
  based = tt;
  within = tt;
  fits = tt;
  whole = tt;
  refused =
      let quiet = rw (c.with_terms-receiver.ensures.ram, c.with_terms-receiver.ensures.sizes) at (c.in_default.ensures.quiet [] c.with_terms-receiver.ensures.fed) in
      slice_cut _ _ _ c.args.bytes.now c.in-Err-finish.error (c.in-Err-finish.ensures.refused c.args.bytes.now (c.in_default.ensures.fed [] c.with_terms-receiver.ensures.fed)) quiet;
}
