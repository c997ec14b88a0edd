use Rattle.std.proofs.Common.{rules}
use Rattle.chains.specs.declared.next.Next.TheVariants.{Chain}
use Rattle.chains.proofs.FrameLaws.{fits_on}
use Rattle.chains.proofs.looking.look.Goals as goal

pub returns-then-not-fits-clause-gives : goal.returns-then-not-fits-clause-gives
returns-then-not-fits-clause-gives g c = record { answer = Chain c.next_into.new.chain; answers = c.in-Chain.ensures.gives; is = search rules }

pub returns-else-not-fits-clause-gives : goal.returns-else-not-fits-clause-gives
returns-else-not-fits-clause-gives g c = (record { answer = Chain c.next_into.new.chain; answers = c.in-Chain.ensures.gives; is = search rules }, search rules)

pub returns-in-Empty-clause-after : goal.returns-in-Empty-clause-after
returns-in-Empty-clause-after g c = record {
  later = c.note_empty.ensures.after.later;
  pages = c.note_empty.ensures.after.pages;
  fits = fits_on _ _ _ _ c.in-Empty.ensures.fits c.note_empty.ensures.after.later c.note_empty.ensures.decoder;
}
