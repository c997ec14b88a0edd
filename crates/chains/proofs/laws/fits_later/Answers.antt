use Rattle.chains.proofs.DecoderLaws.{fits_later}
use Rattle.chains.proofs.laws.fits_later.Goals as goal

pub returns : goal.returns
returns c = fits_later
