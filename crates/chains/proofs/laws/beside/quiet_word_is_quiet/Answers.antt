use Rattle.chains.proofs.QuietWord.{quiet}
use Rattle.chains.proofs.laws.beside.quiet_word_is_quiet.Goals as goal

pub returns : goal.returns
returns c = quiet
