use Rattle.std.proofs.Common.{rules}
use Rattle.guestmem.proofs.Raising.{raise_one}
use Rattle.guestmem.proofs.ram.raise_page.Goals as goal

pub returns : goal.returns
returns c = raise_one c.args.versions.now c.args.page c.raised_version.result c.requires (search rules)
