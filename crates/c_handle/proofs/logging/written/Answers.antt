use Rattle.c_handle.proofs.PageLogs.{applied_fits, none_kept}
use Rattle.c_handle.proofs.logging.written.Goals as goal

pub returns-in-None-clause-logged : goal.returns-in-None-clause-logged
returns-in-None-clause-logged g c = none_kept _ _ _ _ _ c.in-None.is c.write_ram.ensures.applied

pub returns-clause-fits : goal.returns-clause-fits
returns-clause-fits g c = applied_fits _ _ _ _ _ _ c.requires.fits c.write_ram_logged.ensures.applied
