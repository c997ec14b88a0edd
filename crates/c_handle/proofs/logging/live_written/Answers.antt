use Rattle.c_handle.proofs.PageLogs.{served_fits, none_served}
use Rattle.c_handle.proofs.logging.live_written.Goals as goal

pub returns-in-None-clause-logged : goal.returns-in-None-clause-logged
returns-in-None-clause-logged g c = none_served _ _ _ _ _ c.in-None.is c.write_ram.ensures.served

pub returns-clause-fits : goal.returns-clause-fits
returns-clause-fits g c = served_fits _ _ _ _ _ _ c.requires.fits c.write_ram_logged.ensures.served
