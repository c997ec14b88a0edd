use Rattle.c_handle.proofs.PageLogs.{served_fits, none_served}
use Rattle.c_handle.proofs.logging.live_gave.Goals as goal

pub returns-in-None-clause-logged : goal.returns-in-None-clause-logged
returns-in-None-clause-logged g c = none_served _ _ _ _ _ c.in-None.is c.disk_gave.ensures.served

pub returns-clause-fits : goal.returns-clause-fits
returns-clause-fits g c = served_fits _ _ _ _ _ _ c.requires.fits c.disk_gave_logged.ensures.served
