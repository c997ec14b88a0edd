use Rattle.sender.proofs.Logging.{logged_is_served as proved}
use Rattle.sender.proofs.laws.logged_is_served.Goals as goal

pub returns : goal.returns
returns g c = proved g.L.TouchLog.after
