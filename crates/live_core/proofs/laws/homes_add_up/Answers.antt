use Rattle.live_core.proofs.Numbering.{homes_add}
use Rattle.live_core.proofs.laws.homes_add_up.Goals as goal

pub returns : goal.returns
returns c base homes history told enough load = homes_add base homes told enough history load
