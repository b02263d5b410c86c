use Rattle.live_core.proofs.Counting.{counts_add}
use Rattle.live_core.proofs.laws.counts_add_up.Goals as goal

pub returns : goal.returns
returns c = counts_add
