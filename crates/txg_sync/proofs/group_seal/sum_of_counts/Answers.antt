use Rattle.std.proofs.Common.{rules}
use Rattle.txg_sync.proofs.PlannedSeals.{all_summed}
use Rattle.txg_sync.proofs.group_seal.sum_of_counts.Goals as goal

pub returns : goal.returns
returns c = all_summed _ c.entries.entry-index c.args.entries.now c.entries.invariant.0 (search rules)
