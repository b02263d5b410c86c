use Rattle.std.proofs.Common.{◌∙◌, ap}
use Rattle.pool_stats.specs.Totals.{stats_by}
use Rattle.pool_stats.specs.declared.running.RunningTotals.{RunningTotals}
use Rattle.pool_stats.proofs.HomeStats.{stats_are}
use Rattle.pool_stats.proofs.running.RunningTotals.stats.Goals as goal

pub returns : goal.returns
returns c pool homes kept are =
    c.told.ensures
    ∙ ap (λ (t : RunningTotals). stats_by t c.args.slots c.args.plain) kept ∙ stats_are pool homes c.args.slots c.args.plain are
