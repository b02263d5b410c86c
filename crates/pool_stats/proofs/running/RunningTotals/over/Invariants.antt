use Rattle.std.proofs.Common.{◌≡◌, take}
use Rattle.pool_stats.specs.Totals.{totals_in}
use Rattle.pool_stats.proofs.running.RunningTotals.over.Given as goal

abbrev pub invariant-homes : goal.invariant-homes
invariant-homes l = l.totals ≡ totals_in (take l.entry-index l.homes)
