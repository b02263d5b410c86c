use Rattle.std.proofs.Common.{◌≡◌, ◌*◌, ◌≤◌, take, sum_by}
use Rattle.pool_stats.proofs.totals.allocated_by.Given as goal

abbrev pub invariant-counts : goal.invariant-counts
invariant-counts l = (l.bytes ≡ sum_by (λ counted. counted.key.len) (take l.counted-index l.counts)) × (l.bytes ≤ 4096 * l.counted-index)
