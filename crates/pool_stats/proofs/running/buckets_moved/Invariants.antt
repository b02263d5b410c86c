use Rattle.std.proofs.Common.{◌≡◌, ◌<◌, ℕ, length, get_or}
use Rattle.pool_stats.specs.declared.running.KeySum.{KeySum}
use Rattle.pool_stats.specs.Totals.{sum_moved, in_bucket, bucket_at}
use Rattle.pool_stats.proofs.running.buckets_moved.Given as goal

abbrev pub invariant-loop-b : goal.invariant-loop-b
invariant-loop-b l = (length l.changed ≡ 21)
    × ((k : ℕ) (d : KeySum) → k < l.b
    → get_or l.changed k d ≡ sum_moved l.fn.len (in_bucket k l.fn.before) (in_bucket k l.fn.now) (bucket_at l.fn.buckets k))
