use Rattle.std.proofs.Common.{◌≡◌, ◌<◌, ℕ, length, get_or}
use Rattle.pool_model.specs.declared.stats.Bucket.{Bucket}
use Rattle.pool_stats.specs.Totals.{bucket_told, bucket_at}
use Rattle.pool_stats.proofs.running.buckets_told.Given as goal

abbrev pub invariant-loop-b : goal.invariant-loop-b
invariant-loop-b l = (length l.told ≡ 21)
    × ((k : ℕ) (d : Bucket) → k < l.b
    → get_or l.told k d ≡ bucket_told k (bucket_at l.fn.buckets k))
