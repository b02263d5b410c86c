use Rattle.std.proofs.Common.{◌≡◌, ◌<◌, ℕ, length, get_or}
use Rattle.pool_model.specs.declared.stats.Bucket.{Bucket}
use Rattle.pool_stats.specs.Counts.{bucket_in}
use Rattle.pool_stats.proofs.totals.buckets.Given as goal

abbrev pub invariant-loop-b : goal.invariant-loop-b
invariant-loop-b l = (length l.buckets ≡ 21) × ((k : ℕ) (d : Bucket) → k < l.b → get_or l.buckets k d ≡ bucket_in l.counts k)
