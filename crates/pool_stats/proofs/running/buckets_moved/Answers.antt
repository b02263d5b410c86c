use Rattle.std.proofs.Common.{ℕ, arith}
use Rattle.std.proofs.lemmas.List.FromFn.{fill_by_all}
use Rattle.pool_stats.specs.Totals.{sum_moved, in_bucket, bucket_at, no_sum}
use Rattle.pool_stats.proofs.running.buckets_moved.Goals as goal

pub returns : goal.returns
returns c =
    fill_by_all (λ (b : ℕ). sum_moved c.args.len (in_bucket b c.args.before) (in_bucket b c.args.now) (bucket_at c.args.buckets.now b)) c.loop-b.changed 21
    (no_sum) c.loop-b.invariant.0 (λ k h. c.loop-b.invariant.1 k _ (omega arith))
