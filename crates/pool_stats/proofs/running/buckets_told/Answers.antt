use Rattle.std.proofs.Common.{ℕ, arith}
use Rattle.std.proofs.lemmas.List.FromFn.{fill_by_all}
use Rattle.pool_stats.specs.Totals.{bucket_told, bucket_at}
use Rattle.pool_stats.proofs.running.buckets_told.Goals as goal

pub returns : goal.returns
returns c =
    fill_by_all (λ (b : ℕ). bucket_told b (bucket_at c.args.buckets.now b)) c.loop-b.told 21
    (record { low = 0; keys = 0; allocated = 0; referenced = 0 }) c.loop-b.invariant.0 (λ k h. c.loop-b.invariant.1 k _ (omega arith))
