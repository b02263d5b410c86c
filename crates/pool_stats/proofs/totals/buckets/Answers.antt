use Rattle.std.proofs.Common.{arith}
use Rattle.std.proofs.lemmas.List.FromFn.{fill_by_all}
use Rattle.pool_stats.specs.Counts.{bucket_in}
use Rattle.pool_stats.proofs.totals.buckets.Goals as goal

pub returns : goal.returns
returns c =
    fill_by_all (bucket_in c.args.counts.now) c.loop-b.buckets 21
    (record { low = 0; keys = 0; allocated = 0; referenced = 0 }) c.loop-b.invariant.0 (λ k h. c.loop-b.invariant.1 k _ (omega arith))
