-- The lines of the buckets so far were written.
use Rattle.std.proofs.Common.{drop}
use Rattle.pool_model.specs.Text.{buckets_text}
use Rattle.report.proofs.Written.{Remains}
use Rattle.report.proofs.stat.write_buckets.Given as goal

abbrev pub invariant-buckets : goal.invariant-buckets
invariant-buckets g l =
    Remains (g.W.Sink.written l.initial.out) (g.W.Sink.written l.out) (g.W.Sink.faults l.initial.out) (g.W.Sink.faults l.out)
    (buckets_text (drop l.bucket-index l.buckets)) (buckets_text l.buckets)
