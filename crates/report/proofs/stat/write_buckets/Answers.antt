use Rattle.report.proofs.StatLemmas.{buckets_text-used, buckets_text-unused}
use Rattle.report.proofs.Written.{Remains-cut, Remains-more, Remains-same}
use Rattle.report.proofs.stat.write_buckets.Goals as goal
use Rattle.report.proofs.stat.write_buckets.Goals.{then-bucket-ne0+in_ok-write_bucket, else-bucket-ne0}

pub returns-in_err-write_bucket : goal.returns-in_err-write_bucket
returns-in_err-write_bucket g c =
    Remains-cut c.from_residual.ensures.0
    (buckets_text-used _ _ _ c.buckets-test.true c.if-bucket-ne0.true) c.buckets.invariant c.in_err-write_bucket.ensures

pub buckets-preserved : goal.buckets-preserved
buckets-preserved g c =
    elim c.if-bucket-ne0.branch [
      | then-bucket-ne0+in_ok-write_bucket w ↦
          rw w.out-is (Remains-more
          (buckets_text-used _ _ _ c.buckets-test.true w.if-bucket-ne0.true) c.buckets.invariant w.in_ok-write_bucket.ensures)
      | else-bucket-ne0 w ↦ rw w.out-is
          (Remains-same (buckets_text-unused _ _ _ c.buckets-test.true w.if-bucket-ne0.false) c.buckets.invariant)
    ]
