use Rattle.pool_model.specs.Stats.{is_in_bucket}
use Rattle.pool_stats.proofs.Bounds.{AreFew-filter}
use Rattle.pool_stats.proofs.totals.bucket.Goals as goal

pub allocated_by-requires : goal.allocated_by-requires
allocated_by-requires c =
    rw (c.as_slice.ensures.value, c.in_ok-members.ensures)
    (AreFew-filter (λ counted. is_in_bucket c.args.b counted.count) c.args.counts.now c.requires.few)

pub referenced_by-requires : goal.referenced_by-requires
referenced_by-requires c =
    rw (c.as_slice-2.ensures.value, c.in_ok-members.ensures)
    (AreFew-filter (λ counted. is_in_bucket c.args.b counted.count) c.args.counts.now c.requires.few)
