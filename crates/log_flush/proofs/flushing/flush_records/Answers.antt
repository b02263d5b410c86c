use Rattle.std.proofs.Common.{rules, ◌∙◌, ap}
use Rattle.log_flush.specs.Flushing.{first_flushed}
use Rattle.log_flush.proofs.Records.{so_flushed-more}
use Rattle.log_flush.proofs.flushing.flush_records.Goals as goal

pub records-preserved : goal.records-preserved
records-preserved g c = (
  c.in_ok-flush_first.ensures.flushed ∙ ap first_flushed c.records.invariant.0 ∙ so_flushed-more c.records.counter _,
  search rules,
  search rules,
)
