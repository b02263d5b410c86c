use Rattle.std.proofs.Common.{◌≡◌, ◌≤◌}
use Rattle.log_flush.specs.Flushing.{stage_of, so_flushed}
use Rattle.log_flush.proofs.flushing.flush_records.Given as goal

abbrev pub invariant-records : goal.invariant-records
invariant-records g l =
    (stage_of l.classes l.logs l.places.items ≡ so_flushed l.counter (stage_of l.fn.classes l.fn.logs l.fn.places.items))
    × g.P.PageReader.fits l.reader l.disk × (g.P.PageReader.faults l.fn.reader ≤ g.P.PageReader.faults l.reader)
