-- The rows so far were written.
use Rattle.std.proofs.Common.{drop}
use Rattle.std.specs.List.{flat_map}
use Rattle.pool_model.specs.Text.{number_line}
use Rattle.report.proofs.Written.{Remains}
use Rattle.report.proofs.stat.write_numbers.Given as goal

abbrev pub invariant-rows : goal.invariant-rows
invariant-rows g l =
    Remains (g.W.Sink.written l.initial.out) (g.W.Sink.written l.out) (g.W.Sink.faults l.initial.out) (g.W.Sink.faults l.out)
    (flat_map (λ row. number_line row.0.now row.1) (drop l.name-index l.rows)) (flat_map (λ row. number_line row.0.now row.1) l.rows)
