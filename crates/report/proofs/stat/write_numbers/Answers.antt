use Rattle.pool_model.specs.Text.{number_line}
use Rattle.report.proofs.Written.{Remains-cut, Remains-more, flat_map-splits}
use Rattle.report.proofs.stat.write_numbers.Goals as goal

pub returns-in_err-write_number : goal.returns-in_err-write_number
returns-in_err-write_number g c =
    Remains-cut c.from_residual.ensures.0
    (flat_map-splits (λ row. number_line row.0.now row.1) _ _ _ c.rows-test.true) c.rows.invariant c.in_err-write_number.ensures

pub rows-preserved : goal.rows-preserved
rows-preserved g c =
    Remains-more (flat_map-splits (λ row. number_line row.0.now row.1) _ _ _ c.rows-test.true) c.rows.invariant c.in_ok-write_number.ensures
