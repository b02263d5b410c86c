use Rattle.report.proofs.StatLemmas.{sums_text-rows}
use Rattle.report.proofs.Written.{Wrote-same}
use Rattle.report.proofs.stat.write_sums.Goals as goal

pub returns : goal.returns
returns g c = Wrote-same (sums_text-rows c.args.stats.now) c.write_numbers.ensures
