use Rattle.std.proofs.Common.{rules}
use Rattle.log_flush.proofs.Records.{second_step}
use Rattle.log_flush.proofs.flushing.flush.Goals as goal

pub returns-clause-step : goal.returns-clause-step
returns-clause-step g c = λ some. second_step _ _ _ some (search rules) (search rules)
