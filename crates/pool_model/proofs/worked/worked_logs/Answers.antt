use Rattle.pool_model.proofs.Logged.{changed_twice, kept_whole, changed_again, exchanged}
use Rattle.pool_model.proofs.worked.worked_logs.Goals as goal

pub returns : goal.returns
returns c = record {
  changed_twice = changed_twice;
  kept_whole = kept_whole;
  changed_again = changed_again;
  exchanged = exchanged;
}
