-- The last step of a sync of a table with its logs, and what one of the group's changes makes of the sums over the counted homes.
use Rattle.std.specs.Prelude.{List}
use Rattle.ddt_entry.specs.Changes.{key_in}
use Rattle.ddt_entry.specs.declared.entry.Change.{Change}
use Rattle.ddt_entry.specs.declared.entry.Entry.{Entry}
use Rattle.log_pair.specs.Paired.{Paired, with_change}
use Rattle.pool_model.specs.Logs.{exchanged}
use Rattle.pool_model.specs.Replaying.{LoggedTable}
use Rattle.pool_model.specs.Table.{TableState, home_in, found, aged, is_due, swapped}
use Rattle.pool_stats.specs.Totals.{count_in, totals_moved}
use Rattle.pool_stats.specs.declared.running.RunningTotals.{RunningTotals}
use Rattle.table_state.specs.Kept.{kept_in}

-- the active log is a group older, and becomes the flushing one where it is due
abbrev pub third_step : LoggedTable → LoggedTable
third_step kept = record { table = swapped kept.table; logs = exchanged (is_due (aged kept.table)) kept.logs }

-- the table of these stored homes and logs, whose age nothing here asks for
abbrev pub table_over : List Entry → Paired → TableState
table_over zap pair = (kept_in zap pair 0).table

-- the logs so far, and the sums over the homes that their table counts
pub record CountedLogs : Type 0 where
  pub pair : Paired
  pub totals : RunningTotals

-- a change goes to the logs, and the count of its key from what the table had to what the change says
abbrev pub counted_change : (zap : List Entry) → CountedLogs → Change → CountedLogs
counted_change zap counted change = record {
  pair = with_change change counted.pair;
  totals = totals_moved (key_in change).len (count_in (found (table_over zap counted.pair) (key_in change))) (count_in (home_in change))
      counted.totals;
}

abbrev pub counted_as : Paired → RunningTotals → CountedLogs
counted_as pair totals = record { pair = pair; totals = totals }
