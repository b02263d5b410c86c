-- A plain program's table with its logs, as the definitions see it.
use Rattle.std.specs.Prelude.{List, ◌==◌}
use Rattle.ddt_entry.specs.declared.entry.Change.{Change}
use Rattle.pool_model.specs.Table.{TableState}
use Rattle.pool_model.specs.Logs.{Logs, appended, emptied_log, exchanged}
use Rattle.pool_model.specs.Replaying.{LoggedTable}
use Rattle.plain_table.specs.declared.logged.LoggedPlainTable.{LoggedPlainTable}

abbrev pub logged_of : LoggedPlainTable → LoggedTable
logged_of logged = record { table = logged.table; logs = logged.logs }

-- the logs after a sync with these changes that left this table: where they were swapped just now, its age is 0
abbrev pub logs_by : (after : TableState) → List Change → Logs → Logs
logs_by after changes logs = exchanged (after.age == 0) (emptied_log after.flush (appended changes logs))
