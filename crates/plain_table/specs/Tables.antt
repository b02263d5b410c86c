-- A plain program's table as the definitions see it.
use Rattle.pool_model.specs.Table.{TableState}
use Rattle.plain_table.specs.declared.table.PlainTable.TheInside.{Inside}

abbrev pub table_of : Inside → TableState
table_of table =
    record { zap = table.zap; flush = table.flush; active = table.active; age = table.age; checkpoint = table.checkpoint }
