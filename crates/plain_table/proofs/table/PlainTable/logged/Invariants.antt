use Rattle.std.proofs.Common.{◌≡◌, take}
use Rattle.pool_model.specs.Table.{logged}
use Rattle.plain_table.proofs.table.PlainTable.logged.Given as goal

abbrev pub invariant-loop-change : goal.invariant-loop-change
invariant-loop-change l = l.table ≡ logged (take l.change-index l.changes) l.initial.table
