use Rattle.std.proofs.Common.{◌≡◌, take, fold}
use Rattle.pool_model.specs.Table.{flush_entry}
use Rattle.plain_table.proofs.sync.all_flushed.Given as goal

abbrev pub invariant-changes : goal.invariant-changes
invariant-changes l = l.zap ≡ fold flush_entry l.initial.zap (take l.change-index l.left)
